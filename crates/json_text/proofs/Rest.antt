-- What the readers of values leave, whatever the value is: each definition of a value, seen through `rest`. Assumes nothing.
use Rattle.std.specs.Prelude.{Option, Some, None}
use Prim.Native.Nat.{ℕ, zero, suc, ◌-◌, ◌≤◌, ◌<◌}
use native.Mathlib.Numerals.{sub-one}
use native.Mathlib.Omega.{arith}
use mathlib.Core.Path.{◌≡◌, refl, sym, ◌∙◌}
use mathlib.Core.Bool.{Bool, true, false, cond, true≢false}
use mathlib.Core.List.{List}
use lib.ListN.{length, length-drop}
use borrow.Author.Tests.{eq-eqb, ne_eqb, eqb-true}
use Rattle.std.specs.Option.{option_eq}
use lib.Dec.{eqb}
use Rattle.ascii.specs.Bytes.{head, tail, ◌>>=◌, is_some}
use Rattle.ascii.specs.Clauses.Reader.{Ends, rest}
use Rattle.ascii.proofs.Follows.{rest_cond, rest_then, rest_map}
use Rattle.json_text.specs.Json.{Json, text, giving, skip, spaced, items, array_end, key, members, object_end, bare, scalar, value}

pub rest_giving : (f : List ℕ → Json) (o : Option (List ℕ)) → rest (giving f o) ≡ o
rest_giving f None = refl
rest_giving f (Some r) = refl

pub spaced_rest : (f : List ℕ → Option (Json × List ℕ)) (xs : List ℕ) → rest (spaced f xs) ≡ (rest (f (skip xs)) >>= λ r. Some (skip r))
unfolding spaced
spaced_rest f xs = rest_then (f (skip xs)) _ _ (λ p. refl)

-- after an item: a comma and the rest of the items, or the end
abbrev pub more : (List ℕ → Option (Json × List ℕ)) → ℕ → List ℕ → Option (List ℕ)
more f n r = cond (eqb (head r) 93) (Some (tail r)) (cond (eqb (head r) 44) (rest (items f n (tail r))) None)

pub items_rest : (f : List ℕ → Option (Json × List ℕ)) (n : ℕ) (xs : List ℕ) → 0 < n → rest (items f n xs) ≡ (rest (f xs) >>= more f (n - 1))
unfolding items
items_rest f zero xs h = absurd (omega arith)
items_rest f (suc n) xs h = rw (sub-one (suc n)) (rest_then (f xs) _ _ (λ p. simp (rest_cond, rest_map)))

pub array_rest : (f : List ℕ → Option (Json × List ℕ)) (xs : List ℕ) → rest (array_end f xs) ≡ cond (eqb (head (skip xs)) 93) (Some (tail (skip xs))) (rest (items f (length xs) xs))
unfolding array_end
array_rest f xs = simp (rest_cond, rest_map)

-- after a member: a comma and the rest of the members, or the end
abbrev pub more_members_lem : (List ℕ → Option (Json × List ℕ)) → ℕ → List ℕ → Option (List ℕ)
more_members_lem f n r = cond (eqb (head r) 125) (Some (tail r)) (cond (eqb (head r) 44) (rest (members f n (tail r))) None)

pub members_rest : (f : List ℕ → Option (Json × List ℕ)) (n : ℕ) (xs : List ℕ) → 0 < n → rest (members f n xs) ≡ (rest (key xs) >>= λ r. rest (f r) >>= more_members_lem f (n - 1))
unfolding members
members_rest f zero xs h = absurd (omega arith)
members_rest f (suc n) xs h = rw (sub-one (suc n)) (rest_then (key xs) _ _ (λ k. rest_then (f k.1) _ _ (λ p. simp (rest_cond, rest_map))))

pub object_rest : (f : List ℕ → Option (Json × List ℕ)) (xs : List ℕ) → rest (object_end f xs) ≡ cond (eqb (head (skip xs)) 125) (Some (tail (skip xs))) (rest (members f (length xs) xs))
unfolding object_end
object_rest f xs = simp (rest_cond, rest_map)

pub bare_rest : (d : ℕ) (xs : List ℕ) → 0 < d → rest (bare d xs) ≡ cond (eqb (head xs) 91) (rest (array_end (value (d - 1)) (tail xs))) (cond (eqb (head xs) 123) (rest (object_end (value (d - 1)) (tail xs))) (rest (scalar xs)))
unfolding bare
bare_rest zero xs h = absurd (omega arith)
bare_rest (suc d) xs h = rw (sub-one (suc d)) (simp rest_cond)

-- a text, from what its value leaves
abbrev pub ended : Option (List ℕ) → Bool
ended None = false
ended (Some r) = eqb (length r) 0

pub text_ended : (s : List ℕ) → is_some (text s) ≡ ended (rest (value 8 s))
unfolding text
text_ended s = go (value 8 s)
  where
    go : (o : Option (Json × List ℕ)) → is_some (o >>= λ p. cond (eqb (length p.1) 0) (Some p.0) None) ≡ ended (rest o)
    go None = refl
    go (Some p) = test (eqb (length p.1) 0)
      where
        test : (b : Bool) → is_some (cond b (Some p.0) None) ≡ b
        test true = refl
        test false = refl

same_place : (p n : ℕ) → p ≤ n → eqb p n ≡ eqb (n - p) 0
same_place p n h = go (eqb p n) refl
  where
    go : (t : Bool) → eqb p n ≡ t → t ≡ eqb (n - p) 0
    go true e = let q = eqb-true p n e in sym (eq-eqb (n - p) 0 (omega arith))
    go false e = sym (ne_eqb (n - p) 0 (λ z. true≢false (sym (eq-eqb p n (omega arith)) ∙ e)))

-- the value of a text ends where the text does, or there is none
pub text_told : (s : List ℕ) (r : Option ℕ) → Ends s r (rest (value 8 s)) → option_eq eqb r (Some (length s)) ≡ is_some (text s)
text_told s None e = sym (text_ended s ∙ rw e)
text_told s (Some p) e = same_place p (length s) e.1 ∙ sym (text_ended s ∙ rw (e.0, ended, length-drop))
