-- `null` is the only value that begins with an `n` (110). Assumes nothing.
use Rattle.std.specs.Prelude.{Option, Some, None}
use Prim.Native.Nat.{ℕ}
use mathlib.Core.Path.{◌≡◌, refl, sym, ap, ◌∙◌}
use mathlib.Core.Bool.{Bool, true, false, cond, not, false≢true}
use mathlib.Core.List.{List}
use lib.Dec.{eqb}
use lib.ListN.{length, drop}
use borrow.Author.Tests.{eqb-true, ne_eqb, not-true, not-false}
use Rattle.ascii.specs.Bytes.{◌>>=◌, is_some, head, tail, after}
use Rattle.ascii.specs.Clauses.Reader.{ByteAt, Left}
use Rattle.ascii.specs.Text.{bytes}
use Rattle.decimal.specs.Token as Token
use Rattle.json_text.specs.Json.{Json, array, object, Items, Members, no_items, no_members, skip, giving, string_end, scalar, spaced, items, array_end, members, object_end, bare, value, text}
use Rattle.fit.specs.Fit.{Verdict, fits, wrongType, badJSON}
use Rattle.plain.specs.Answer.{null_verdict, argument_verdict}

-- the verdict on what is read, if anything is
abbrev Kind : Option (Json × List ℕ) → Verdict → Type 0
Kind None k = Unit {0}
Kind (Some p) k = null_verdict (Some p.0) ≡ k

kind_giving : (f : List ℕ → Json) (k : Verdict) → ((r : List ℕ) → null_verdict (Some (f r)) ≡ k) → (o : Option (List ℕ)) → Kind (giving f o) k
kind_giving f k h None = tt
kind_giving f k h (Some r) = h r

kind_array : (f : List ℕ → Option (Json × List ℕ)) (xs : List ℕ) → Kind (array_end f xs) wrongType
unfolding array_end null_verdict
kind_array f xs = go (eqb (head (skip xs)) 93) (items f (length xs) xs)
  where
    go : (b : Bool) (o : Option (Items × List ℕ)) → Kind (cond b (Some (array no_items, tail (skip xs))) (o >>= λ p. Some (array p.0, p.1))) wrongType
    go true o = refl
    go false None = tt
    go false (Some p) = refl

kind_object : (f : List ℕ → Option (Json × List ℕ)) (xs : List ℕ) → Kind (object_end f xs) wrongType
unfolding object_end null_verdict
kind_object f xs = go (eqb (head (skip xs)) 125) (members f (length xs) xs)
  where
    go : (b : Bool) (o : Option (Members × List ℕ)) → Kind (cond b (Some (object no_members, tail (skip xs))) (o >>= λ p. Some (object p.0, p.1))) wrongType
    go true o = refl
    go false None = tt
    go false (Some p) = refl

-- the verdict by the first byte
abbrev by_first : ℕ → Verdict
by_first b = cond (eqb b 110) fits wrongType

module _ (k : Verdict) where
  kind_if : (b : Bool) (o q : Option (Json × List ℕ)) → (b ≡ true → Kind o k) → (b ≡ false → Kind q k) → Kind (cond b o q) k
  kind_if true o q f g = f refl
  kind_if false o q f g = g refl

-- a byte other than `n`
other : (b c : ℕ) → eqb b c ≡ true → eqb c 110 ≡ false → wrongType ≡ by_first b
other b c e f = let h : b ≡ c = eqb-true b c e in rw (h, f)

kind_scalar : (xs : List ℕ) → Kind (scalar xs) (by_first (head xs))
unfolding scalar null_verdict
kind_scalar xs =
    let b = head xs in
    let k = by_first b in
    kind_if k (eqb b 34) _ _ (λ e. kind_giving _ k (λ r. other b 34 e refl) (string_end (tail xs))) λ e.
    kind_if k (eqb b 110) _ _ (λ f. kind_giving _ k (λ r. rw f) (after (bytes "null") xs)) λ f.
    kind_if k (eqb b 116) _ _ (λ g. kind_giving _ k (λ r. rw f) (after (bytes "true") xs)) λ g.
    kind_if k (eqb b 102) _ _ (λ h. kind_giving _ k (λ r. rw f) (after (bytes "false") xs)) λ h.
    kind_giving _ k (λ r. rw f) (Token.number xs)

kind_bare : (xs : List ℕ) → Kind (bare 8 xs) (by_first (head xs))
unfolding bare
kind_bare xs =
    let b = head xs in
    let k = by_first b in
    let f : List ℕ → Option (Json × List ℕ) = spaced (bare 7) in
    kind_if k (eqb b 91) (array_end f (tail xs)) (cond (eqb b 123) (object_end f (tail xs)) (scalar xs))
    (λ e. rw (← other b 91 e refl) (kind_array f (tail xs))) λ e.
    kind_if k (eqb b 123) (object_end f (tail xs)) (scalar xs) (λ g. rw (← other b 123 g refl) (kind_object f (tail xs))) λ g.
    kind_scalar xs

kind_value : (xs : List ℕ) → Kind (value 8 xs) (by_first (head (skip xs)))
unfolding spaced
kind_value xs = go (bare 8 (skip xs)) (kind_bare (skip xs))
  where
    go : (o : Option (Json × List ℕ)) → Kind o (by_first (head (skip xs)))
        → Kind (o >>= λ p. Some (p.0, skip p.1)) (by_first (head (skip xs)))
    go None h = tt
    go (Some p) h = h

kind_text : (xs : List ℕ) → is_some (text xs) ≡ true → null_verdict (text xs) ≡ by_first (head (skip xs))
unfolding text
kind_text xs = go (value 8 xs) (by_first (head (skip xs))) (kind_value xs)
  where
    if_whole : (b : Bool) (v : Json) (k : Verdict) → null_verdict (Some v) ≡ k → is_some (cond b (Some v) None) ≡ true
        → null_verdict (cond b (Some v) None) ≡ k
    if_whole true v k h e = h
    if_whole false v k h e = absurd (false≢true e)

    go : (o : Option (Json × List ℕ)) (k : Verdict) → Kind o k
        → is_some (o >>= λ p. cond (eqb (length p.1) 0) (Some p.0) None) ≡ true
        → null_verdict (o >>= λ p. cond (eqb (length p.1) 0) (Some p.0) None) ≡ k
    go None k h e = absurd (false≢true e)
    go (Some p) k h e = if_whole (eqb (length p.1) 0) p.0 k h e

-- ## The ways out of the code

no_text : (o : Option Json) → is_some o ≡ false → badJSON ≡ null_verdict o
unfolding null_verdict
no_text None e = refl
no_text (Some v) e = absurd (false≢true (sym e))

module _ (xs : List ℕ) (b : Bool) (t : b ≡ is_some (text xs)) where
  pub null_bad : not b ≡ true → badJSON ≡ argument_verdict None xs
  unfolding argument_verdict
  null_bad e = no_text (text xs) (sym t ∙ not-true b e)

  module _ (e : not b ≡ false) (p k : ℕ) (l : Left xs p (skip (drop 0 xs))) (r : ByteAt xs p k) where
    first : k ≡ head (skip xs)
    first = r.is ∙ ap head (sym l.is)

    by_first_lem : by_first k ≡ argument_verdict None xs
    unfolding argument_verdict
    by_first_lem = ap by_first first ∙ sym (kind_text xs (sym t ∙ not-false b e))

    pub null_fits : k ≡ 110 → fits ≡ argument_verdict None xs
    null_fits f = rw (← by_first_lem, f)

    pub null_wrong : (k ≡ 110 → ⊥) → wrongType ≡ argument_verdict None xs
    null_wrong f = rw (← by_first_lem, ne_eqb k 110 f)
