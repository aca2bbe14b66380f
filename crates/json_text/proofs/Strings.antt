-- Laws of the grammar of strings and words, one for each way through a function. Assumes nothing.
use Rattle.std.specs.Prelude.{Option, Some, None}
use Prim.Native.Nat.{ℕ, zero, suc, ◌+◌, ◌-◌, ◌≤◌, ◌<◌}
use native.Mathlib.Numerals.{sub-one}
use native.Mathlib.Omega.{arith}
use borrow.Author.Tests.{eq-eqb, ne_eqb, eqb-true}
use Rattle.std.specs.List.{starts_with, between}
use Rattle.std.proofs.lemmas.Slice.{between_to_end}
use mathlib.Core.Logic.{◌⊎◌, inl, inr}
use mathlib.Core.Path.{◌≡◌, refl, sym, ◌∙◌}
use mathlib.Core.Bool.{Bool, true, false, cond, true≢false}
use mathlib.Core.List.{List, [], ◌∷◌}
use lib.ListN.{length, drop, length-drop}
use lib.Seq.{drop-drop}
use lib.Dec.{eqb}
use Rattle.ascii.specs.Bytes.{head, tail, ◌>>=◌, is_in, is_printable, after}
use Rattle.ascii.specs.Clauses.Reader.{ByteAt, Ends}
use Rattle.json_text.specs.Json.{is_hex, is_escape, hex, hex4, escape, char, chars, string_end}
use Rattle.ascii.proofs.Bytes.{tail_drop, is_byte, no_byte, passes, next}

abbrev Escape : ℕ → Type 0
Escape b = (b ≡ 34) ⊎ ((b ≡ 47) ⊎ ((b ≡ 92) ⊎ ((b ≡ 98) ⊎ ((b ≡ 102) ⊎ ((b ≡ 110) ⊎ ((b ≡ 114) ⊎ (b ≡ 116)))))))

pub escape_yes : (b : ℕ) → Escape b → true ≡ is_escape b
unfolding is_escape
escape_yes b (inl e) = rw e
escape_yes b (inr (inl e)) = rw e
escape_yes b (inr (inr (inl e))) = rw e
escape_yes b (inr (inr (inr (inl e)))) = rw e
escape_yes b (inr (inr (inr (inr (inl e))))) = rw e
escape_yes b (inr (inr (inr (inr (inr (inl e)))))) = rw e
escape_yes b (inr (inr (inr (inr (inr (inr (inl e))))))) = rw e
escape_yes b (inr (inr (inr (inr (inr (inr (inr e))))))) = rw e

pub escape_no : (b : ℕ) → (Escape b → ⊥) → false ≡ is_escape b
unfolding is_escape
escape_no b h = simp (
  ne_eqb b 34 (λ e. h (inl e)),
  ne_eqb b 47 (λ e. h (inr (inl e))),
  ne_eqb b 92 (λ e. h (inr (inr (inl e)))),
  ne_eqb b 98 (λ e. h (inr (inr (inr (inl e))))),
  ne_eqb b 102 (λ e. h (inr (inr (inr (inr (inl e)))))),
  ne_eqb b 110 (λ e. h (inr (inr (inr (inr (inr (inl e))))))),
  ne_eqb b 114 (λ e. h (inr (inr (inr (inr (inr (inr (inl e)))))))),
  ne_eqb b 116 (λ e. h (inr (inr (inr (inr (inr (inr (inr e)))))))),
)

module _ {s : List ℕ} {at b : ℕ} (x : ByteAt s at b) where
  pub hex_yes : {t : Bool} → t ≡ is_hex b → t ≡ true → Ends s (Some (at + 1)) (hex (drop at s))
  unfolding hex is_hex is_in
  hex_yes d h = (simp (passes x is_hex d h, tail_drop), next x is_hex refl d h)

  pub hex_no : {t : Bool} → t ≡ is_hex b → t ≡ false → hex (drop at s) ≡ None
  unfolding hex
  hex_no d h = simp (passes x is_hex d h)

  pub escape_u : (r : Option ℕ) → b ≡ 117 → Ends s r (hex4 (drop (at + 1) s)) → Ends s r (escape (drop at s))
  unfolding escape
  escape_u r h k = simp (is_byte x h, tail_drop) k

  pub escape_one : {t : Bool} → (b ≡ 117 → ⊥) → t ≡ is_escape b → t ≡ true → Ends s (Some (at + 1)) (escape (drop at s))
  unfolding escape is_escape
  escape_one g d h = (simp (no_byte x g, passes x is_escape d h, tail_drop), next x is_escape refl d h)

  pub escape_bad : {t : Bool} → (b ≡ 117 → ⊥) → t ≡ is_escape b → t ≡ false → escape (drop at s) ≡ None
  unfolding escape
  escape_bad g d h = simp (no_byte x g, passes x is_escape d h)

  pub char_escape : (r : Option ℕ) → b ≡ 92 → Ends s r (escape (drop (at + 1) s)) → Ends s r (char (drop at s))
  unfolding char
  char_escape r h k = simp (is_byte x h, tail_drop) k

  pub char_plain : {t : Bool} → (b ≡ 92 → ⊥) → t ≡ is_printable b → t ≡ true → Ends s (Some (at + 1)) (char (drop at s))
  unfolding char is_in
  char_plain g d h = (simp (no_byte x g, passes x is_printable d h, tail_drop), next x is_printable refl d h)

  pub char_bad : {t : Bool} → (b ≡ 92 → ⊥) → t ≡ is_printable b → t ≡ false → char (drop at s) ≡ None
  unfolding char
  char_bad g d h = simp (no_byte x g, passes x is_printable d h)

-- four hexadecimal digits: the first, the second, the third is none; the fourth decides
module _ (s : List ℕ) (at : ℕ) (r : Option ℕ) (h : Ends s r (hex (drop at s))) where
  pub hex4_bad : r ≡ None → hex4 (drop at s) ≡ None
  unfolding hex4
  hex4_bad k = simp (rw k at h)

  module _ (i : ℕ) (k : r ≡ Some i) (q : Option ℕ) (h2 : Ends s q (hex (drop i s))) where
    pub hex4_bad_2 : q ≡ None → hex4 (drop at s) ≡ None
    unfolding hex4
    hex4_bad_2 k2 = simp ((rw k at h).0, rw k2 at h2)

    module _ (j : ℕ) (k2 : q ≡ Some j) (o : Option ℕ) (h3 : Ends s o (hex (drop j s))) where
      pub hex4_bad_3 : o ≡ None → hex4 (drop at s) ≡ None
      unfolding hex4
      hex4_bad_3 k3 = simp ((rw k at h).0, (rw k2 at h2).0, rw k3 at h3)

      pub hex4_more : (l : ℕ) (x : Option ℕ) → o ≡ Some l → Ends s x (hex (drop l s)) → Ends s x (hex4 (drop at s))
      unfolding hex4
      hex4_more l x k3 h4 = simp ((rw k at h).0, (rw k2 at h2).0, (rw k3 at h3).0) h4

pub string_start : (s : List ℕ) (at : ℕ) → string_end (drop at s) ≡ chars (length s - at) (drop at s)
unfolding string_end
string_start s at = simp length-drop

chars_step : (n : ℕ) (xs : List ℕ) → 0 < n → chars n xs ≡ cond (eqb (head xs) 34) (Some (tail xs)) (char xs >>= chars (n - 1))
unfolding chars
chars_step zero xs h = absurd (omega arith)
chars_step (suc n) xs h = rw (sub-one (suc n))

-- a string o of which fewer than n characters are to come, from position i on
module _ (s : List ℕ) (o : Option (List ℕ)) (n i : ℕ) (e : o ≡ chars n (drop i s)) where
  pub chars_none : n ≤ 0 → o ≡ None
  unfolding chars
  chars_none h = e ∙ (let z : n ≡ 0 = omega arith in rw z)

  module _ (b : ℕ) (x : ByteAt s i b) (h : 0 < n) where
    pub chars_end : b ≡ 34 → Ends s (Some (i + 1)) o
    chars_end q = (e ∙ simp (chars_step n (drop i s) h, is_byte x q, tail_drop), omega arith)

    module _ (q : b ≡ 34 → ⊥) (r : Option ℕ) (k : Ends s r (char (drop i s))) where
      pub chars_bad : r ≡ None → o ≡ None
      chars_bad z = e ∙ simp (chars_step n (drop i s) h, no_byte x q, rw z at k)

      pub chars_more : (m j : ℕ) → m ≡ n - 1 → r ≡ Some j → o ≡ chars m (drop j s)
      chars_more m j l z = rw l (e ∙ simp (chars_step n (drop i s) h, no_byte x q, (rw z at k).0))

-- a word, which the bytes begin with or not
after_is : (w xs : List ℕ) → after w xs ≡ cond (starts_with eqb xs w) (Some (drop (length w) xs)) None
unfolding after
after_is [] xs = refl
after_is (b ∷ w) [] = refl
after_is (b ∷ w) (x ∷ xs) = go (eqb x b) refl (after_is w xs)
  where
    go :
        (t : Bool) → eqb x b ≡ t → after w xs ≡ cond (starts_with eqb xs w) (Some (drop (length w) xs)) None
        → cond (eqb x b) (after w xs) None ≡ cond (starts_with eqb (x ∷ xs) (b ∷ w)) (Some (drop (length w) xs)) None
    go true e h = rw (e, eq-eqb b x (sym (eqb-true x b e))) h
    go false e h = rw (e, ne_eqb b x (λ q. true≢false (sym (eq-eqb x b (sym q)) ∙ e)))

module _ (s : List ℕ) (at : ℕ) (w : List ℕ) {t : Bool} (e : t ≡ starts_with eqb (between at (length s) s) w) where
  rest : between at (length s) s ≡ drop at s
  rest = between_to_end s at (length s) (omega arith)

  pub word_there : t ≡ true → length w ≤ length (between at (length s) s) → at ≤ length s → Ends s (Some (at + length w)) (after w (drop at s))
  word_there h l k = let room = rw (rest, length-drop) at l in
      (after_is w (drop at s) ∙ rw (← rest, ← e, h, rest, drop-drop), omega arith)

  pub word_other : t ≡ false → after w (drop at s) ≡ None
  word_other h = after_is w (drop at s) ∙ rw (← rest, ← e, h)
