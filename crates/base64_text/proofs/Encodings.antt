-- A text has a size exactly if it is the encoding of so many bytes. Assumes nothing.
use Rattle.std.specs.Prelude.{Option, Some, None}
use Prim.Native.Nat.{ℕ, ◌+◌, ◌*◌, ◌/◌, ◌%◌, ◌<◌}
use native.Mathlib.Omega.{arith}
use mathlib.Core.Path.{◌≡◌, refl, ap, ◌∙◌}
use mathlib.Core.Bool.{Bool, true, false, cond, not, ◌&&◌}
use mathlib.Core.List.{List, [], ◌∷◌, ◌++◌}
use lib.Dec.{ltb, eqb, eqb-suc-zero}
use lib.ListN.{length}
use borrow.Author.Tests.{lt-ltb, eqb-true}
use Rattle.ascii.specs.Bytes.{all}
use Rattle.ascii.specs.Text.{bytes}
use Rattle.base64_text.specs.Base64.{sextet, is_sextet, is_whole, padded, more, blob_size}
use Rattle.base64_text.specs.Encoding.{character, groups, encode}
use Rattle.base64_text.specs.Theorems.{Encoded}
use Rattle.base64_text.proofs.Digits.{both, character_sextet, sextet_of, is_sextet_of, pad_no_sextet, no_pad_of, no_backslash_of, sextet_low}

-- ## Sextets of a number

module _ (n p q r s : ℕ) (hp : p < 64) (hq : q < 64) (hr : r < 64) (hs : s < 64) where
  groups_four : n ≡ ((p * 64 + q) * 64 + r) * 64 + s
      → groups 4 n ≡ character p ∷ character q ∷ character r ∷ character s ∷ []
  unfolding groups
  groups_four e =
      let h₀ : n / 262144 % 64 ≡ p = omega arith in
      let h₁ : n / 4096 % 64 ≡ q = omega arith in
      let h₂ : n / 64 % 64 ≡ r = omega arith in
      let h₃ : n / 1 % 64 ≡ s = omega arith in
      rw (h₀, h₁, h₂, h₃)

module _ (n p q r : ℕ) (hp : p < 64) (hq : q < 64) (hr : r < 64) where
  groups_three : n ≡ (p * 64 + q) * 64 + r → groups 3 n ≡ character p ∷ character q ∷ character r ∷ []
  unfolding groups
  groups_three e =
      let h₀ : n / 4096 % 64 ≡ p = omega arith in
      let h₁ : n / 64 % 64 ≡ q = omega arith in
      let h₂ : n / 1 % 64 ≡ r = omega arith in
      rw (h₀, h₁, h₂)

module _ (n p q : ℕ) (hp : p < 64) (hq : q < 64) where
  groups_two : n ≡ p * 64 + q → groups 2 n ≡ character p ∷ character q ∷ []
  unfolding groups
  groups_two e =
      let h₀ : n / 64 % 64 ≡ p = omega arith in
      let h₁ : n / 1 % 64 ≡ q = omega arith in
      rw (h₀, h₁)

-- ## An encoding has the size of what is encoded

one_sized : (p q : ℕ) → q % 64 % 16 ≡ 0
    → blob_size (character (p % 64) ∷ character (q % 64) ∷ 61 ∷ 61 ∷ []) ≡ Some 1
unfolding blob_size is_whole padded
one_sized p q u = simp (is_sextet_of, sextet_of, pad_no_sextet, u)

two_sized : (p q r : ℕ) → r % 64 % 4 ≡ 0
    → blob_size (character (p % 64) ∷ character (q % 64) ∷ character (r % 64) ∷ 61 ∷ []) ≡ Some 2
unfolding blob_size is_whole padded
two_sized p q r u = simp (is_sextet_of, sextet_of, pad_no_sextet, no_pad_of, u)

three_sized : (p q r s : ℕ) (xs : List ℕ) (n : ℕ) → blob_size xs ≡ Some n
    → blob_size (character (p % 64) ∷ character (q % 64) ∷ character (r % 64) ∷ character (s % 64) ∷ xs) ≡ Some (3 + n)
unfolding blob_size is_whole more
three_sized p q r s xs n e = simp (is_sextet_of, e)

pub encoding_sized : (bs : List ℕ) → blob_size (encode bs) ≡ Some (length bs)
unfolding blob_size encode groups bytes
encoding_sized [] = refl
encoding_sized (a ∷ []) = one_sized (a * 16 / 64) (a * 16 / 1) (omega arith)
encoding_sized (a ∷ b ∷ []) =
    two_sized ((a * 256 + b) * 4 / 4096) ((a * 256 + b) * 4 / 64) ((a * 256 + b) * 4 / 1) (omega arith)
encoding_sized (a ∷ b ∷ c ∷ bs) =
    let n = (a * 256 + b) * 256 + c in
    three_sized (n / 262144) (n / 4096) (n / 64) (n / 1) (encode bs) (length bs) (encoding_sized bs) ∙ ap Some (omega arith)

-- ## A text that has a size is an encoding

no_size : {A : Type 0} {n : ℕ} → None ≡ Some n → A
no_size e = let z : ◌≡◌ {A = ℕ} 0 1 = cc in absurd (omega arith)

-- what a size under a test says
under : (t : Bool) {o : Option ℕ} {n : ℕ} → cond t o None ≡ Some n → (t ≡ true) × (o ≡ Some n)
under true e = (refl, e)
under false e = no_size e

low_more : (b : ℕ) (bs : List ℕ) → b < 256 → all (λ b. ltb b 256) bs ≡ true → all (λ b. ltb b 256) (b ∷ bs) ≡ true
unfolding all
low_more b bs h e = rw (lt-ltb b 256 h) e

low_none : all (λ b. ltb b 256) [] ≡ true
unfolding all
low_none = refl

-- a group of four
module _ (a b c d : ℕ) (ha : is_sextet a ≡ true) (hb : is_sextet b ≡ true) where
  one_byte : sextet b % 16 ≡ 0 → c ≡ 61 → d ≡ 61 → Encoded (a ∷ b ∷ c ∷ d ∷ []) 1
  unfolding encode bytes
  one_byte u hc hd =
      let la = sextet_low a ha in let lb = sextet_low b hb in
      record {
        of = (sextet a * 4 + sextet b / 16) ∷ [];
        low = low_more _ _ (omega arith) low_none;
        count = refl;
        is =
            ap (λ l. l ++ bytes "==") (groups_two _ (sextet a) (sextet b) la lb (omega arith))
            ∙ rw (character_sextet a ha, character_sextet b hb, hc, hd);
      }

  module _ (hc : is_sextet c ≡ true) where
    two_bytes_lem : sextet c % 4 ≡ 0 → d ≡ 61 → Encoded (a ∷ b ∷ c ∷ d ∷ []) 2
    unfolding encode bytes
    two_bytes_lem u hd =
        let la = sextet_low a ha in let lb = sextet_low b hb in let lc = sextet_low c hc in
        record {
          of = (sextet a * 4 + sextet b / 16) ∷ (sextet b % 16 * 16 + sextet c / 4) ∷ [];
          low = low_more _ _ (omega arith) (low_more _ _ (omega arith) low_none);
          count = refl;
          is =
              ap (λ l. l ++ bytes "=") (groups_three _ (sextet a) (sextet b) (sextet c) la lb lc (omega arith))
              ∙ rw (character_sextet a ha, character_sextet b hb, character_sextet c hc, hd);
        }

    three_bytes : is_sextet d ≡ true → {xs : List ℕ} {n : ℕ} → Encoded xs n → Encoded (a ∷ b ∷ c ∷ d ∷ xs) (3 + n)
    unfolding encode
    three_bytes hd x =
        let la = sextet_low a ha in let lb = sextet_low b hb in let lc = sextet_low c hc in let ld = sextet_low d hd in
        record {
          of =
              (sextet a * 4 + sextet b / 16)
              ∷ (sextet b % 16 * 16 + sextet c / 4)
              ∷ (sextet c % 4 * 64 + sextet d)
              ∷ x.of;
          low = low_more _ _ (omega arith) (low_more _ _ (omega arith) (low_more _ _ (omega arith) x.low));
          count = omega (arith, x.count);
          is =
              ap (λ l. l ++ encode x.of) (groups_four _ (sextet a) (sextet b) (sextet c) (sextet d) la lb lc ld (omega arith))
              ∙ rw (character_sextet a ha, character_sextet b hb, character_sextet c hc, character_sextet d hd, x.is);
        }

-- the group of a text that is not whole is its last
module _ (a b c d : ℕ) where
  pads : (n : ℕ) (t : Bool) → eqb c 61 ≡ t → is_sextet a ≡ true → is_sextet b ≡ true → d ≡ 61
      → cond t (cond (eqb (sextet b % 16) 0) (Some 1) None) (cond (is_sextet c && eqb (sextet c % 4) 0) (Some 2) None) ≡ Some n
      → Encoded (a ∷ b ∷ c ∷ d ∷ []) n
  pads n true g ha hb hd e =
      let h = under (eqb (sextet b % 16) 0) e in
      let k : 1 ≡ n = let l = h.1 in cc in
      rw (← k) (one_byte a b c d ha hb (eqb-true _ 0 h.0) (eqb-true c 61 g) hd)
  pads n false g ha hb hd e =
      let h = under (is_sextet c && eqb (sextet c % 4) 0) e in
      let f = both (is_sextet c) h.0 in
      let k : 2 ≡ n = let l = h.1 in cc in
      rw (← k) (two_bytes_lem a b c d ha hb f.0 (eqb-true _ 0 f.1) hd)

  last : (xs : List ℕ) (n : ℕ) → cond (eqb (length xs) 0) (padded a b c d) None ≡ Some n → Encoded (a ∷ b ∷ c ∷ d ∷ xs) n
  unfolding padded
  last [] n e =
      let h = under (is_sextet a && is_sextet b && eqb d 61) e in
      let f = both (is_sextet a && is_sextet b) h.0 in
      let g = both (is_sextet a) f.0 in
      pads n (eqb c 61) refl g.0 g.1 (eqb-true d 61 f.1) h.1
  last (x ∷ xs) n e = no_size (rw (eqb-suc-zero (length xs)) at e)

  module _ (xs : List ℕ) (n : ℕ) (inner : (m : ℕ) → blob_size xs ≡ Some m → Encoded xs m) where
    whole : is_whole a b c d ≡ true → (o : Option ℕ) → blob_size xs ≡ o → more 3 o ≡ Some n → Encoded (a ∷ b ∷ c ∷ d ∷ xs) n
    unfolding is_whole more
    whole w None f e = no_size e
    whole w (Some m) f e =
        let h = both (is_sextet a && is_sextet b && is_sextet c) w in
        let g = both (is_sextet a && is_sextet b) h.0 in
        let i = both (is_sextet a) g.0 in
        let k : 3 + m ≡ n = cc in
        rw (← k) (three_bytes a b c d i.0 i.1 g.1 h.1 (inner m f))

    group : (t : Bool) → is_whole a b c d ≡ t
        → cond t (more 3 (blob_size xs)) (cond (eqb (length xs) 0) (padded a b c d) None) ≡ Some n → Encoded (a ∷ b ∷ c ∷ d ∷ xs) n
    group true w e = whole w (blob_size xs) refl e
    group false w e = last xs n e

pub sized_encoding : (t : List ℕ) (n : ℕ) → blob_size t ≡ Some n → Encoded t n
unfolding blob_size encode
sized_encoding [] n e = record { of = []; low = low_none; count = cc; is = refl }
sized_encoding (a ∷ []) n e = no_size e
sized_encoding (a ∷ b ∷ []) n e = no_size e
sized_encoding (a ∷ b ∷ c ∷ []) n e = no_size e
sized_encoding (a ∷ b ∷ c ∷ d ∷ xs) n e = group a b c d xs n (λ m h. sized_encoding xs m h) (is_whole a b c d) refl e

pub encoded_sized : (t : List ℕ) (n : ℕ) → Encoded t n → blob_size t ≡ Some n
encoded_sized t n x = rw (← x.is, ← x.count) (encoding_sized x.of)

-- ## An encoding has no escape

encoding_plain : (bs : List ℕ) → all (λ b. not (eqb b 92)) (encode bs) ≡ true
unfolding encode groups bytes all
encoding_plain [] = refl
encoding_plain (a ∷ []) = simp no_backslash_of
encoding_plain (a ∷ b ∷ []) = simp no_backslash_of
encoding_plain (a ∷ b ∷ c ∷ bs) = simp (no_backslash_of, encoding_plain bs)

pub sized_plain : (t : List ℕ) (n : ℕ) → blob_size t ≡ Some n → all (λ b. not (eqb b 92)) t ≡ true
sized_plain t n e = let x = sized_encoding t n e in rw (← x.is) (encoding_plain x.of)
