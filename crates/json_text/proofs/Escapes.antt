-- Laws of the characters of a string, one for each way through a function. Assumes nothing.
use Prim.Native.Nat.{ℕ, zero, suc, ◌+◌, ◌*◌, ◌≤◌, ◌<◌}
use native.Mathlib.Nat.{add_comm}
use native.Mathlib.Omega.{arith}
use mathlib.Core.Path.{◌≡◌, refl, sym, ap, ◌∙◌}
use mathlib.Core.Bool.{Bool, true, false}
use mathlib.Core.List.{List, [], ◌∷◌}
use lib.ListN.{length, get_or, take, drop, drop_of_length-le, length-drop}
use lib.Seq.{drop-cons, drop-drop}
use lib.Dec.{leb}
use borrow.Author.Tests.{le-leb, lt-leb}
use Rattle.ascii.specs.Bytes.{head, tail, all}
use Rattle.ascii.specs.Clauses.Reader.{ByteAt}
use Rattle.ascii.proofs.Bytes.{tail_drop, is_byte, no_byte}
use Rattle.json_text.specs.Characters.{hex_digit, hex_from, escaped, character, extra, characters_after, characters}

-- ## Where a character ends

module _ {s : List ℕ} {at b : ℕ} (x : ByteAt s at b) where
  pub width_one : (b ≡ 92 → ⊥) → 1 ≡ extra (head (drop at s)) (tail (drop at s)) + 1
  unfolding extra
  width_one h = simp (no_byte x h)

  module _ (h : b ≡ 92) {a : ℕ} (y : ByteAt s (at + 1) a) where
    pub width_six : a ≡ 117 → 6 ≡ extra (head (drop at s)) (tail (drop at s)) + 1
    unfolding extra
    width_six g = simp (is_byte x h, tail_drop, is_byte y g)

    pub width_two : (a ≡ 117 → ⊥) → 2 ≡ extra (head (drop at s)) (tail (drop at s)) + 1
    unfolding extra
    width_two g = simp (is_byte x h, tail_drop, no_byte y g)

after_drop : (k : ℕ) (xs : List ℕ) → characters_after k xs ≡ characters (drop k xs)
unfolding characters_after characters
after_drop zero [] = refl
after_drop (suc k) [] = refl
after_drop zero (b ∷ bs) = refl
after_drop (suc k) (b ∷ bs) = after_drop k bs

first : (xs : List ℕ) → 0 < length xs
    → characters xs ≡ character (head xs) (tail xs) ∷ characters (drop (extra (head xs) (tail xs)) (tail xs))
unfolding characters characters_after head tail
first [] h = absurd (omega arith)
first (b ∷ bs) h = ap (λ l. character b bs ∷ l) (after_drop (extra b bs) bs)

-- the characters from a position on, w the width of the first
module _ (s : List ℕ) (i w : ℕ) (h : i < length s) (e : w ≡ extra (head (drop i s)) (tail (drop i s)) + 1) where
  from : characters (drop i s) ≡ character (head (drop i s)) (tail (drop i s)) ∷ characters (drop (i + w) s)
  unfolding tail
  from =
      first (drop i s) (simp length-drop (omega arith))
      ∙ ap (λ l. character (head (drop i s)) (tail (drop i s)) ∷ characters l)
      (drop-drop (extra (head (drop i s)) (tail (drop i s))) 1 (drop i s)
      ∙ drop-drop (1 + extra (head (drop i s)) (tail (drop i s))) i s
      ∙ ap (λ k. drop (i + k) s) (add_comm 1 (extra (head (drop i s)) (tail (drop i s))) ∙ sym e))

  pub count_more : (n m : ℕ) → n + length (characters (drop i s)) ≡ m → n + 1 + length (characters (drop (i + w) s)) ≡ m
  count_more n m g = omega (arith, ap length from)

  pub all_more : (c : ℕ) (b : Bool) → c ≡ character (head (drop i s)) (tail (drop i s)) → c ≤ 127
      → b ≡ all (λ c. leb c 127) (characters (drop i s)) → b ≡ all (λ c. leb c 127) (characters (drop (i + w) s))
  unfolding all
  all_more c b k l g = g ∙ simp (from, ← k, le-leb _ _ l)

-- a character above 127
pub all_high : (s : List ℕ) (i c : ℕ) (b : Bool) → i < length s → c ≡ character (head (drop i s)) (tail (drop i s)) → 127 < c
    → b ≡ all (λ c. leb c 127) (characters (drop i s)) → false ≡ b
unfolding all
all_high s i c b h k l g = sym (g ∙ simp (first (drop i s) (simp length-drop (omega arith)), ← k, lt-leb _ _ l))

pub all_end : (s : List ℕ) (i : ℕ) (b : Bool) → length s ≤ i → b ≡ all (λ c. leb c 127) (characters (drop i s)) → true ≡ b
unfolding all characters characters_after
all_end s i b h g = sym (g ∙ rw (drop_of_length-le s h))

pub count_end : (s : List ℕ) (i n m : ℕ) → length s ≤ i → n + length (characters (drop i s)) ≡ m → n ≡ m
unfolding characters characters_after
count_end s i n m h g = omega (arith, rw (drop_of_length-le s h) at g)

-- ## What an escape stands for

pub digit_none : (n : ℕ) (s : List ℕ) (at : ℕ) → length s ≤ at → n ≡ hex_from n (take 1 (drop at s))
unfolding hex_from
digit_none n s at h = rw (drop_of_length-le s h)

pub digit_one : (n d : ℕ) (s : List ℕ) (at : ℕ) → at < length s → d ≡ hex_digit (get_or s at 0) → n * 16 + d ≡ hex_from n (take 1 (drop at s))
unfolding hex_from
digit_one n d s at h e = rw (drop-cons s at 0 h, e)

hex_split : (n k : ℕ) (xs : List ℕ) → hex_from n (take (suc k) xs) ≡ hex_from (hex_from n (take 1 xs)) (take k (drop 1 xs))
unfolding hex_from
hex_split n zero [] = refl
hex_split n (suc k) [] = refl
hex_split n zero (x ∷ xs) = refl
hex_split n (suc k) (x ∷ xs) = refl

-- m is n with the digit at a position, and k more are to come after it
hex_step : (s : List ℕ) (at next n m k : ℕ) → next ≡ at + 1 → m ≡ hex_from n (take 1 (drop at s))
    → hex_from n (take (suc k) (drop at s)) ≡ hex_from m (take k (drop next s))
hex_step s at next n m k e g = hex_split n k (drop at s) ∙ rw (← g, e, drop-drop 1 at s)

pub hex_value : (s : List ℕ) (at a b c d : ℕ) → a ≡ hex_from 0 (take 1 (drop at s)) → b ≡ hex_from a (take 1 (drop (at + 1) s))
    → c ≡ hex_from b (take 1 (drop (at + 2) s)) → d ≡ hex_from c (take 1 (drop (at + 3) s)) → d ≡ hex_from 0 (take 4 (drop at s))
hex_value s at a b c d e f g h =
    h
    ∙ sym (hex_step s at (at + 1) 0 a 3 refl e
    ∙ hex_step s (at + 1) (at + 2) a b 2 (omega arith) f
    ∙ hex_step s (at + 2) (at + 3) b c 1 (omega arith) g)

module _ {s : List ℕ} {at b : ℕ} (x : ByteAt s at b) where
  pub escaped_u : (r : ℕ) → b ≡ 117 → r ≡ hex_from 0 (take 4 (drop (at + 1) s)) → r ≡ escaped (drop at s)
  unfolding escaped
  escaped_u r h e = simp (is_byte x h, tail_drop) e

  pub escaped_b : b ≡ 98 → 8 ≡ escaped (drop at s)
  unfolding escaped
  escaped_b h = simp (sym x.is ∙ h)

  pub escaped_f : b ≡ 102 → 12 ≡ escaped (drop at s)
  unfolding escaped
  escaped_f h = simp (sym x.is ∙ h)

  pub escaped_n : b ≡ 110 → 10 ≡ escaped (drop at s)
  unfolding escaped
  escaped_n h = simp (sym x.is ∙ h)

  pub escaped_r : b ≡ 114 → 13 ≡ escaped (drop at s)
  unfolding escaped
  escaped_r h = simp (sym x.is ∙ h)

  pub escaped_t : b ≡ 116 → 9 ≡ escaped (drop at s)
  unfolding escaped
  escaped_t h = simp (sym x.is ∙ h)

  pub escaped_other : (b ≡ 117 → ⊥) → (b ≡ 98 → ⊥) → (b ≡ 102 → ⊥) → (b ≡ 110 → ⊥) → (b ≡ 114 → ⊥) → (b ≡ 116 → ⊥) → b ≡ escaped (drop at s)
  unfolding escaped
  escaped_other n1 n2 n3 n4 n5 n6 = simp (no_byte x n1, no_byte x n2, no_byte x n3, no_byte x n4, no_byte x n5, no_byte x n6) x.is

  pub character_escape : (r : ℕ) → b ≡ 92 → r ≡ escaped (drop (at + 1) s) → r ≡ character (head (drop at s)) (tail (drop at s))
  unfolding character
  character_escape r h e = simp (is_byte x h, tail_drop) e

  pub character_plain : (b ≡ 92 → ⊥) → b ≡ character (head (drop at s)) (tail (drop at s))
  unfolding character
  character_plain h = simp (no_byte x h) x.is
