-- Laws of digits: each of the 64 values has one, and each digit has a value. Both are computed over all of them. Assumes nothing.
use Prim.Native.Nat.{ℕ, zero, suc, ◌%◌, ◌<◌}
use native.Mathlib.Omega.{arith}
use mathlib.Core.Path.{◌≡◌, refl, sym, ap, ◌∙◌}
use mathlib.Core.Bool.{Bool, true, false, not, ◌&&◌, ◌||◌, and-false, false≢true}
use lib.Dec.{leb, eqb}
use borrow.Author.Tests.{lt-ltb, ltb-true, lt-leb, leb-true, leb-false, eqb-true, eqb-false, ne_eqb}
use Rattle.ascii.specs.Bytes.{is_in}
use Rattle.ascii.specs.Text.{bytes}
use Rattle.base64_text.specs.Base64.{sextet, is_sextet}
use Rattle.base64_text.specs.Encoding.{alphabet, character}

pub both : (a : Bool) {b : Bool} → a && b ≡ true → (a ≡ true) × (b ≡ true)
both true e = (refl, e)
both false e = absurd (false≢true e)

-- ## A test of every number below n

all_below : (ℕ → Bool) → ℕ → Bool
all_below p zero = true
all_below p (suc n) = p n && all_below p n

below : (p : ℕ → Bool) (n : ℕ) → all_below p n ≡ true → (k : ℕ) → k < n → p k ≡ true
unfolding all_below
below p zero e k h = absurd (omega arith)
below p (suc n) e k h = go (eqb k n) refl (λ l. below p n (both (p n) e).1 k l)
  where
    go : (t : Bool) → eqb k n ≡ t → (k < n → p k ≡ true) → p k ≡ true
    go true g i = rw (eqb-true k n g) (both (p n) e).0
    go false g i = let d = eqb-false k n g in i (omega arith)

-- ## Values and digits

pub sextet_character : (n : ℕ) → n < 64 → sextet (character n) ≡ n
unfolding all_below sextet is_in character alphabet bytes
sextet_character n h = eqb-true _ n (below (λ k. eqb (sextet (character k)) k) 64 refl n h)

-- above 'z' there is no digit
high : (b : ℕ) → 122 < b → is_sextet b ≡ false
unfolding is_sextet sextet is_in
high b h =
    simp (lt-leb b 90 (omega arith), lt-leb b 122 h, lt-leb b 57 (omega arith), and-false, ne_eqb b 43 (omega arith), ne_eqb b 47 (omega arith))

named : (b : ℕ) → b < 123 → not (is_sextet b) || eqb (character (sextet b)) b ≡ true
unfolding all_below is_sextet sextet is_in character alphabet bytes
named b h = below (λ k. not (is_sextet k) || eqb (character (sextet k)) k) 123 refl b h

pub character_sextet : (b : ℕ) → is_sextet b ≡ true → character (sextet b) ≡ b
character_sextet b e = go (leb b 122) refl
  where
    go : (t : Bool) → leb b 122 ≡ t → character (sextet b) ≡ b
    go true g = eqb-true _ b (rw e at (named b (let h = leb-true b 122 g in omega arith)))
    go false g = absurd (false≢true (sym (high b (leb-false b 122 g)) ∙ e))

-- the digit of six bits of a number
module _ (n : ℕ) where
  pub sextet_of : sextet (character (n % 64)) ≡ n % 64
  sextet_of = sextet_character (n % 64) (omega arith)

  pub is_sextet_of : is_sextet (character (n % 64)) ≡ true
  unfolding is_sextet
  is_sextet_of = rw sextet_of (lt-ltb (n % 64) 64 (omega arith))

-- a pad and a backslash are no digits
pub pad_no_sextet : is_sextet 61 ≡ false
unfolding is_sextet sextet is_in
pad_no_sextet = refl

backslash_no_sextet : is_sextet 92 ≡ false
unfolding is_sextet sextet is_in
backslash_no_sextet = refl

other : (b k : ℕ) → is_sextet b ≡ true → is_sextet k ≡ false → eqb b k ≡ false
other b k h n = go (eqb b k) refl
  where
    go : (t : Bool) → eqb b k ≡ t → t ≡ false
    go true g = absurd (false≢true (sym n ∙ ap is_sextet (sym (eqb-true b k g)) ∙ h))
    go false g = refl

pub no_pad_of : (n : ℕ) → eqb (character (n % 64)) 61 ≡ false
no_pad_of n = other _ 61 (is_sextet_of n) pad_no_sextet

pub no_backslash_of : (n : ℕ) → eqb (character (n % 64)) 92 ≡ false
no_backslash_of n = other _ 92 (is_sextet_of n) backslash_no_sextet

pub sextet_low : (b : ℕ) → is_sextet b ≡ true → sextet b < 64
unfolding is_sextet
sextet_low b e = ltb-true _ _ e
