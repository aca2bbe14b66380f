-- The decimal text of a whole number is a number's token, whole, and its value is that number. Assumes nothing.
use Rattle.std.specs.Prelude.{Some}
use Prim.Native.Nat.{ℕ, zero, suc, ◌+◌, ◌*◌, ◌-◌, ◌/◌, ◌%◌, ◌≤◌, ◌<◌}
use native.Mathlib.Omega.{arith}
use mathlib.Core.Bool.{Bool, true, false, cond, not, ◌&&◌, ◌||◌}
use mathlib.Core.List.{List, [], ◌∷◌, ◌++◌, append_assoc, append-nil}
use mathlib.Core.Path.{◌≡◌, refl, ◌∙◌, ap, ap₂}
use lib.Dec.{ltb, leb, eqb}
use lib.ListN.{length}
use lib.IntN.{ℤ, pos, negsuc}
use borrow.Author.Tests.{ltb-true, ltb-false, leb-true, le-leb}
use Rattle.ascii.specs.Text.{bytes}
use Rattle.ascii.specs.Bytes.{all, any, drop_while, head, tail, is_in, is_digit}
use Rattle.ascii.specs.Numbers.{digit, digits_in, decimal, integer}
use Rattle.ascii.proofs.Lists.{both, all_cons, all_parts, all_weaker, taken, dropped, differs}
use Rattle.ascii.proofs.Digits.{digit_is_digit, decimal_digits}
use Rattle.decimal.specs.Token.{digits, minus, int, frac, is_e, exp, number, is_whole}
use Rattle.decimal.specs.Decimal.{from_integer, numeral_from, numeral, significand, exponent, fraction, written_power, exactly, is_within_limits}

-- ## Digits

-- the first digit of a number above 0 is none
first_digit : (k n : ℕ) (x : List ℕ) → n < k → 1 ≤ n → is_in 49 57 (head (digits_in k n ++ x)) ≡ true
unfolding digits_in digit head is_in
first_digit zero n x h p = absurd (omega arith)
first_digit (suc k) n x h p = go (ltb n 10) refl (first_digit k (n / 10) (digit (n % 10) ∷ x))
  where
    go : (t : Bool) → ltb n 10 ≡ t
        → (n / 10 < k → 1 ≤ n / 10 → is_in 49 57 (head (digits_in k (n / 10) ++ digit (n % 10) ∷ x)) ≡ true)
        → is_in 49 57 (head (digits_in (suc k) n ++ x)) ≡ true
    go true e ih =
        let l = ltb-true n 10 e in
        rw (e, digits_in) (ap₂ ◌&&◌ (le-leb 49 (48 + n) (omega arith)) (le-leb (48 + n) 57 (omega arith)))
    go false e ih = let l = ltb-false n 10 e in rw (e, digits_in) (rw append_assoc (ih (omega arith) (omega arith)))

above_digit : (b : ℕ) → is_in 49 57 b ≡ true → is_digit b ≡ true
unfolding is_in
above_digit b h =
    let p = both (leb 49 b) (leb b 57) h in
    ap₂ ◌&&◌ (le-leb 48 b (omega (arith, leb-true 49 b p.0))) p.1

-- ## The token

-- the digits of n are no minus and a whole number's digits
decimal_int : (n : ℕ) → (eqb (head (decimal n)) 45 ≡ false) × (int (decimal n) ≡ Some [])
unfolding decimal digits_in digit int digits drop_while head tail is_in
decimal_int zero = (refl, refl)
decimal_int (suc n) =
    let xs = decimal (suc n) in
    let f : is_in 49 57 (head xs) ≡ true = rw append-nil at (first_digit (suc (suc n)) (suc n) [] (omega arith) (omega arith)) in (
      differs (is_in 49 57) 45 refl (head xs) f,
      rw (differs (is_in 49 57) 48 refl (head xs) f, above_digit (head xs) f, dropped is_digit xs (decimal_digits (suc n))),
    )

pub integer_token : (z : ℤ) → number (integer z) ≡ Some []
unfolding integer bytes number minus frac exp head tail
integer_token (pos n) = let h = decimal_int n in rw (h.0, h.1)
integer_token (negsuc n) = rw (decimal_int (suc n)).1

-- ## Its value

-- a byte of the text: a digit, or the minus
unfoldable is_part : ℕ → Bool
is_part b = is_digit b || eqb b 45

integer_parts : (z : ℤ) → all is_part (integer z) ≡ true
unfolding integer bytes is_part is_in
integer_parts (pos n) = all_weaker is_digit is_part (λ b e. rw e) (decimal n) (decimal_digits n)
integer_parts (negsuc n) =
    all_cons is_part 45 (decimal (suc n)) refl (all_weaker is_digit is_part (λ b e. rw e) (decimal (suc n)) (decimal_digits (suc n)))

-- it is none of '.' (46), 'e' (101) and 'E' (69)
module _ (b : ℕ) (h : is_part b ≡ true) where
  part_dot : eqb b 46 ≡ false
  unfolding is_part is_in
  part_dot = differs is_part 46 refl b h

  part_e : is_e b ≡ false
  unfolding is_part is_in
  part_e = rw (differs is_part 101 refl b h, differs is_part 69 refl b h)

module _ (t : List ℕ) (h : all is_part t ≡ true) where
  no_e : all (λ b. not (is_e b)) t ≡ true
  no_e = all_weaker is_part (λ b. not (is_e b)) (λ b e. ap not (part_e b e)) t h

  significand_all : significand t ≡ t
  unfolding significand
  significand_all = taken (λ b. not (is_e b)) t no_e

  power_none : written_power t ≡ pos 0
  unfolding written_power exponent numeral numeral_from head tail
  power_none = rw (dropped (λ b. not (is_e b)) t no_e)

  fraction_none : length (fraction t) ≡ 0
  unfolding fraction tail
  fraction_none = rw (
    significand_all,
    dropped (λ b. not (eqb b 46)) t (all_weaker is_part (λ b. not (eqb b 46)) (λ b e. ap not (part_dot b e)) t h),
  )

none_of : (t : List ℕ) → all is_part t ≡ true → any (λ b. eqb b 46 || is_e b) t ≡ false
unfolding any
none_of [] h = refl
none_of (b ∷ t) h = let l = all_parts is_part b t h in rw (part_dot b l.0, part_e b l.0, none_of t l.1)

pub integer_whole : (z : ℤ) → is_whole (integer z) ≡ true
unfolding is_whole
integer_whole z = ap not (none_of (integer z) (integer_parts z))

-- the number that the digits are, after those of n
digit_less : (n d : ℕ) → n * 10 + (digit d - 48) ≡ n * 10 + d
unfolding digit
digit_less n d = omega arith

with_digit_lem : (n d : ℕ) → d < 10 → cond (is_digit (digit d)) (n * 10 + (digit d - 48)) n ≡ n * 10 + d
with_digit_lem n d h = rw (digit_is_digit d h) (digit_less n d)

digits_read : (k n : ℕ) (x : List ℕ) → n < k → numeral_from 0 (digits_in k n ++ x) ≡ numeral_from n x
unfolding digits_in numeral_from
digits_read zero n x h = absurd (omega arith)
digits_read (suc k) n x h = go (ltb n 10) refl (digits_read k (n / 10) (digit (n % 10) ∷ x))
  where
    go :
        (t : Bool) → ltb n 10 ≡ t
        → (n / 10 < k → numeral_from 0 (digits_in k (n / 10) ++ digit (n % 10) ∷ x) ≡ numeral_from (n / 10) (digit (n % 10) ∷ x))
        → numeral_from 0 (digits_in (suc k) n ++ x) ≡ numeral_from n x
    go true e ih = rw (e, digits_in) (ap (λ m. numeral_from m x) (with_digit_lem 0 n (ltb-true n 10 e) ∙ omega arith))
    go false e ih =
        let l = ltb-false n 10 e in
        rw (e, digits_in) (rw append_assoc (ih (omega arith) ∙ ap (λ m. numeral_from m x) (with_digit_lem (n / 10) (n % 10) (omega arith) ∙ omega arith)))

decimal_read : (n : ℕ) → numeral_from 0 (decimal n) ≡ n
unfolding decimal numeral_from
decimal_read n = rw append-nil at (digits_read (suc n) n [] (omega arith))

numeral_read : (z : ℤ) → numeral (integer z) ≡ z
unfolding numeral integer bytes head numeral_from is_in
numeral_read (pos n) = rw ((decimal_int n).0, decimal_read n)
numeral_read (negsuc n) = rw (decimal_read (suc n))

pub integer_exactly : (z : ℤ) → exactly (integer z) ≡ from_integer z
unfolding exactly
integer_exactly z =
    let h = integer_parts z in
    rw (significand_all (integer z) h, numeral_read z, power_none (integer z) h, fraction_none (integer z) h)

pub integer_limits : (z : ℤ) → length (integer z) ≤ 32 → is_within_limits (integer z) ≡ true
unfolding is_within_limits
integer_limits z h = rw (le-leb (length (integer z)) 32 h, power_none (integer z) (integer_parts z))
