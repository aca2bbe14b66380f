-- Decimal text is of digits. Assumes nothing.
use Prim.Native.Nat.{ℕ, zero, suc, ◌+◌, ◌/◌, ◌%◌, ◌<◌}
use mathlib.Core.Bool.{Bool, true, false, ◌&&◌}
use mathlib.Core.List.{[], ◌∷◌}
use mathlib.Core.Path.{◌≡◌, refl, ap₂}
use lib.Dec.{ltb}
use native.Mathlib.Omega.{arith}
use borrow.Author.Tests.{ltb-true, le-leb}
use Rattle.ascii.specs.Bytes.{all, is_in, is_digit}
use Rattle.ascii.specs.Numbers.{digit, digits_in, decimal}
use Rattle.ascii.proofs.Lists.{all_one, all_append}

pub digit_is_digit : (d : ℕ) → d < 10 → is_digit (digit d) ≡ true
unfolding digit is_in
digit_is_digit d h = ap₂ ◌&&◌ (le-leb 48 (48 + d) (omega arith)) (le-leb (48 + d) 57 (omega arith))

digits_are_digits : (k n : ℕ) → all is_digit (digits_in k n) ≡ true
unfolding digits_in all
digits_are_digits zero n = refl
digits_are_digits (suc k) n = go (ltb n 10) refl (digits_are_digits k (n / 10))
  where
    go : (t : Bool) → ltb n 10 ≡ t → all is_digit (digits_in k (n / 10)) ≡ true → all is_digit (digits_in (suc k) n) ≡ true
    go true e ih = rw (e, digits_in) (all_one is_digit (digit n) (digit_is_digit n (ltb-true n 10 e)))
    go false e ih =
        rw (e, digits_in)
        (all_append is_digit (digits_in k (n / 10)) (digit (n % 10) ∷ []) ih
        (all_one is_digit (digit (n % 10)) (digit_is_digit (n % 10) (omega arith))))

pub decimal_digits : (n : ℕ) → all is_digit (decimal n) ≡ true
unfolding decimal
decimal_digits n = digits_are_digits (suc n) n
