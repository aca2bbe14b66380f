-- The numbers of the report, read back from their text. Assumes nothing.
use Prim.Native.Nat.{ℕ, zero, suc, ◌+◌, ◌*◌, ◌-◌, ◌/◌, ◌%◌, ◌<◌}
use mathlib.Core.Bool.{Bool, true, false, cond, ◌||◌}
use mathlib.Core.List.{List, [], ◌∷◌, ◌++◌, append_assoc, append-nil}
use mathlib.Core.Path.{◌≡◌, refl, ◌∙◌, ap}
use lib.Dec.{ltb, eqb}
use lib.IntN.{ℤ, pos, negsuc}
use native.Mathlib.Omega.{arith}
use borrow.Author.Tests.{ltb-false, ne_eqb}
use Rattle.ascii.specs.Text.{bytes}
use Rattle.ascii.specs.Bytes.{all, is_in, is_digit, head, tail}
use Rattle.ascii.specs.Numbers.{digit, digits_in, decimal, integer}
use Rattle.ascii.proofs.Lists.{all_cons, all_parts, all_append, all_weaker, is_other, Lacks, lacks, head_differs}
use Rattle.ascii.proofs.Digits.{decimal_digits}
use Rattle.ascii.proofs.Lists.{before, beyond, before_all, beyond_all, before_at, beyond_at}
use Rattle.decimal.specs.Decimal.{Decimal}
use Rattle.report.specs.Report.{decimal_text}

-- ## Natural numbers

-- the number that the digits are, after those of n
unfoldable pub number_from : ℕ → List ℕ → ℕ
number_from n [] = n
number_from n (b ∷ bs) = number_from (n * 10 + (b - 48)) bs

with_digit_lem : (n d : ℕ) → n * 10 + (digit d - 48) ≡ n * 10 + d
unfolding digit
with_digit_lem n d = omega arith

digits_read : (k n : ℕ) (x : List ℕ) → n < k → number_from 0 (digits_in k n ++ x) ≡ number_from n x
unfolding digits_in number_from
digits_read zero n x h = absurd (omega arith)
digits_read (suc k) n x h = go (ltb n 10) refl (digits_read k (n / 10) (digit (n % 10) ∷ x))
  where
    go :
        (t : Bool) → ltb n 10 ≡ t
        → (n / 10 < k → number_from 0 (digits_in k (n / 10) ++ digit (n % 10) ∷ x) ≡ number_from (n / 10) (digit (n % 10) ∷ x))
        → number_from 0 (digits_in (suc k) n ++ x) ≡ number_from n x
    go true e ih = rw (e, digits_in) (ap (λ m. number_from m x) (with_digit_lem 0 n ∙ omega arith))
    go false e ih =
        let l = ltb-false n 10 e in
        rw (e, digits_in) (rw append_assoc (ih (omega arith) ∙ ap (λ m. number_from m x) (with_digit_lem (n / 10) (n % 10) ∙ omega arith)))

-- the number that the text is
unfoldable pub natural_of : List ℕ → ℕ
natural_of xs = number_from 0 xs

pub natural_back : (n : ℕ) → natural_of (decimal n) ≡ n
unfolding natural_of decimal number_from
natural_back n = rw append-nil at (digits_read (suc n) n [] (omega arith))

-- ## Whole numbers

-- 45 is the minus
unfoldable pub integer_of : List ℕ → ℤ
integer_of xs = cond (eqb (head xs) 45) (negsuc (natural_of (tail xs) - 1)) (pos (natural_of xs))

pub integer_back : (z : ℤ) → integer_of (integer z) ≡ z
unfolding integer_of integer bytes head tail is_in
integer_back (pos n) = rw (head_differs is_digit 45 refl (decimal n) refl (decimal_digits n), natural_back n)
integer_back (negsuc n) = rw (natural_back (suc n)) (ap negsuc (omega arith))

-- digits, the minus and `e` (101): the bytes of a number
unfoldable pub is_numeric : ℕ → Bool
is_numeric b = is_digit b || eqb b 45 || eqb b 101

digit_numeric : (b : ℕ) → is_digit b ≡ true → is_numeric b ≡ true
unfolding is_numeric
digit_numeric b e = rw e

pub decimal_numeric : (n : ℕ) → all is_numeric (decimal n) ≡ true
decimal_numeric n = all_weaker is_digit is_numeric digit_numeric (decimal n) (decimal_digits n)

pub integer_numeric : (z : ℤ) → all is_numeric (integer z) ≡ true
unfolding integer bytes is_numeric is_in
integer_numeric (pos n) = decimal_numeric n
integer_numeric (negsuc n) = all_cons is_numeric 45 (decimal (suc n)) refl (decimal_numeric (suc n))

integer_lacks : (z : ℤ) → Lacks 101 (integer z)
unfolding integer bytes is_in
integer_lacks (pos n) = lacks is_digit 101 refl (decimal n) (decimal_digits n)
integer_lacks (negsuc n) =
    all_cons (is_other 101) 45 (decimal (suc n)) refl (lacks is_digit 101 refl (decimal (suc n)) (decimal_digits (suc n)))

-- ## Decimals

-- the two numbers of a text with an `e` between them; the power is 0 where there is none
unfoldable pub decimal_of : List ℕ → Decimal
decimal_of xs = record { whole = integer_of (before 101 xs); power = integer_of (beyond 101 xs) }

no_power : integer_of [] ≡ pos 0
unfolding integer_of natural_of number_from head
no_power = refl

plain_decimal : (m : ℤ) → decimal_of (integer m) ≡ record { whole = m; power = pos 0 }
unfolding decimal_of
plain_decimal m = rw (before_all 101 (integer m) (integer_lacks m), beyond_all 101 (integer m) (integer_lacks m), integer_back m, no_power)

power_decimal : (m p : ℤ) → decimal_of (integer m ++ 101 ∷ integer p) ≡ record { whole = m; power = p }
unfolding decimal_of
power_decimal m p =
    let l = integer_lacks m in
    rw (before_at 101 (integer m) l (integer p), beyond_at 101 (integer m) l (integer p), integer_back m, integer_back p)

pub decimal_back : (m p : ℤ) → decimal_of (decimal_text m p) ≡ record { whole = m; power = p }
unfolding decimal_text bytes integer
decimal_back m (pos zero) = plain_decimal m
decimal_back m (pos (suc n)) = rw (ne_eqb (suc n) 0 (λ e. omega arith), append_assoc) (power_decimal m (pos (suc n)))
decimal_back m (negsuc n) = rw append_assoc (power_decimal m (negsuc n))

power_numeric : (m p : ℤ) → all is_numeric (integer m ++ 101 ∷ integer p) ≡ true
unfolding is_numeric is_in
power_numeric m p =
    all_append is_numeric (integer m) (101 ∷ integer p) (integer_numeric m) (all_cons is_numeric 101 (integer p) refl (integer_numeric p))

-- ## One byte at least

-- a number's bytes, and not none
abbrev pub Numeric : List ℕ → Type 0
Numeric t = (all is_numeric t ≡ true) × (is_numeric (head t) ≡ true)

begun : (a : List ℕ) (x : ℕ) (b : List ℕ) → all is_numeric (a ++ x ∷ b) ≡ true → Numeric (a ++ x ∷ b)
unfolding head
begun [] x b h = (h, (all_parts is_numeric x b h).0)
begun (y ∷ a) x b h = (h, (all_parts is_numeric y (a ++ x ∷ b) h).0)

pub natural_number : (n : ℕ) → Numeric (decimal n)
unfolding decimal digits_in
natural_number n = go (ltb n 10) refl (decimal_numeric n)
  where
    go : (t : Bool) → ltb n 10 ≡ t → all is_numeric (digits_in (suc n) n) ≡ true → Numeric (digits_in (suc n) n)
    go true e h = let k = rw (e, digits_in) at h in rw (e, digits_in) (begun [] (digit n) [] k)
    go false e h = let k = rw (e, digits_in) at h in rw (e, digits_in) (begun (digits_in n (n / 10)) (digit (n % 10)) [] k)

pub integer_number : (z : ℤ) → Numeric (integer z)
unfolding integer bytes head is_numeric is_in
integer_number (pos n) = natural_number n
integer_number (negsuc n) = (integer_numeric (negsuc n), refl)

power_number : (m p : ℤ) → Numeric (integer m ++ 101 ∷ integer p)
power_number m p = begun (integer m) 101 (integer p) (power_numeric m p)

pub decimal_number : (m p : ℤ) → Numeric (decimal_text m p)
unfolding decimal_text bytes integer
decimal_number m (pos zero) = integer_number m
decimal_number m (pos (suc n)) = rw (ne_eqb (suc n) 0 (λ e. omega arith), append_assoc) (power_number m (pos (suc n)))
decimal_number m (negsuc n) = rw append_assoc (power_number m (negsuc n))
