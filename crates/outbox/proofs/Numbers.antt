-- Decimal text and times: they are of digits, and they are read back. Assumes nothing.
use Prim.Native.Nat.{ℕ, zero, suc, ◌+◌, ◌*◌, ◌-◌, ◌/◌, ◌%◌, ◌<◌}
use mathlib.Core.Bool.{Bool, true, false, cond}
use mathlib.Core.List.{List, [], ◌∷◌, ◌++◌, append_assoc}
use mathlib.Core.Path.{◌≡◌, refl, sym, ◌∙◌, ap}
use lib.Dec.{ltb, eqb}
use native.Mathlib.Omega.{arith}
use borrow.Author.Tests.{ltb-false, ne_eqb}
use Rattle.ascii.specs.Text.{bytes}
use Rattle.ascii.specs.Bytes.{all, is_digit}
use Rattle.ascii.specs.Numbers.{digit, digits_in, decimal, seconds}
use Rattle.ascii.proofs.Digits.{digit_is_digit, decimal_digits}
use Rattle.ascii.proofs.Lists.{all_one, all_append, is_other, Lacks, lacks}

last_digit : (n : ℕ) → is_digit (digit (n % 10)) ≡ true
last_digit n = digit_is_digit (n % 10) (omega arith)

-- ## Reading

-- n with one more byte: a digit goes on, a dot (46) is passed over
unfoldable pub with_digit : ℕ → ℕ → ℕ
with_digit n b = cond (eqb b 46) n (n * 10 + (b - 48))

-- the number that the text is, after the digits of n
unfoldable pub number_from : ℕ → List ℕ → ℕ
number_from n [] = n
number_from n (b ∷ bs) = number_from (with_digit n b) bs

with_dot : (n : ℕ) → with_digit n 46 ≡ n
unfolding with_digit
with_dot n = refl

with_digit_lem : (n d : ℕ) → with_digit n (digit d) ≡ n * 10 + d
unfolding with_digit digit
with_digit_lem n d = rw (ne_eqb (48 + d) 46 (λ e. omega arith)) (omega arith)

digits_read : (k n : ℕ) (x : List ℕ) → n < k → number_from 0 (digits_in k n ++ x) ≡ number_from n x
unfolding digits_in number_from
digits_read zero n x h = absurd (omega arith)
digits_read (suc k) n x h = go (ltb n 10) refl (digits_read k (n / 10) (digit (n % 10) ∷ x))
  where
    go :
        (t : Bool) → ltb n 10 ≡ t → (n / 10 < k → number_from 0 (digits_in k (n / 10) ++ digit (n % 10) ∷ x) ≡ number_from (n / 10) (digit (n % 10) ∷ x))
        → number_from 0 (digits_in (suc k) n ++ x) ≡ number_from n x
    go true e ih = rw (e, digits_in) (ap (λ m. number_from m x) (with_digit_lem 0 n ∙ omega arith))
    go false e ih =
        let l = ltb-false n 10 e in
        rw (e, digits_in) (rw append_assoc (ih (omega arith) ∙ ap (λ m. number_from m x) (with_digit_lem (n / 10) (n % 10) ∙ omega arith)))

pub decimal_read : (n : ℕ) (x : List ℕ) → number_from 0 (decimal n ++ x) ≡ number_from n x
unfolding decimal
decimal_read n x = digits_read (suc n) n x (omega arith)

pub decimal_injective : (m n : ℕ) → decimal m ≡ decimal n → m ≡ n
unfolding number_from
decimal_injective m n e = sym (decimal_read m []) ∙ ap (λ d. number_from 0 (d ++ [])) e ∙ decimal_read n []

-- ## Times

pub seconds_read : (t : ℕ) → number_from 0 (seconds t) ≡ t
unfolding seconds bytes number_from
seconds_read t = simp (append_assoc, decimal_read, with_dot, with_digit_lem) (omega arith)

pub seconds_injective : (t u : ℕ) → seconds t ≡ seconds u → t ≡ u
seconds_injective t u e = sym (seconds_read t) ∙ ap (number_from 0) e ∙ seconds_read u

three_digits : (t : ℕ) → all is_digit (digit (t / 100 % 10) ∷ digit (t / 10 % 10) ∷ digit (t % 10) ∷ []) ≡ true
unfolding all
three_digits t = simp last_digit

-- a byte that is no digit and no dot does not stand in a time
pub seconds_lacks : (s : ℕ) → is_digit s ≡ false → is_other s 46 ≡ true → (t : ℕ) → Lacks s (seconds t)
unfolding seconds bytes
seconds_lacks s f g t =
    let last = digit (t / 100 % 10) ∷ digit (t / 10 % 10) ∷ digit (t % 10) ∷ [] in
    let whole = lacks is_digit s f (decimal (t / 1000)) (decimal_digits (t / 1000)) in
    all_append (is_other s) (decimal (t / 1000) ++ (46 ∷ [])) last
    (all_append (is_other s) (decimal (t / 1000)) (46 ∷ []) whole (all_one (is_other s) 46 g))
    (lacks is_digit s f last (three_digits t))
