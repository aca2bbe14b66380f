-- Laws of the bits of a mask. Assumes nothing.
use Prim.Native.Nat.{ℕ, zero, suc, ◌+◌, ◌*◌, ◌-◌, ◌/◌, ◌%◌, ◌^◌, max, ◌≤◌, ◌<◌}
use native.Mathlib.Nat.{zero-div, div-one, mod-lt, mod-eq_of_lt, one-mul, pow-suc, mul-mod_left, mul-add-mod_self_right, mul-div-mul_right, div-eq_of_lt, div-add-mod'}
use native.Mathlib.Omega.{arith}
use mathlib.Core.Path.{◌≡◌, refl, sym, ap, ◌∙◌}
use mathlib.Core.Bool.{Bool, true, false, cond, not, ◌&&◌, ◌||◌, false≢true}
use lib.Dec.{eqb, eqb-zero-suc, eqb-suc-zero, eqb-suc-suc}
use lib.Arith.{bin_ind}
use lib.Bits.{bit_or, bit_xor, differ, or_shr, xor_shr, or_step, xor_step}
use lib.Pow.{pow_pos, pow-lt, shr-shr}
use borrow.Author.Tests.{eqb-true, eqb-false, not-false}
use Rattle.state.specs.View.{bit}
use Rattle.state.specs.Fit.{past_last}

-- a number below 2 is 0 or 1
pub digit : (P : ℕ → Type 0) → P 0 → P 1 → (n : ℕ) → n < 2 → P n
digit P a b zero h = a
digit P a b (suc zero) h = b
digit P a b (suc (suc n)) h = absurd (omega arith)

-- whether just one of the two
abbrev xor : Bool → Bool → Bool
xor a b = cond a (not b) b

or_digits : (x : ℕ) → x < 2 → (y : ℕ) → y < 2 → eqb (max x y % 2) 1 ≡ eqb x 1 || eqb y 1
or_digits x h y k =
    digit (λ (a : ℕ). eqb (max a y % 2) 1 ≡ eqb a 1 || eqb y 1)
    (digit (λ (b : ℕ). eqb (max 0 b % 2) 1 ≡ eqb 0 1 || eqb b 1) refl refl y k)
    (digit (λ (b : ℕ). eqb (max 1 b % 2) 1 ≡ eqb 1 1 || eqb b 1) refl refl y k)
    x
    h

xor_digits : (x : ℕ) → x < 2 → (y : ℕ) → y < 2 → eqb (differ x y % 2) 1 ≡ xor (eqb x 1) (eqb y 1)
xor_digits x h y k =
    digit (λ (a : ℕ). eqb (differ a y % 2) 1 ≡ xor (eqb a 1) (eqb y 1))
    (digit (λ (b : ℕ). eqb (differ 0 b % 2) 1 ≡ xor (eqb 0 1) (eqb b 1)) refl refl y k)
    (digit (λ (b : ℕ). eqb (differ 1 b % 2) 1 ≡ xor (eqb 1 1) (eqb b 1)) refl refl y k)
    x
    h

pub small : (n : ℕ) → n % 2 < 2
small n = mod-lt n (omega arith)

bit_or_lem : (a b j : ℕ) → bit (bit_or a b) j ≡ bit a j || bit b j
unfolding bit
bit_or_lem a b j =
    let x = a / 2 ^ j in
    let y = b / 2 ^ j in
    ap (λ (n : ℕ). eqb (n % 2) 1) (or_shr a b j ∙ or_step x y)
    ∙ ap (λ (n : ℕ). eqb n 1) (mul-add-mod_self_right (bit_or (x / 2) (y / 2)) 2 (max (x % 2) (y % 2)))
    ∙ or_digits (x % 2) (small x) (y % 2) (small y)

bit_xor_lem : (a b j : ℕ) → bit (bit_xor a b) j ≡ xor (bit a j) (bit b j)
unfolding bit
bit_xor_lem a b j =
    let x = a / 2 ^ j in
    let y = b / 2 ^ j in
    ap (λ (n : ℕ). eqb (n % 2) 1) (xor_shr a b j ∙ xor_step x y)
    ∙ ap (λ (n : ℕ). eqb n 1) (mul-add-mod_self_right (bit_xor (x / 2) (y / 2)) 2 (differ (x % 2) (y % 2)))
    ∙ xor_digits (x % 2) (small x) (y % 2) (small y)

bit_power : (i j : ℕ) → bit (2 ^ i) j ≡ eqb j i
unfolding bit
bit_power zero zero = refl
bit_power zero (suc j) =
    let h : 1 < 2 ^ suc j = rw (pow-suc 2 j) (omega (arith, pow_pos j)) in
    ap (λ (n : ℕ). eqb (n % 2) 1) (div-eq_of_lt h) ∙ sym (eqb-suc-zero j)
bit_power (suc i) zero =
    ap (λ (n : ℕ). eqb (n % 2) 1) (div-one (2 ^ suc i) ∙ pow-suc 2 i)
    ∙ ap (λ (n : ℕ). eqb n 1) (mul-mod_left (2 ^ i) 2)
    ∙ sym (eqb-zero-suc i)
bit_power (suc i) (suc j) =
    rw (pow-suc, pow-suc 2 j, mul-div-mul_right {m = 2} (2 ^ i) (2 ^ j) (omega arith)) (bit_power i j ∙ sym (eqb-suc-suc j i))

-- what `1 << i` is
abbrev power : ℕ → ℕ
power i = (1 * 2 ^ i) % 65536

bit_shifted : (i : ℕ) → i < 16 → (j : ℕ) → bit (power i) j ≡ eqb j i
bit_shifted i h j = ap (λ (n : ℕ). bit n j) (ap (λ (n : ℕ). n % 65536) (one-mul (2 ^ i)) ∙ mod-eq_of_lt (pow-lt h)) ∙ bit_power i j

-- bit i set, or taken away where it is set
pub set_bit : (mask i : ℕ) → i < 16 → (j : ℕ) → bit (bit_or mask (power i)) j ≡ bit mask j || eqb j i
set_bit mask i h j = bit_or_lem mask (power i) j ∙ ap (λ (t : Bool). bit mask j || t) (bit_shifted i h j)

at_place : (mask i j : ℕ) {v : Bool} → bit mask i ≡ v → eqb j i ≡ true → bit mask j ≡ v
at_place mask i j h e = ap (bit mask) (eqb-true j i e) ∙ h

pub clear_bit : (mask i : ℕ) → i < 16 → bit mask i ≡ true → (j : ℕ) → bit (bit_xor mask (power i)) j ≡ bit mask j && not (eqb j i)
clear_bit mask i l h j =
    bit_xor_lem mask (power i) j
    ∙ ap (xor (bit mask j)) (bit_shifted i l j)
    ∙ go (bit mask j) (eqb j i) (at_place mask i j h)
  where
    go : (a b : Bool) → (b ≡ true → a ≡ true) → xor a b ≡ a && not b
    go true b k = refl
    go false true k = absurd (false≢true (k refl))
    go false false k = refl

pub clear_none : (mask i : ℕ) → bit mask i ≡ false → (j : ℕ) → bit mask j ≡ bit mask j && not (eqb j i)
clear_none mask i h j = go (bit mask j) (eqb j i) (at_place mask i j h)
  where
    go : (a b : Bool) → (b ≡ true → a ≡ false) → a ≡ a && not b
    go true true k = absurd (false≢true (sym (k refl)))
    go true false k = refl
    go false b k = refl

-- the bits of 0
pub no_bit : (j : ℕ) → bit 0 j ≡ false
unfolding bit
no_bit j = rw zero-div

-- A mask has no bit from bit m on just if it is not past the last of m modules.
none_zero : (n : ℕ) → ((k : ℕ) → bit n k ≡ false) → n ≡ 0
unfolding bit
none_zero = bin_ind (λ (n : ℕ). ((k : ℕ) → bit n k ≡ false) → n ≡ 0) (λ h. refl) step
  where
    step : (n : ℕ) → (((k : ℕ) → eqb (n / 2 / 2 ^ k % 2) 1 ≡ false) → n / 2 ≡ 0) → ((k : ℕ) → eqb (n / 2 ^ k % 2) 1 ≡ false) → n ≡ 0
    step n ih h =
        let half : n / 2 ≡ 0 = ih (λ k. ap (λ (m : ℕ). eqb (m % 2) 1) (shr-shr n 1 k) ∙ h (1 + k)) in
        let low : n % 2 ≡ 1 → ⊥ = eqb-false (n % 2) 1 (rw div-one at (h 0)) in
        let s = small n in
        let z : n % 2 ≡ 0 = omega arith in
        omega (arith, div-add-mod' n 2)

pub past_last_lem : (mask m : ℕ) → ((j : ℕ) → m ≤ j → bit mask j ≡ false) → past_last mask m ≡ false
unfolding bit past_last
past_last_lem mask m h = rw (none_zero (mask / 2 ^ m) (λ k. ap (λ (n : ℕ). eqb (n % 2) 1) (shr-shr mask m k) ∙ h (m + k) (omega arith)))

pub not_past : (mask m : ℕ) → past_last mask m ≡ false → (j : ℕ) → m ≤ j → bit mask j ≡ false
unfolding bit past_last
not_past mask m h j l =
    let z = eqb-true (mask / 2 ^ m) 0 (not-false _ h) in
    let e : m + (j - m) ≡ j = omega arith in
    ap (λ (n : ℕ). eqb (n % 2) 1) (ap (λ (k : ℕ). mask / 2 ^ k) (sym e) ∙ sym (shr-shr mask m (j - m)) ∙ ap (λ (n : ℕ). n / 2 ^ (j - m)) z)
    ∙ no_bit (j - m)
