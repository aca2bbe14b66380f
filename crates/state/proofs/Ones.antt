-- The ones of a mask are the modules that are active (M-108). Assumes nothing.
use Prim.Native.Nat.{ℕ, zero, suc, ◌+◌, ◌-◌, ◌/◌, ◌%◌, ◌^◌, ◌≤◌, ◌<◌}
use native.Mathlib.Nat.{mod-one, mod-lt, mod-eq_of_lt, add-zero, add-suc}
use native.Mathlib.Omega.{arith}
use mathlib.Core.Bool.{Bool, true, false, cond}
use mathlib.Core.Path.{◌≡◌, refl, sym, ap, ◌∙◌}
use lib.Dec.{eqb}
use lib.ListN.{length, get_or}
use lib.Count.{ones_in, ones, ones_cat}
use lib.Pow.{pow_pos, mod-pow-add}
use Rattle.ascii.specs.Bytes.{count}
use Rattle.table.specs.Table.{Table}
use Rattle.plain.specs.Node.{is_active, below, active_count}
use Rattle.state.specs.declared.Clients.{Clients}
use Rattle.state.specs.View.{is_set, bit, client_at}
use Rattle.state.specs.Fit.{past_last}
use Rattle.state.proofs.Masks.{digit, small, not_past}

one_digit : (d : ℕ) → d < 2 → cond (eqb d 1) 1 0 ≡ ones d
unfolding ones ones_in
one_digit = digit (λ (d : ℕ). cond (eqb d 1) 1 0 ≡ ones d) refl refl

-- of the first k bits
bits_are : (n k : ℕ) → count (bit n) (below k) ≡ ones (n % 2 ^ k)
unfolding count below bit ones ones_in
bits_are n zero = sym (ap ones (mod-one n))
bits_are n (suc k) =
    let one : 1 + k ≡ suc k = omega arith in
    ap (λ (x : ℕ). cond (eqb (n / 2 ^ k % 2) 1) 1 0 + x) (bits_are n k)
    ∙ ap (λ (x : ℕ). x + ones (n % 2 ^ k)) (one_digit (n / 2 ^ k % 2) (small (n / 2 ^ k)))
    ∙ sym (ones_cat k (n / 2 ^ k % 2) (n % 2 ^ k) (mod-lt n (pow_pos k)))
    ∙ ap ones (sym (mod-pow-add n 1 k) ∙ ap (λ (j : ℕ). n % 2 ^ j) one)

pub ones_are : (n : ℕ) → n < 2 ^ 16 → ones n ≡ count (bit n) (below 16)
ones_are n h = sym (bits_are n 16 ∙ ap ones (mod-eq_of_lt h))

-- past the last there are none
count_past : (f : ℕ → Bool) (m : ℕ) → ((i : ℕ) → m ≤ i → f i ≡ false) → (k : ℕ) → count f (below (m + k)) ≡ count f (below m)
unfolding count below
count_past f m h zero = ap (λ (j : ℕ). count f (below j)) (add-zero m)
count_past f m h (suc k) =
    ap (λ (j : ℕ). count f (below j)) (add-suc m k)
    ∙ ap (λ (b : Bool). cond b 1 0 + count f (below (m + k))) (h (m + k) (omega arith))
    ∙ zero_plus (count f (below (m + k)))
    ∙ count_past f m h k
  where
    zero_plus : (x : ℕ) → 0 + x ≡ x
    zero_plus x = omega arith

-- "how many modules a client has active", of an open client
pub active_ones : (w : Table) (s : Clients) (c : ℕ) → is_set s.open c ≡ true → length w.modules ≤ 16
    → past_last (get_or s.active c 0) (length w.modules) ≡ false
    → count (bit (get_or s.active c 0)) (below 16) ≡ active_count w (client_at s c)
unfolding active_count client_at is_active
active_ones w s c o few h =
    let m = length w.modules in
    let f = bit (get_or s.active c 0) in
    let all : m + (16 - m) ≡ 16 = omega arith in
    rw o (ap (λ (j : ℕ). count f (below j)) (sym all) ∙ count_past f m (not_past (get_or s.active c 0) m h) (16 - m))
