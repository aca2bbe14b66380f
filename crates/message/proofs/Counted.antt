-- Laws of the line that tells a client's counts (M-108). Assumes nothing.
use Prim.Native.Nat.{ℕ, ◌+◌, ◌≤◌, ◌<◌, ◌^◌}
use native.Mathlib.Omega.{arith}
use mathlib.Core.Path.{◌≡◌}
use mathlib.Core.List.{List, [], ◌∷◌}
use lib.ListN.{length, length-append}
use Rattle.ascii.specs.Text.{bytes}
use Rattle.ascii.specs.Numbers.{decimal}
use Rattle.ascii.specs.Clauses.Writer.{Puts}
use Rattle.ascii.proofs.Puts.{puts_length, puts_both}
use Rattle.ascii.proofs.Decimal.{decimal_short}
use Rattle.counter.specs.declared.Counts.{Counts}
use Rattle.message.specs.Reply.{data_report, counts_text}
use Rattle.message.specs.Clauses.Said.{counted_text}
use Rattle.message.proofs.Said.{two_1, two_2}

-- ## A byte and a number

digits : (n : ℕ) → n < 2 ^ 32 → length (decimal n) ≤ 10
digits n h = decimal_short 9 n (omega arith)

module _ {d e : List ℕ} {at p m : ℕ} (n : ℕ) (h : n < 2 ^ 32) (room : at + 11 ≤ length d) (x : Puts d at (m ∷ []) e p) where
  pub count_room : p + length (decimal n) ≤ length e
  count_room = let l = puts_length x in let z = x.ends in omega (arith, digits n h)

  pub count_all : {f : List ℕ} {r : ℕ} → Puts e p (decimal n) f r → Puts d at (m ∷ decimal n) f r
  count_all y = puts_both x y

  pub count_end : {f : List ℕ} {r : ℕ} → Puts e p (decimal n) f r → r ≤ at + 11
  count_end y = let z = x.ends in let w = y.ends in omega (arith, digits n h)

-- ## The four numbers

module _ (x : Counts) (active : ℕ) {d e f g h i : List ℕ} {p q r s t : ℕ} where
  pub counts_all :
      64 ≤ length d → Puts d 0 (91 ∷ decimal x.lines) e p × (p ≤ 0 + 11) → Puts e p (44 ∷ decimal x.errors) f q × (q ≤ p + 11)
      → Puts f q (44 ∷ decimal x.updates) g r × (r ≤ q + 11) → Puts g r (44 ∷ decimal active) h s × (s ≤ r + 11) → Puts h s (93 ∷ []) i t
      → Puts d 0 (counts_text x active) i t × (t ≤ length d)
  unfolding counts_text bytes
  counts_all room a b c k l =
      let z = l.ends in
      (puts_both (puts_both (puts_both (puts_both a.0 b.0) c.0) k.0) l, omega (arith, a.1, b.1, c.1, k.1))

-- ## The line

module _ (d : List ℕ) (at : ℕ) (v : List ℕ) (t : ℕ) where
  module _ (h : at + length (counted_text v t) ≤ length d) where
    pub counted_1 : at + length (bytes "_counted . ") ≤ length d
    unfolding counted_text
    counted_1 = two_1 d (bytes "_counted . ") (data_report v t) at h

    pub counted_2 : (e : List ℕ) (p : ℕ) → Puts d at (bytes "_counted . ") e p → p + length (data_report v t) ≤ length e
    unfolding counted_text
    counted_2 e p x = two_2 d (bytes "_counted . ") (data_report v t) at h e p x

  pub counted_all :
      (e f : List ℕ) (p q : ℕ) → Puts d at (bytes "_counted . ") e p → Puts e p (data_report v t) f q
      → Puts d at (counted_text v t) f q
  unfolding counted_text
  counted_all e f p q x y = puts_both x y

pub counted_length : (v : List ℕ) (t : ℕ) → length (counted_text v t) ≡ length (data_report v t) + 11
unfolding counted_text bytes
counted_length v t = simp length-append (omega arith)
