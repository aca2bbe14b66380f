-- The number of a call: what it is lent, and its event by itself, are judged one after the other. Assumes nothing.
use Prim.Native.Nat.{ℕ, zero, suc, ◌≤◌}
use native.Mathlib.Omega.{arith}
use borrow.Author.Tests.{le-ltb, ltb-false}
use mathlib.Core.Bool.{Bool, true, false, ◌&&◌}
use mathlib.Core.List.{List, [], ◌∷◌, ◌++◌}
use mathlib.Core.Logic.{◌↔◌}
use mathlib.Core.Path.{◌≡◌, refl}
use lib.Dec.{ltb}
use Rattle.table.specs.Layout.{table_of}
use Rattle.report.specs.Judge.{first_fault, table_number}
use Rattle.report.proofs.Faults.{no_fault, first_fault_none}
use Rattle.plain.specs.Node.{Node}
use Rattle.plain.specs.Calls.{Call, sends, is_small, is_short, lent_faults, own_faults, call_number}

pub none_both : (xs ys : List ℕ) → (first_fault (xs ++ ys) ≡ 0) ↔ ((first_fault xs ≡ 0) × (first_fault ys ≡ 0))
unfolding first_fault
none_both [] ys = (λ h. (refl, h), λ h. h.1)
none_both (zero ∷ xs) ys = none_both xs ys
none_both (suc k ∷ xs) ys = (λ h. absurd (omega arith), λ h. absurd (let e = h.0 in omega arith))

large : (b : Bool) (o : ℕ) → ((b && ltb o 32768) ≡ false) ↔ (b ≡ true → 32768 ≤ o)
large false o = (λ h e. let z : ◌≡◌ {A = ℕ} 0 1 = cc in absurd (omega arith), λ h. refl)
large true o = (λ h e. ltb-false o 32768 h, λ h. le-ltb o 32768 (h refl))

-- what is lent to a call that is not refused for it
pub record Granted (table : List ℕ) (unfit : Bool) (e : Call) : Type 0 where
  pub accepted : table_number table ≡ 0
  pub outbox : sends e.event ≡ true → 32768 ≤ e.lent.outbox
  pub area : 16384 ≤ e.lent.area
  pub index : is_short e.lent.index ≡ false
  pub fit : unfit ≡ false

module _ (table : List ℕ) (unfit : Bool) (e : Call) where
  pub granted : (first_fault (lent_faults table unfit e) ≡ 0) ↔ Granted table unfit e
  unfolding lent_faults first_fault is_small
  granted = (
    λ h.
        let at = first_fault_none (lent_faults table unfit e) h in
        record {
          accepted = at 0;
          outbox = (large (sends e.event) e.lent.outbox).0 (no_fault 6 (is_small e.event e.lent.outbox) (at 1));
          area = ltb-false e.lent.area 16384 (no_fault 7 (ltb e.lent.area 16384) (at 2));
          index = no_fault 17 (is_short e.lent.index) (at 3);
          fit = no_fault 8 unfit (at 4);
        },
    λ g. rw (g.accepted, (large (sends e.event) e.lent.outbox).1 g.outbox, le-ltb e.lent.area 16384 g.area, g.index, g.fit) refl,
  )

  -- a call is accepted if neither what it is lent nor its event is amiss
  pub accepted_call : (n : Node) → (call_number table unfit n e ≡ 0) ↔ (Granted table unfit e × (first_fault (own_faults (table_of table) n e.event) ≡ 0))
  unfolding call_number
  accepted_call n =
      let b = none_both (lent_faults table unfit e) (own_faults (table_of table) n e.event) in
      (λ h. (granted.0 (b.0 h).0, (b.0 h).1), λ h. b.1 (granted.1 h.0, h.1))
