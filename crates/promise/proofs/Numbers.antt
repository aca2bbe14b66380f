-- The number of each call, from what every call judges and what it judges by itself. Assumes nothing.
use Prim.Native.Nat.{ℕ, ◌≤◌}
use borrow.Author.Tests.{ltb-false}
use mathlib.Core.Bool.{Bool, false}
use mathlib.Core.List.{List, [], ◌∷◌}
use mathlib.Core.Path.{◌≡◌, sym}
use lib.Dec.{ltb}
use lib.ListN.{length}
use Rattle.ascii.specs.Numbers.{latest}
use Rattle.table.specs.Layout.{table_of}
use Rattle.report.specs.Judge.{fault, first_fault, table_number}
use Rattle.report.proofs.Faults.{no_fault, first_fault_none, first_fault_both}
use Rattle.plain.specs.Calls.{Event, Call, is_small, is_short, fault8, fault9, fault10, fault18, lent_faults, own_faults, call_number}
use Rattle.state.specs.declared.State.{State}
use Rattle.state.specs.View.{view}
use Rattle.state.specs.Fit.{is_unfit}
use Rattle.promise.specs.Clauses.Lent.{lent_number}

module _ (table : List ℕ) (s : State) (values : List ℕ) where
  abbrev number : Call → ℕ
  number e = call_number table (is_unfit (table_of table) s values) (view table s values) e

  abbrev lent : Bool → List ℕ → ℕ → List ℕ
  lent small index t =
      table_number table ∷ fault 7 small ∷ fault8 (length values) ∷ fault18 index ∷ fault9 (is_unfit (table_of table) s values) ∷ fault10 t ∷ []

  -- of an event that is judged by its time, and then by ks
  pub number_is_lem : (e : Event) (o : ℕ) (index : List ℕ) (t : ℕ) (ks : List ℕ) → own_faults (table_of table) (view table s values) e ≡ fault10 t ∷ ks
      → number (record { event = e; lent = record { area = length values; outbox = o; index = index } })
      ≡ first_fault (lent_number table values (is_small e o) index s t ∷ ks)
  unfolding call_number lent_faults lent_number
  number_is_lem e o index t ks h = rw h (sym (first_fault_both (lent (is_small e o) index t) ks))

  -- what is known where all that is lent is good
  pub record Good (small : Bool) (index : List ℕ) (t : ℕ) : Type 0 where
    pub accepted : table_number table ≡ 0
    pub outbox : small ≡ false
    pub area : 16384 ≤ length values
    pub unshort : is_short index ≡ false
    pub fit : is_unfit (table_of table) s values ≡ false
    pub time : t ≤ latest

  pub good : (small : Bool) (index : List ℕ) (t : ℕ) → lent_number table values small index s t ≡ 0 → Good small index t
  unfolding lent_number
  good small index t e =
      let at = first_fault_none (lent small index t) e in
      record {
        accepted = at 0;
        outbox = no_fault 6 small (at 1);
        area = ltb-false (length values) 16384 (no_fault 7 (ltb (length values) 16384) (at 2));
        unshort = no_fault 17 (is_short index) (at 3);
        fit = no_fault 8 (is_unfit (table_of table) s values) (at 4);
        time = ltb-false latest t (no_fault 9 (ltb latest t) (at 5));
      }
