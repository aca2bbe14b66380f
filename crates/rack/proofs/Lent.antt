-- The number of what every call judges, one law for each way through the code. Assumes nothing.
use Prim.Native.Nat.{ℕ, ◌≤◌, ◌<◌}
use native.Mathlib.Omega.{arith}
use borrow.Author.Tests.{lt-ltb, le-ltb}
use mathlib.Core.Bool.{Bool, true, false}
use mathlib.Core.List.{List}
use mathlib.Core.Path.{◌≡◌, refl, sym, ◌∙◌}
use lib.Dec.{ltb}
use lib.ListN.{length}
use Rattle.ascii.specs.Numbers.{latest}
use Rattle.table.specs.Layout.{table_of}
use Rattle.report.specs.Judge.{first_fault, table_number}
use Rattle.report.proofs.Faults.{first_fault_first}
use Rattle.plain.specs.Calls.{is_short}
use Rattle.state.specs.declared.Bare.{Bare}
use Rattle.state.specs.declared.State.{State}
use Rattle.state.specs.Fit.{is_unfit}
use Rattle.state.specs.Clauses.Bare.{lined, bare_of}
use Rattle.promise.specs.Clauses.Lent.{lent_number}
use Rattle.lists.specs.Lists.{list_faults}
use Rattle.rack.specs.Clauses.Rack.{rack_faults}

-- ## An index

pub none_short : (index : List ℕ) → length index ≡ 0 → false ≡ is_short index
unfolding is_short
none_short index e = rw e

pub some_short : (index : List ℕ) → (length index ≡ 0 → ⊥) → ltb (length index) 128 ≡ is_short index
unfolding is_short
some_short index h = rw (lt-ltb 0 (length index) (omega arith))

-- ## All that is lent

module _ (table values : List ℕ) (o : Bool) (index : List ℕ) (s : State) (t : ℕ) where
  pub lent_table : {k : ℕ} → k ≡ table_number table → (k ≡ 0 → ⊥) → k ≡ lent_number table values o index s t
  unfolding lent_number
  lent_table e h = e ∙ sym (first_fault_first (table_number table) _ (λ z. h (e ∙ z)))

  module _ {k : ℕ} (says : k ≡ table_number table) (zeroth : k ≡ 0) where
    ok : table_number table ≡ 0
    ok = sym says ∙ zeroth

    pub lent_outbox : o ≡ true → 7 ≡ lent_number table values o index s t
    unfolding lent_number first_fault
    lent_outbox h = rw (ok, h) refl

    module _ (room : o ≡ false) where
      pub lent_area : length values < 16384 → 8 ≡ lent_number table values o index s t
      unfolding lent_number first_fault
      lent_area h = rw (ok, room, lt-ltb (length values) 16384 h) refl

      module _ (area : 16384 ≤ length values) where
        pub lent_short : {b : Bool} → b ≡ is_short index → b ≡ true → 18 ≡ lent_number table values o index s t
        unfolding lent_number first_fault
        lent_short e h = rw (ok, room, le-ltb (length values) 16384 area, sym e ∙ h) refl

        module _ {short : Bool} (measured : short ≡ is_short index) (long : short ≡ false) where
          unshort : is_short index ≡ false
          unshort = sym measured ∙ long

          pub lent_unfit : {b : Bool} → b ≡ is_unfit (table_of table) s values → b ≡ true → 9 ≡ lent_number table values o index s t
          unfolding lent_number first_fault
          lent_unfit e h = rw (ok, room, le-ltb (length values) 16384 area, unshort, sym e ∙ h) refl

          module _ {b : Bool} (judged : b ≡ is_unfit (table_of table) s values) (not_so : b ≡ false) where
            fit : is_unfit (table_of table) s values ≡ false
            fit = sym judged ∙ not_so

            pub lent_late : latest < t → 10 ≡ lent_number table values o index s t
            unfolding lent_number first_fault
            lent_late h = rw (ok, room, le-ltb (length values) 16384 area, unshort, fit, lt-ltb latest t h) refl

            pub lent_good : t ≤ latest → 0 ≡ lent_number table values o index s t
            unfolding lent_number first_fault
            lent_good h = rw (ok, room, le-ltb (length values) 16384 area, unshort, fit, le-ltb latest t h) refl

-- ## A state whose lines are lent

module _ (table values : List ℕ) (s : State) {b : Bare} (is : b ≡ bare_of s) where
  pub lent_whole : (o : Bool) (index : List ℕ) (t : ℕ) {k : ℕ} → k ≡ lent_number table values o index (lined b s.clients.lines) t
      → k ≡ lent_number table values o index s t
  lent_whole o index t e = rw is at e

  pub unfit_whole : {k : Bool} → k ≡ is_unfit (table_of table) (lined b s.clients.lines) values → k ≡ is_unfit (table_of table) s values
  unfit_whole e = rw is at e

-- ## A list as a whole

module _ (table values : List ℕ) (room : ℕ) (index : List ℕ) (s : State) (count : ℕ) where
  abbrev number : ℕ
  number = first_fault (rack_faults table values room index s count)

  pub list_table : {k : ℕ} → k ≡ table_number table → (k ≡ 0 → ⊥) → k ≡ number
  unfolding list_faults
  list_table e h = e ∙ sym (first_fault_first (table_number table) _ (λ z. h (e ∙ z)))

  module _ {k : ℕ} (says : k ≡ table_number table) (zeroth : k ≡ 0) where
    good_table : table_number table ≡ 0
    good_table = sym says ∙ zeroth

    pub list_outbox : room < 32768 → 7 ≡ number
    unfolding list_faults first_fault
    list_outbox h = rw (good_table, lt-ltb room 32768 h) refl

    module _ (large : 32768 ≤ room) where
      pub list_area : length values < 16384 → 8 ≡ number
      unfolding list_faults first_fault
      list_area h = rw (good_table, le-ltb room 32768 large, lt-ltb (length values) 16384 h) refl

      module _ (area : 16384 ≤ length values) where
        pub list_short : {b : Bool} → b ≡ is_short index → b ≡ true → 18 ≡ number
        unfolding list_faults first_fault
        list_short e h = rw (good_table, le-ltb room 32768 large, le-ltb (length values) 16384 area, sym e ∙ h) refl

        module _ {short : Bool} (measured : short ≡ is_short index) (long : short ≡ false) where
          unshort' : is_short index ≡ false
          unshort' = sym measured ∙ long

          pub list_long : 9 < count → 17 ≡ number
          unfolding list_faults first_fault
          list_long h = rw (good_table, le-ltb room 32768 large, le-ltb (length values) 16384 area, unshort', lt-ltb 9 count h) refl

          module _ (nine : count ≤ 9) where
            pub list_unfit : {b : Bool} → b ≡ is_unfit (table_of table) s values → b ≡ true → 9 ≡ number
            unfolding list_faults first_fault
            list_unfit e h = rw (good_table, le-ltb room 32768 large, le-ltb (length values) 16384 area, unshort', le-ltb 9 count nine, sym e ∙ h) refl

            pub list_good : {b : Bool} → b ≡ is_unfit (table_of table) s values → b ≡ false → 0 ≡ number
            unfolding list_faults first_fault
            list_good e h = rw (good_table, le-ltb room 32768 large, le-ltb (length values) 16384 area, unshort', le-ltb 9 count nine, sym e ∙ h) refl
