-- What every call of a single event after a start judges of what it is lent: table, outbox, values area, index, state and time, in the order of
-- judging. Assumes nothing.
use Rattle.std.specs.Prelude.{ℕ, Bool, List, [], ◌∷◌, length}
use Rattle.table.specs.Layout.{table_of}
use Rattle.report.specs.Judge.{fault, first_fault, table_number}
use Rattle.plain.specs.Calls.{fault8, fault9, fault10, fault18}
use Rattle.state.specs.declared.State.{State}
use Rattle.state.specs.Fit.{is_unfit}

-- the first of the numbers 1 to 8, 18, 9 and 10; `small` says whether an outbox is lent that is too small
unfoldable pub lent_number : List ℕ → List ℕ → Bool → List ℕ → State → ℕ → ℕ
lent_number table values small index s time = first_fault
    (table_number table
    ∷ fault 7 small
    ∷ fault8 (length values)
    ∷ fault18 index
    ∷ fault9 (is_unfit (table_of table) s values)
    ∷ fault10 time
    ∷ [])
