-- What is known of the accessibles of an accepted table. Assumes nothing.
use Rattle.std.specs.Prelude.{Option, Some, None}
use Prim.Native.Nat.{ℕ, ◌≤◌}
use native.Mathlib.Omega.{arith}
use mathlib.Core.Path.{◌≡◌}
use mathlib.Core.Bool.{true, not}
use mathlib.Core.List.{List}
use lib.ListN.{length}
use borrow.Author.Tests.{not-false}
use Rattle.table.specs.Table.{Table}
use Rattle.table.specs.Layout.{read_table, or_empty, table_of}
use Rattle.table.specs.Rules.{counts_good, names_good}
use Rattle.report.specs.Judge.{tree_number, number_of, table_number}
use Rattle.report.proofs.Faults.{no_fault, first_fault_none}
use Rattle.index.specs.Accessibles.{accessibles}
use Rattle.index.proofs.Accepted.{accessibles_few}

tree_good : (t : Table) → tree_number t ≡ 0 → (counts_good t ≡ true) × (names_good t ≡ true)
unfolding tree_number
tree_good t e =
    let none_of = first_fault_none _ e in
    (not-false (counts_good t) (no_fault 1 (not (counts_good t)) (none_of 0)), not-false (names_good t) (no_fault 2 (not (names_good t)) (none_of 1)))

table_good : (s : List ℕ) → table_number s ≡ 0 → (counts_good (table_of s) ≡ true) × (names_good (table_of s) ≡ true)
unfolding table_number table_of number_of or_empty
table_good s e = go (read_table s) e
  where
    go : (o : Option Table) → number_of o ≡ 0 → (counts_good (or_empty o) ≡ true) × (names_good (or_empty o) ≡ true)
    go None e = absurd (omega arith)
    go (Some t) e = tree_good t e

pub accepted_few : (s : List ℕ) → table_number s ≡ 0 → length (accessibles (table_of s)) ≤ 64
accepted_few s e = accessibles_few (table_of s) (table_good s e).0

pub accepted_names : (s : List ℕ) → table_number s ≡ 0 → names_good (table_of s) ≡ true
accepted_names s e = (table_good s e).1
