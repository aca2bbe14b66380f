-- The first of some faults, and a table without faults. Assumes nothing.
use Rattle.std.specs.Prelude.{Option, Some, None}
use Prim.Native.Nat.{ℕ, zero, suc}
use native.Mathlib.Omega.{arith}
use mathlib.Core.Bool.{Bool, true, false}
use mathlib.Core.List.{List, [], ◌∷◌, ◌++◌}
use mathlib.Core.Logic.{◌≢◌}
use mathlib.Core.Path.{◌≡◌, refl}
use lib.ListN.{get_or}
use Rattle.ascii.specs.Bytes.{is_some}
use Rattle.table.specs.Table.{Table}
use Rattle.table.specs.Layout.{read_table, Readable}
use Rattle.report.specs.Judge.{fault, first_fault, number_of, table_number}

-- a fault whose number is none is not there
pub no_fault : (k : ℕ) (b : Bool) → fault (suc k) b ≡ 0 → b ≡ false
no_fault k true e = absurd (omega arith)
no_fault k false e = refl

-- where the first fault is none, none is there
pub first_fault_none : (ks : List ℕ) → first_fault ks ≡ 0 → (j : ℕ) → get_or ks j 0 ≡ 0
unfolding first_fault
first_fault_none [] e j = refl
first_fault_none (zero ∷ ks) e zero = refl
first_fault_none (zero ∷ ks) e (suc j) = first_fault_none ks e j
first_fault_none (suc k ∷ ks) e j = absurd (omega arith)

-- a fault that is there is lower than those after it
pub first_fault_first : (k : ℕ) (ks : List ℕ) → k ≢ 0 → first_fault (k ∷ ks) ≡ k
unfolding first_fault
first_fault_first zero ks h = absurd (h refl)
first_fault_first (suc k) ks h = refl

-- the first of some faults may be said in their place
pub first_fault_both : (xs ys : List ℕ) → first_fault (first_fault xs ∷ ys) ≡ first_fault (xs ++ ys)
unfolding first_fault
first_fault_both [] ys = refl
first_fault_both (zero ∷ xs) ys = first_fault_both xs ys
first_fault_both (suc k ∷ xs) ys = refl

-- an accepted table can be read
pub accepted_readable : (s : List ℕ) → table_number s ≡ 0 → Readable s
unfolding table_number number_of
accepted_readable s e = go (read_table s) e
  where
    go : (o : Option Table) → number_of o ≡ 0 → is_some o ≡ true
    go None e = absurd (omega arith)
    go (Some t) e = refl
