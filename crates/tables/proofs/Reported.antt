-- Laws of the report that the program puts into its buffer. Assumes nothing.
use Prim.Native.Nat.{ℕ, ◌≤◌}
use native.Mathlib.Omega.{arith}
use mathlib.Core.Path.{◌≡◌}
use mathlib.Core.List.{List}
use lib.ListN.{length}
use lib.Seq.{length-sets}
use Rattle.ascii.specs.Clauses.Writer.{Puts}
use Rattle.table.specs.Layout.{table_of}
use Rattle.report.specs.Report.{report}
use Rattle.report.specs.Judge.{table_number}
use Rattle.report.proofs.Faults.{accepted_readable}
use Rattle.describe.specs.Clauses.Room.{RoomFor}
use Rattle.describe.proofs.Numbered.{accepted_short}

module _ (s d : List ℕ) (z : table_number s ≡ 0) where
  pub report_room : 33000 ≤ length d → RoomFor s 500 d
  report_room h = let x = accepted_short s z in record { readable = accepted_readable s z; room = omega arith }

  module _ (e : List ℕ) (r : ℕ) (p : Puts d 500 (report (table_of s)) e r) where
    pub report_begins : 500 ≤ r
    report_begins = let x = p.ends in omega arith

    pub report_ends : 33000 ≤ length d → r ≤ length e
    report_ends h =
        let y : length e ≡ length d = rw (p.is, length-sets d 500 (report (table_of s))) in
        let f = p.ends in
        let g = accepted_short s z in
        omega arith
