-- What the code that writes the structure report asks. Assumes nothing.
use Rattle.std.specs.Prelude.{ℕ, ◌+◌, ◌≤◌, List, length}
use Rattle.table.specs.Layout.{Readable, table_of}
use Rattle.report.specs.Report.{report}

-- s can be read, and a buffer has room for its report at a position
pub record RoomFor (s : List ℕ) (at : ℕ) (out : List ℕ) : Type 0 where
  pub readable : Readable s
  pub room : at + length (report (table_of s)) ≤ length out
