-- The structure report tells the table that is enforced. Assumes nothing.
use Prim.Native.Nat.{ℕ, ◌+◌, ◌≤◌}
use native.Mathlib.Omega.{arith}
use mathlib.Core.List.{[], append-nil}
use mathlib.Core.Path.{◌≡◌, sym, ◌∙◌, ap}
use Rattle.json_text.specs.Json.{Json, compact}
use Rattle.table.specs.Table.{Table}
use Rattle.report.specs.Report.{report_value, report}
use Rattle.report.specs.Judge.{tree_number}
use Rattle.report.specs.Theorems.{enforced, ReportsTell}
use Rattle.report.proofs.Read.{read_value, Plain, size, value_back, stop_end}
use Rattle.report.proofs.Trees.{told, table_levels, told_back}
use Rattle.report.proofs.Plain.{report_plain}

-- what is read from a whole text
compact_back : (v : Json) → Plain v → (n : ℕ) → size v ≤ n → (read_value n (compact v)).0 ≡ v
compact_back v p n h = ap (λ r. r.0) (rw append-nil at (value_back v p n h [] stop_end))

report_back : (t : Table) → tree_number t ≡ 0 → (n : ℕ) → size (report_value t) ≤ n → table_levels t ≤ n
    → told n (read_value n (report t)).0 ≡ enforced t
unfolding report
report_back t e n h k = ap (told n) (compact_back (report_value t) (report_plain t e) n h) ∙ told_back t n k

pub reports_tell : ReportsTell
reports_tell t u e f same =
    let n = size (report_value t) + size (report_value u) + table_levels t + table_levels u in
    sym (report_back t e n (omega arith) (omega arith)) ∙ ap (λ xs. told n (read_value n xs).0) same
    ∙ report_back u f n (omega arith) (omega arith)
