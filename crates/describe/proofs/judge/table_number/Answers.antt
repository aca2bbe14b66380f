-- `describe::judge::table_number` meets its contract. Assumes nothing.
use Rattle.describe.proofs.Numbered.{number_low, number_readable, number_6, number_0}
use Prim.Native.Nat.{◌≤◌, ◌<◌}
use native.Mathlib.Omega.{arith}
use mathlib.Core.Path.{◌≡◌}
use Rattle.describe.proofs.judge.table_number.Goals as goal

pub returns-then-n-ne0 : goal.returns-then-n-ne0
returns-then-n-ne0 c = let h : c.number_below_6-n.result ≡ 0 → ⊥ = λ z. omega arith in search number_low

pub report_length-requires : goal.report_length-requires
report_length-requires c = search number_readable

pub returns-then-report_length-gt-REPORT : goal.returns-then-report_length-gt-REPORT
returns-then-report_length-gt-REPORT c = let h : 32000 < c.report_length.result = omega arith in search number_6

pub returns : goal.returns
returns c = let h : c.report_length.result ≤ 32000 = omega arith in search number_0
