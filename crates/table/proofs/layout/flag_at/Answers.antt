-- `table::layout::flag_at` meets its contract. Assumes nothing.
use Rattle.table.proofs.Records.{flag_none, flag_zero, flag_one, flag_other}
use native.Mathlib.Omega.{arith}
use mathlib.Core.Path.{sym, ◌∙◌}
use Rattle.table.proofs.layout.flag_at.Goals as goal

pub returns-in_err-get : goal.returns-in_err-get
returns-in_err-get c = let past = c.in_err-get.ensures.lookup.3 in rw c.from_residual.ensures (flag_none c.args.s.now c.args.at (omega arith))

pub returns-in-0 : goal.returns-in-0
returns-in-0 c = let byte = c.in_ok-get.ensures.lookup.3 in flag_zero c.args.s.now c.args.at byte.0 (sym (byte.1 0) ∙ c.in-0.is)

pub returns-in-1 : goal.returns-in-1
returns-in-1 c = let byte = c.in_ok-get.ensures.lookup.3 in flag_one c.args.s.now c.args.at byte.0 (sym (byte.1 0) ∙ c.in-1.is)

pub returns-in_default : goal.returns-in_default
returns-in_default c = let byte = c.in_ok-get.ensures.lookup.3 in let e = byte.1 0 in let other = c.in_default in flag_other c.args.s.now c.args.at byte.0 (λ z. omega (arith, other)) (λ z. omega (arith, other))
