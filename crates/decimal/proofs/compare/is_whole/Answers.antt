-- `decimal::compare::is_whole` meets its contract: no byte is an 'e' and none a dot where both are looked for in vain. Assumes nothing.
use Prim.Native.Nat.{◌≤◌, ◌<◌}
use native.Mathlib.Omega.{arith}
use lib.ListN.{length}
use borrow.Author.Tests.{ne_eqb}
use Rattle.decimal.proofs.Values.{other, run_within, not_whole, whole}
use Rattle.decimal.proofs.compare.is_whole.Goals as goal

pub returns-else-until-t : goal.returns-else-until-t
returns-else-until-t c = let h : c.until.result < length c.args.t.now = omega (arith, run_within (other 101 69) c.args.t.now, c.until.ensures) in rw (ne_eqb _ _ c.if-until-t.false) (not_whole c.args.t.now _ c.until.ensures h)

pub returns-then-until-t : goal.returns-then-until-t
returns-then-until-t c = let h : length c.args.t.now ≤ c.until.result = omega arith in whole c.args.t.now _ c.until.ensures _ h c.until-then-until-t.ensures
