-- `describe::structure::emit_argument` meets its contract. Assumes nothing.
use Prim.Native.Nat.{◌≤◌}
use Rattle.describe.proofs.Reported.{argument_some, argument_none}
use Rattle.ascii.specs.Text.{bytes}
use native.Mathlib.Omega.{arith}
use Rattle.describe.proofs.structure.emit_argument.Goals as goal

pub returns-then-has : goal.returns-then-has
unfolding bytes
returns-then-has c = search argument_some

pub returns : goal.returns
returns c = let w : c.args.at ≤ 18446744073709551615 = omega arith in search argument_none
