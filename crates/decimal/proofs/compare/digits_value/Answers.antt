use native.Mathlib.Omega.{arith}
use mathlib.Core.Path.{refl}
use borrow.Author.Rules.{rules}
use Rattle.decimal.proofs.Values.{room, read_small, read_more_lem, read_all}
use Rattle.decimal.proofs.compare.digits_value.Goals as goal

pub loop-b-init : goal.loop-b-init
loop-b-init c = (search rules, search rules, omega arith, refl)

pub with_byte-n-requires : goal.with_byte-n-requires
with_byte-n-requires c = search room

pub loop-b-preserved : goal.loop-b-preserved
loop-b-preserved c = (omega arith, c.with_byte-n.ensures.low, search read_small, search read_more_lem)

pub returns : goal.returns
returns c = (search read_all, search room)
