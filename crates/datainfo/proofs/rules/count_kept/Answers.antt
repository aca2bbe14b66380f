-- `datainfo::rules::count_kept` meets its contract. Assumes nothing.
use native.Mathlib.Omega.{arith}
use Rattle.std.proofs.lemmas.Grind.{common_steps}
use Rattle.ascii.specs.Bytes.{is_in}
use Rattle.datainfo.proofs.Own.{count_none, count_some}
use Rattle.datainfo.proofs.rules.count_kept.Goals as goal

pub returns-then-s-at : goal.returns-then-s-at
returns-then-s-at c = search count_none

pub returns : goal.returns
unfolding is_in
returns c = count_some c.args.s.now c.args.at c.args.most c.contains.result (omega arith) (rw c.contains.ensures.value (grind (arith, common_steps)))
