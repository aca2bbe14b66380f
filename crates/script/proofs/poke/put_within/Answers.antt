-- `script::poke::put_within` meets its contract. Assumes nothing.
use Rattle.script.proofs.Within.{within_past, within_over, within_put}
use Rattle.script.proofs.poke.put_within.Goals as goal
use Rattle.script.proofs.poke.put_within.Goals.{else-place-size-via-then-place-size+else-bytes-size, else-place-size-via-else-place-size}

pub returns-then-bytes-size : goal.returns-then-bytes-size
returns-then-bytes-size c = within_put _ _ _ c.if-place-size.true c.if-bytes-size.true c.put.ensures

pub returns-else-place-size : goal.returns-else-place-size
returns-else-place-size c =
    elim c.else-place-size.branch [
      | else-place-size-via-then-place-size+else-bytes-size w ↦ within_over _ _ _ w.if-place-size.true w.if-bytes-size.false
      | else-place-size-via-else-place-size w ↦ within_past _ _ _ w.if-place-size.false
    ]
