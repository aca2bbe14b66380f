-- `script::say::fill` meets its contract: the bytes in front of the position have their pattern. Assumes nothing.
use Rattle.script.proofs.Pattern.{Begun}
use Rattle.script.proofs.say.fill.Given as goal

abbrev pub invariant-loop-i : goal.invariant-loop-i
invariant-loop-i l = Begun l.initial.outbox l.i l.outbox
