-- `ascii::names::compare` meets its contract. The loop's invariant: the first i pairs are equal. Assumes nothing.
use Rattle.ascii.proofs.Compares.{Agree}
use Rattle.ascii.proofs.names.compare.Given as goal

abbrev pub invariant-loop-i : goal.invariant-loop-i
invariant-loop-i l = Agree l.a l.b l.i
