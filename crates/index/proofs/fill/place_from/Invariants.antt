-- `index::fill::place_from` meets its contract. The loop's invariant: so many used bytes were passed as it counted, and p is next. Assumes nothing.
use Rattle.index.proofs.Places.{Passed}
use Rattle.index.proofs.fill.place_from.Given as goal

abbrev pub invariant-loop : goal.invariant-loop
invariant-loop l = Passed l.index l.start l.counter l.p
