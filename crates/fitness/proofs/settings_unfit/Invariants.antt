-- `fitness::settings_unfit` meets its contract. The loop's invariant: the settings of the first k parameters are fit. Assumes nothing.
use Rattle.fitness.proofs.Unfits.{Passed}
use Rattle.fitness.proofs.settings_unfit.Given as goal

abbrev pub invariant-loop-k : goal.invariant-loop-k
invariant-loop-k l = Passed l.table l.values l.settings l.k l.cursor
