-- `datainfo::rules::note_starts` meets its contract. Assumes nothing.
use mathlib.Core.Path.{◌≡◌}
use lib.ListN.{length, drop}
use Rattle.datainfo.specs.Layout.{datainfo_in}
use Rattle.datainfo.specs.Clauses.Obeyed.{starts}
use Rattle.datainfo.proofs.Keys.{Noting}
use Rattle.datainfo.proofs.rules.note_starts.Given as goal

abbrev pub invariant-loop-m : goal.invariant-loop-m
invariant-loop-m l = (length l.notes ≡ length l.initial.notes) × Noting l.s l.levels l.k l.n (starts (datainfo_in l.levels) l.k l.n (drop l.at l.s)) l.notes l.i l.m
