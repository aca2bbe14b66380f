-- `datainfo::rules::keys_unlike` meets its contract. Assumes nothing.
use Prim.Native.Nat.{◌≤◌}
use mathlib.Core.Path.{◌≡◌}
use lib.ListN.{length, drop}
use Rattle.datainfo.specs.Clauses.Obeyed.{keys_good, from_each}
use Rattle.datainfo.proofs.rules.keys_unlike.Given as goal

abbrev pub invariant-loop-j : goal.invariant-loop-j
invariant-loop-j l = (l.j ≤ length l.from) × (keys_good l.k l.names (from_each l.s l.from) ≡ keys_good l.k l.names (from_each l.s (drop l.j l.from)))
