-- `datainfo::rules::is_repeated` meets its contract. Assumes nothing.
use Prim.Native.Nat.{◌≤◌}
use mathlib.Core.Path.{◌≡◌}
use lib.ListN.{length, drop}
use Rattle.ascii.specs.Bytes.{any}
use Rattle.datainfo.specs.Clauses.Obeyed.{same_key, from_each}
use Rattle.datainfo.proofs.rules.is_repeated.Given as goal

abbrev pub invariant-loop-at : goal.invariant-loop-at
invariant-loop-at l = (l.at-index ≤ length l.later) × (any (same_key l.k l.names (drop l.of l.s)) (from_each l.s l.later) ≡ any (same_key l.k l.names (drop l.of l.s)) (from_each l.s (drop l.at-index l.later)))
