-- The cycle of calls {held_obeys, inside_obeys, obeys}. A level of datainfos is three calls deep, so the measures are three times the levels
-- left, plus 0 for `obeys`, 1 for `held_obeys` and 2 for `inside_obeys`. Assumes nothing.
use Prim.Native.Nat.{◌+◌, ◌*◌, ◌≤◌, ◌-◌}
use mathlib.Core.Path.{◌≡◌}
use lib.ListN.{length, drop}
use Rattle.datainfo.specs.Layout.{datainfo_in}
use Rattle.datainfo.specs.Clauses.Obeyed.{held_obeys, held_obeys_at}
use Rattle.datainfo.proofs.rules.+held_obeys_inside_obeys_obeys.Given as goal

abbrev pub invariant-held_obeys-loop : goal.invariant-held_obeys-loop
invariant-held_obeys-loop l = (l.i ≤ length l.s) × (held_obeys_at (datainfo_in l.levels) l.k l.names (drop l.at l.s) ≡ held_obeys (datainfo_in l.levels) l.k l.names (l.count - l.counter) (drop l.i l.s))

abbrev pub decreases-held_obeys : goal.decreases-held_obeys
decreases-held_obeys l = 3 * l.levels + 1

abbrev pub decreases-inside_obeys : goal.decreases-inside_obeys
decreases-inside_obeys l = 3 * l.levels + 2

abbrev pub decreases-obeys : goal.decreases-obeys
decreases-obeys l = 3 * l.levels
