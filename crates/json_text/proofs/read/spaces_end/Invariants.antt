-- `json_text::read::spaces_end` meets its contract: what `skip` leaves from `i` on is what it leaves from `at` on. Assumes nothing.
use Prim.Native.Nat.{◌≤◌, ◌-◌}
use mathlib.Core.Path.{◌≡◌}
use lib.ListN.{length, drop}
use Rattle.json_text.specs.Json.{skip}
use Rattle.json_text.proofs.read.spaces_end.Given as goal

abbrev pub invariant-loop-i : goal.invariant-loop-i
invariant-loop-i l = (l.i ≤ length l.s) × (skip (drop l.at l.s) ≡ skip (drop l.i l.s))

abbrev pub decreases-loop-i : goal.decreases-loop-i
decreases-loop-i l = length l.s - l.i
