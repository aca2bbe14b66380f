-- `json_text::characters::count` meets its contract: `n` characters were counted, and those from `i` on are to come. Assumes nothing.
use Prim.Native.Nat.{◌+◌, ◌-◌, ◌≤◌}
use mathlib.Core.Path.{◌≡◌}
use lib.ListN.{length, drop}
use Rattle.json_text.specs.Characters.{characters}
use Rattle.json_text.proofs.characters.count.Given as goal

abbrev pub invariant-loop-i : goal.invariant-loop-i
invariant-loop-i l = (l.n ≤ l.i) × (l.i ≤ length l.s + 5) × (l.n + length (characters (drop l.i l.s)) ≡ length (characters l.s))

abbrev pub decreases-loop-i : goal.decreases-loop-i
decreases-loop-i l = length l.s - l.i
