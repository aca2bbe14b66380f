-- `json_text::characters::all_low` meets its contract: all are low if those from `i` on are. Assumes nothing.
use Prim.Native.Nat.{◌+◌, ◌-◌, ◌≤◌}
use mathlib.Core.Path.{◌≡◌}
use lib.ListN.{length, drop}
use lib.Dec.{leb}
use Rattle.ascii.specs.Bytes.{all}
use Rattle.json_text.specs.Characters.{characters}
use Rattle.json_text.proofs.characters.all_low.Given as goal

abbrev pub invariant-loop-i : goal.invariant-loop-i
invariant-loop-i l = (l.i ≤ length l.s + 5) × (all (λ c. leb c 127) (characters l.s) ≡ all (λ c. leb c 127) (characters (drop l.i l.s)))

abbrev pub decreases-loop-i : goal.decreases-loop-i
decreases-loop-i l = length l.s - l.i
