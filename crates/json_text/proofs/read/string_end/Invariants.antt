-- `json_text::read::string_end` meets its contract: the string is what is to come from `i` on, in fewer characters than turns are left. Assumes nothing.
use Prim.Native.Nat.{◌≤◌, ◌-◌}
use mathlib.Core.Path.{◌≡◌}
use lib.ListN.{length, drop}
use Rattle.json_text.specs.Json.{string_end, chars}
use Rattle.json_text.proofs.read.string_end.Given as goal

abbrev pub invariant-loop : goal.invariant-loop
invariant-loop l = (l.i ≤ length l.s) × (string_end (drop l.at l.s) ≡ chars (length l.s - l.counter) (drop l.i l.s))
