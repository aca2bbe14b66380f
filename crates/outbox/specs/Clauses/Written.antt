-- What the code that writes records is given, as the definitions have it. Assumes nothing.
use Rattle.std.specs.Prelude.{ℕ, ◌+◌, ◌≤◌, ◌<◌, List, ◌∷◌, ◌++◌, length, Option}
use Rattle.ascii.specs.Text.{bytes}
use Rattle.ascii.specs.Numbers.{two_bytes}
use Rattle.message.specs.Reply.{DataReport, Reply, active, inactive, reply, changed, done, checked}
use Rattle.outbox.specs.Outbox.{Record, body, encode}
use Rattle.outbox.specs.declared.write.Told.{Told}
use Rattle.outbox.specs.declared.write.Switched.{Switched}
use Rattle.outbox.specs.declared.write.Switched.TheVariants.{Active, Inactive}

-- a record by its mark, its client and its body, as `encode` has it
unfoldable pub sealed : List ℕ → ℕ → List ℕ → List ℕ
sealed m c b = m ++ (c ∷ two_bytes (length b)) ++ b

-- a buffer has room for it at a position, and the body's length fits in two bytes
pub record Room (out : List ℕ) (at : ℕ) (m : List ℕ) (c : ℕ) (b : List ℕ) : Type 0 where
  pub fits : at + length (sealed m c b) ≤ length out
  pub short : length b ≤ 65535

-- the same for a line with its line feed
pub record LineRoom (out : List ℕ) (at : ℕ) (m : List ℕ) (c : ℕ) (line : List ℕ) : Type 0 where
  pub fits : at + length (sealed m c (line ++ bytes "\n")) ≤ length out
  pub short : length line < 65535

-- the same for a record of the definitions
pub record RoomFor (out : List ℕ) (at : ℕ) (r : Record) : Type 0 where
  pub fits : at + length (encode r) ≤ length out
  pub short : length (body r) ≤ 65535

-- the record of `describing` up to the report, of which n is the length; the report and a line feed follow
unfoldable pub describing_start : ℕ → ℕ → List ℕ
describing_start c n = bytes "RP" ++ (c ∷ two_bytes (n + 14)) ++ bytes "describing . "

abbrev pub told_reply : Told → DataReport → Reply
told_reply Told.Reply = reply
told_reply Told.Changed = changed
told_reply Told.Done = done
told_reply Told.Checked = checked

abbrev pub switched_reply : Switched → Option (List ℕ) → Reply
switched_reply Active = active
switched_reply Inactive = inactive
