-- Lines are answered as before, but for the text of a describing reply. Assumes nothing.
use Prim.Native.Nat.{ℕ}
use mathlib.Core.Path.{◌≡◌, refl, ap}
use Rattle.table.specs.Table.{Table}
use Rattle.message.specs.Line.{Parts}
use Rattle.message.specs.Request.{Request, identify, describe, ping, activate, deactivate, read, change, execute, count, malformed, request, check}
use Rattle.plain.specs.Node.{Node}
use Rattle.plain.specs.Answer.{outcome, conclude, answer_parts, settings_of, parts_set}
use Rattle.plain.specs.Notes.{formerly, former_parts, AsBefore}

module _ (w : Table) (n : Node) (c now : ℕ) where
  same_outcome : (r : Request) → (r ≡ describe → ⊥) → outcome w n c now r ≡ formerly w n c now r
  unfolding formerly
  same_outcome identify h = refl
  same_outcome describe h = absurd (h refl)
  same_outcome (ping token) h = refl
  same_outcome (activate m) h = refl
  same_outcome (deactivate m) h = refl
  same_outcome (read m a) h = refl
  same_outcome (change m a v) h = refl
  same_outcome (execute m a v) h = refl
  same_outcome (check m a v) h = refl
  same_outcome count h = refl
  same_outcome malformed h = refl

  same_sets : (r : Request) → settings_of (outcome w n c now r) ≡ settings_of (formerly w n c now r)
  unfolding formerly outcome settings_of
  same_sets identify = refl
  same_sets describe = refl
  same_sets (ping token) = refl
  same_sets (activate m) = refl
  same_sets (deactivate m) = refl
  same_sets (read m a) = refl
  same_sets (change m a v) = refl
  same_sets (execute m a v) = refl
  same_sets (check m a v) = refl
  same_sets count = refl
  same_sets malformed = refl

  pub lines_are_as_before : (p : Parts) → AsBefore w n c now p
  unfolding answer_parts parts_set former_parts formerly outcome conclude
  lines_are_as_before p =
      record {
        sets = same_sets (request p);
        others = λ h. ap (conclude w n c now p) (same_outcome (request p) h);
        described = λ e. rw e;
        was_described = λ e. rw e;
      }
