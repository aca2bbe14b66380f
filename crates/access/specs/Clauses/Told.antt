-- What the code that tells of a value answers. Assumes nothing.
use Rattle.std.specs.Prelude.{ℕ, ◌≡◌, List, Option, Some}
use Rattle.ascii.specs.Clauses.Writer.{Puts}
use Rattle.datainfo.specs.Datainfo.{Datainfo}
use Rattle.fit.specs.Fit.{stored_form}
use Rattle.message.specs.Reply.{valued, checked}
use Rattle.message.specs.Clauses.Said.{report_of}
use Rattle.outbox.specs.Outbox.{final, encode}

-- `checked` to client c, of the parameter a of the module m, with the stored form of a text by the datainfo that o reads, is at the front of the outbox
pub record PutsChecked (o : Option (Datainfo × List ℕ)) (c : ℕ) (m a xs : List ℕ) (t : ℕ) (before after : List ℕ) (end : ℕ) : Type 0 where
  pub is : {d : Datainfo} {x : List ℕ} → o ≡ Some (d, x) → Puts before 0 (encode (final c (checked (report_of m a (valued (stored_form d xs)) t)))) after end
