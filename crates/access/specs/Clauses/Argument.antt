-- What the code that carries out a command is given, and what it answers. Assumes nothing.
use Rattle.std.specs.Prelude.{ℕ, ◌≤◌, ◌<◌, ◌≡◌, Bool, true, List, [], ◌∷◌, length, Option, Some, Result}
use Rattle.ascii.specs.Text.{bytes}
use Rattle.ascii.specs.Names.{is_name}
use Rattle.ascii.specs.Numbers.{latest}
use Rattle.ascii.specs.Clauses.Writer.{Puts}
use Rattle.datainfo.specs.Datainfo.{Datainfo}
use Rattle.fit.specs.Fit.{is_fit}
use Rattle.fit.specs.Clauses.Verdict.{meaning}
use Rattle.table.specs.Clauses.At.{ArgumentReadable}
use Rattle.message.specs.Reply.{valued, done}
use Rattle.message.specs.Clauses.Said.{report_of}
use Rattle.outbox.specs.Outbox.{Record, final, order_command, encode, encode_all}
use Rattle.plain.specs.Answer.{argument_verdict, argument_form}
use Rattle.fit.specs.declared.Misfit.{Misfit}

-- r is the verdict on a text by the argument that o reads; asked only where o can be read
pub record JudgesArgument (o : Option (Option Datainfo × List ℕ)) (xs : List ℕ) (r : Result Unit Misfit) : Type 0 where
  pub is : {a : Option Datainfo} {x : List ℕ} → o ≡ Some (a, x) → meaning r ≡ argument_verdict a xs

-- a text that is let in, by the argument that is declared at a position of the table or where none is
pub record LetIn (table : List ℕ) (info : ℕ) (declared : Bool) (xs : List ℕ) : Type 0 where
  pub reads : ArgumentReadable table declared info
  pub fits : is_fit (argument_verdict reads.argument xs) ≡ true

-- an order to carry out command k, with a text that is let in, and room for the records
pub record Ordered (table : List ℕ) (info : ℕ) (out : List ℕ) (k : ℕ) (declared : Bool) (xs : List ℕ) : Type 0 where
  pub low : k < 64
  pub argument : LetIn table info declared xs
  pub room : 32768 ≤ length out

-- a report of the command a of the module m at the time t can be written
pub record Reported (m a : List ℕ) (t : ℕ) : Type 0 where
  pub module_name_lem : is_name m ≡ true
  pub name : is_name a ≡ true
  pub in_time : t ≤ latest

-- "the driver's order, then `done M:C [null,{"t":now}]`"
unfoldable pub order_records : ℕ → ℕ → List ℕ → List ℕ → List ℕ → ℕ → List Record
order_records c k form m a t = order_command c k form ∷ (final c (done (report_of m a (valued (bytes "null")) t)) ∷ [])

-- the order of client c to carry out command k, with the form of a text by the argument that o reads, is at the front of the outbox
pub record PutsOrder (o : Option (Option Datainfo × List ℕ)) (c k : ℕ) (xs before after : List ℕ) (end : ℕ) : Type 0 where
  pub is : {d : Option Datainfo} {x : List ℕ} → o ≡ Some (d, x) → Puts before 0 (encode (order_command c k (argument_form d xs))) after end

-- and the reply after it
pub record IsOrdered (o : Option (Option Datainfo × List ℕ)) (c k : ℕ) (xs m a : List ℕ) (t : ℕ) (before after : List ℕ) (end : ℕ) : Type 0 where
  pub is : {d : Option Datainfo} {x : List ℕ} → o ≡ Some (d, x) → Puts before 0 (encode_all (order_records c k (argument_form d xs) m a t)) after end
