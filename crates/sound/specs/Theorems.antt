-- What the plain node holds and writes, in every history after an accepted start. Assumes nothing.
use Rattle.std.specs.Prelude.{ℕ, ◌≤◌, ◌<◌, true, false, not, List, [], ◌∷◌, ◌≡◌, eqb, length, Some, slice_get}
use Rattle.ascii.specs.Bytes.{all}
use Rattle.ascii.specs.Numbers.{latest}
use Rattle.counter.specs.declared.Counts.{Counts}
use Rattle.counter.specs.Counts.{highest}
use Rattle.datainfo.specs.Datainfo.{Datainfo}
use Rattle.fit.specs.Fit.{is_stored}
use Rattle.form.specs.Theorems.{InTable}
use Rattle.message.specs.Line.{Line, whole, overlong}
use Rattle.message.specs.Reply.{Held, valued, failed}
use Rattle.table.specs.Table.{Parameter, Command, Table}
use Rattle.table.specs.Layout.{table_of}
use Rattle.table.specs.Search.{Placed, parameters, commands}
use Rattle.report.specs.Judge.{table_number}
use Rattle.outbox.specs.Outbox.{encode_all}
use Rattle.outbox.specs.Theorems.{AllWellFormed}
use Rattle.plain.specs.Node.{Client, closed, connected, Value, Node, begin}
use Rattle.plain.specs.Calls.{Call, Answer, start_number}
use Rattle.plain.specs.History.{step, answers, finish}

-- an unfinished line is at most 1,024 bytes, with no line feed
abbrev pub LineHeld : Line → Type 0
LineHeld overlong = Unit {0}
LineHeld (whole xs) = (length xs ≤ 1024) × (all (λ b. not (eqb b 10)) xs ≡ true)

-- of a client: its line, and no module past the last is active
abbrev pub ClientHeld : Table → Client → Type 0
ClientHeld w closed = Unit {0}
ClientHeld w (connected l a) = LineHeld l × ((i : ℕ) → length w.modules ≤ i → a i ≡ false)

-- a value is in stored form and fits its datainfo; an error has one of the four classes, so nothing is asked of it
abbrev pub HeldFits : Parameter → Held → Type 0
HeldFits p (valued v) = is_stored p.datainfo v ≡ true
HeldFits p (failed f) = Unit {0}

-- and the time is within the limit
abbrev pub ValueHeld : Parameter → Value → Type 0
ValueHeld p v = HeldFits p v.held × (v.time ≤ latest)

-- each count "stops at 4,294,967,295"
abbrev pub CountsHeld : Counts → Type 0
CountsHeld x = (x.lines ≤ highest) × ((x.errors ≤ highest) × (x.updates ≤ highest))

-- the contrary of document 01's "State is unfit if", of what a plain node holds; and its counts
pub record Sound (w : Table) (n : Node) : Type 0 where
  pub values : (k : ℕ) (p : Placed Parameter) → slice_get (parameters w) k ≡ Some p → ValueHeld p.it (n.values k)
  pub clients : (c : ℕ) → ClientHeld w (n.clients c)
  pub above : (c : ℕ) → 7 < c → n.clients c ≡ closed
  pub counts : (c : ℕ) → CountsHeld (n.counts c)

-- Every datainfo of an accepted table, of a parameter or of an argument, is one of which the theorems of stored forms speak
-- (`form::stored_forms`): read from the table's bytes, with good names.
pub record DatainfosInTable : Type 0 where
  pub of_parameters : (table : List ℕ) → table_number table ≡ 0 → (k : ℕ) (p : Placed Parameter) → slice_get (parameters (table_of table)) k ≡ Some p
      → InTable p.it.datainfo
  pub of_arguments : (table : List ℕ) → table_number table ≡ 0 → (k : ℕ) (c : Placed Command) → slice_get (commands (table_of table)) k ≡ Some c
      → (d : Datainfo) → c.it.argument ≡ Some d → InTable d

-- The plain node only ever holds values in stored form that fit their datainfo, or errors, with times within the limit; and so on for the rest.
abbrev pub AlwaysSound : Type 0
AlwaysSound = (table : List ℕ) (area time : ℕ) → start_number table area time ≡ 0 → (h : List Call)
    → Sound (table_of table) (finish table (begin (table_of table) time) h)

-- No accepted call writes more than 32,019 bytes. [C-14]
abbrev pub AllShort : List Answer → Type 0
AllShort [] = Unit {0}
AllShort (a ∷ l) = (length (encode_all a.records) ≤ 32019) × AllShort l

abbrev pub WritesAreShort : Type 0
WritesAreShort = (table : List ℕ) (area time : ℕ) → start_number table area time ≡ 0 → (h : List Call)
    → AllShort (answers table (begin (table_of table) time) h)

-- All records of a history are well formed, so that equal bytes are equal records.
abbrev pub AllAnswersWellFormed : List Answer → Type 0
AllAnswersWellFormed [] = Unit {0}
AllAnswersWellFormed (a ∷ l) = AllWellFormed a.records × AllAnswersWellFormed l

abbrev pub WritesAreWellFormed : Type 0
WritesAreWellFormed = (table : List ℕ) (area time : ℕ) → start_number table area time ≡ 0 → (h : List Call)
    → AllAnswersWellFormed (answers table (begin (table_of table) time) h)

-- Of one call on any sound node and any table that is accepted, whatever came before: what it leaves is sound, and what it writes is short and
-- well formed.
pub record Keeps (w : Table) (n : Node) (a : Answer) : Type 0 where
  pub sound : Sound w n
  pub short : length (encode_all a.records) ≤ 32019
  pub formed : AllWellFormed a.records

abbrev pub CallsKeepSound : Type 0
CallsKeepSound = (table : List ℕ) → table_number table ≡ 0 → (n : Node) → Sound (table_of table) n → (e : Call)
    → Keeps (table_of table) (step table n e).0 (step table n e).1
