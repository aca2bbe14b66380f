-- What an index beside the table is good for, over the calls (request M-105): of every single call, on every table and node, whether or not the state
-- that it is handed is unfit. What stands in quotation marks is the request's. Assumes nothing.
use Rattle.std.specs.Prelude.{ℕ, ◌≤◌, Bool, false, cond, List, ◌++◌, ◌≡◌, Option, Some, None}
use Rattle.ascii.specs.Bytes.{is_some}
use Rattle.hash.specs.Hash.{start_place}
use Rattle.table.specs.Table.{Accessible, Table}
use Rattle.table.specs.Layout.{table_of}
use Rattle.table.specs.Search.{Placed, find_module}
use Rattle.index.specs.Index.{around}
use Rattle.index.specs.Search.{looked}
use Rattle.index.specs.Accessibles.{accessibles, is_named, find_accessible, index_of}
use Rattle.message.specs.Request.{Request, identify, describe, ping, activate, deactivate, read, change, execute, count, malformed, check}
use Rattle.plain.specs.Node.{Node}
use Rattle.plain.specs.Calls.{Event, Open, Close, Piece, Reading, Unreadable, Call, beside, is_short, has_feed, step_if, settings_if}
use Rattle.rule.specs.Theorems.{request_of}

-- ## Answers

-- what two calls answer, leave and set, alike but for the steps [I-5]
pub record AlikeButSteps (table : List ℕ) (unfit : Bool) (n : Node) (e f : Call) : Type 0 where
  pub node : (step_if table unfit n f).0 ≡ (step_if table unfit n e).0
  pub number : (step_if table unfit n f).1.number ≡ (step_if table unfit n e).1.number
  pub used : (step_if table unfit n f).1.used ≡ (step_if table unfit n e).1.used
  pub records : (step_if table unfit n f).1.records ≡ (step_if table unfit n e).1.records
  pub settings : settings_if table unfit n f ≡ settings_if table unfit n e

-- "a stale or scribbled index can't change any answer but its steps": a call, and the same lent another index or none, of which neither is short [I-5]
abbrev pub IndexesAlterNoAnswer : Type 0
IndexesAlterNoAnswer = (table : List ℕ) (unfit : Bool) (n : Node) (e : Call) (index : List ℕ)
    → is_short e.lent.index ≡ false → is_short index ≡ false → AlikeButSteps table unfit n e (beside index e)

-- ## Steps

-- "at most 192 always" [I-7]
abbrev pub StepsAreFew : Type 0
StepsAreFew = (table : List ℕ) (unfit : Bool) (n : Node) (e : Call) → (step_if table unfit n e).1.steps ≤ 192

-- "only a line's `M:P` or `M:C`": the names of the accessible that a request is about; without the record `ED` a `check` is about none [I-6]
unfoldable pub names_sought : Table → Request → Option (List ℕ × List ℕ)
names_sought w identify = None
names_sought w describe = None
names_sought w (ping token) = None
names_sought w (activate m) = None
names_sought w (deactivate m) = None
names_sought w (read m a) = Some (m, a)
names_sought w (change m a v) = Some (m, a)
names_sought w (execute m a v) = Some (m, a)
names_sought w (check m a v) = cond (is_some w.edition) (Some (m, a)) None
names_sought w count = None
names_sought w malformed = None

-- the same of a piece: one with a line feed ends a line
abbrev pub line_sought : Table → Node → ℕ → List ℕ → Option (List ℕ × List ℕ)
line_sought w n c bs = cond (has_feed bs) (names_sought w (request_of n c bs)) None

-- the same of an event: no other seeks [I-6]
unfoldable pub event_sought : Table → Node → Event → Option (List ℕ × List ℕ)
event_sought w n (Open c t) = None
event_sought w n (Close c t) = None
event_sought w n (Piece c bs t) = line_sought w n c bs
event_sought w n (Reading p bs t) = None
event_sought w n (Unreadable p k t) = None

-- "0 where no accessible is sought"
abbrev pub NothingElseIsSought : Type 0
NothingElseIsSought = (table : List ℕ) (unfit : Bool) (n : Node) (e : Call)
    → event_sought (table_of table) n e.event ≡ None → (step_if table unfit n e).1.steps ≡ 0

-- "its module found": where it is not, nothing is sought in it
abbrev pub ModulesAreFoundFirst : Type 0
ModulesAreFoundFirst = (table : List ℕ) (unfit : Bool) (n : Node) (e : Call) (m a : List ℕ)
    → event_sought (table_of table) n e.event ≡ Some (m, a) → find_module (table_of table) m ≡ None → (step_if table unfit n e).1.steps ≡ 0

-- "at most 64, with no walk": the steps are those among the index's bytes [I-7]
pub record Quick (w : Table) (m a : List ℕ) (steps : ℕ) : Type 0 where
  pub few : steps ≤ 64
  pub unwalked : steps ≡ (looked (is_named m a) (accessibles w) (around (start_place m a) (index_of w))).steps

-- "for a present name and an index filled from this table": an accepted call whose event seeks the accessible k; bytes past the 128 make no difference [I-7]
abbrev pub PresentNamesAreQuick : Type 0
PresentNamesAreQuick = (table : List ℕ) (unfit : Bool) (n : Node) (e : Call) (m a more : List ℕ) (k : ℕ × Placed Accessible)
    → e.lent.index ≡ index_of (table_of table) ++ more → event_sought (table_of table) n e.event ≡ Some (m, a)
    → find_accessible (table_of table) m a ≡ Some k → let r = step_if table unfit n e in r.1.number ≡ 0 → Quick (table_of table) m a r.1.steps
