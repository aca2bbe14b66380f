-- What the node writes as JSON, its own reader (`json/specs/Json`) reads, as the value that it was written from. Assumes nothing.
use Rattle.std.specs.Prelude.{ℕ, true, List, [], ◌∷◌, ◌++◌, ◌≡◌, Option, Some, None, slice_get}
use Rattle.ascii.specs.Text.{bytes}
use Rattle.ascii.specs.Bytes.{is_some}
use Rattle.counter.specs.declared.Counts.{Counts}
use Rattle.json_text.specs.Json.{Json, null, value, text}
use Rattle.table.specs.Table.{Parameter, Table}
use Rattle.table.specs.Layout.{table_of}
use Rattle.table.specs.Search.{Placed, parameters}
use Rattle.report.specs.Report.{report_value, report}
use Rattle.report.specs.Judge.{table_number}
use Rattle.message.specs.Error.{Denial}
use Rattle.message.specs.Reply.{Held, DataReport, Reply, identification, describing, pong, active, inactive, reply, changed, done, checked, counted, error}
use Rattle.message.specs.Reply.{data_report, held_report, error_report, counts_text}
use Rattle.outbox.specs.Outbox.{Record, final, update, order_change, order_command}
use Rattle.plain.specs.Node.{Value, begin}
use Rattle.plain.specs.Calls.{Call, start_number}
use Rattle.plain.specs.History.{answers, finish, sent}
use Rattle.sound.specs.Theorems.{HeldFits}
use Rattle.readable.specs.Trees.{data_value, held_value, denial_value, counts_value}

-- ## The structure report

-- "JSON nested more than 8 levels" counts as BadJSON in what a client sends, so `text` reads with 8. A structure report has up to 14: six down to the
-- datainfo of a command (the node, its modules, a module, its accessibles, a command, its datainfo), and then two for each level of the argument's
-- datainfo ("At most four levels"): its object, and its members [T-14, T-31]
abbrev pub report_levels : ℕ
report_levels = 14

-- The structure report of every accepted table is read whole, as the value that it was written from, by the same reader with so many levels.
abbrev pub StructureReportsAreRead : Type 0
StructureReportsAreRead = (table : List ℕ) → table_number table ≡ 0
    → value report_levels (report (table_of table)) ≡ Some (report_value (table_of table), [])

-- one command, whose argument is a tuple of a tuple of a tuple of an enum
unfoldable pub deepest : List ℕ
deepest =
    bytes "ND\0\0" ++ bytes "MO\u{1}m\0" ++ bytes "CM\u{1}c\0\u{1}" ++ bytes "\u{7}\u{1}\u{7}\u{1}\u{7}\u{1}" ++ bytes "\u{4}\u{1}\u{1}e\0\0\0\0"
    ++ bytes "EN"

-- With fewer it is not: this table is accepted, and its report has 14 levels.
pub record FewerAreTooFew : Type 0 where
  pub accepted : table_number deepest ≡ 0
  pub refused : value 13 (report (table_of deepest)) ≡ None

-- ## Data reports and error reports: `text` reads them, by the rule for what a client sends

-- a value, and the text is that value's
abbrev pub IsRead : List ℕ → Option Json → Type 0
IsRead xs o = (is_some o ≡ true) × (text xs ≡ o)

-- Of all that a node may have to report.
pub record DataReportsAreRead : Type 0 where
  -- of whatever a parameter of an accepted table may hold, a text in stored form or why it can't be read: what `reply`, `changed`, `checked` and
  -- updates have
  pub of_held : (table : List ℕ) → table_number table ≡ 0 → (k : ℕ) (p : Placed Parameter) → slice_get (parameters (table_of table)) k ≡ Some p
      → (h : Held) (t : ℕ) → HeldFits p.it h → IsRead (held_report h t) (held_value h t)
  -- of `null`: what `pong` and `done` have
  pub of_null : (t : ℕ) → text (data_report (bytes "null") t) ≡ Some (data_value null t)
  -- of a client's counts: what `_counted` has
  pub of_counts : (x : Counts) (n t : ℕ) → text (data_report (counts_text x n) t) ≡ Some (data_value (counts_value x n) t)
  -- "`error_ACTION SPECIFIER [..]`"
  pub of_errors : (d : Denial) → text (error_report d) ≡ Some (denial_value d)

-- So in every history, after every call, the report of each parameter is read.
abbrev pub HeldReportsAreRead : Type 0
HeldReportsAreRead = (table : List ℕ) (area time : ℕ) → start_number table area time ≡ 0 → (h : List Call)
    → (k : ℕ) (p : Placed Parameter) → slice_get (parameters (table_of table)) k ≡ Some p
    → let v : Value = (finish table (begin (table_of table) time) h).values k in IsRead (held_report v.held v.time) (held_value v.held v.time)

-- ## All that is sent

-- what an accessible's report has
abbrev pub ReportRead : DataReport → Type 0
ReportRead r = IsRead (held_report r.held r.time) (held_value r.held r.time)

-- what a reply has as JSON, on the table w; three have none
abbrev pub ReplyRead : Table → Reply → Type 0
ReplyRead w (identification e) = Unit {0}
ReplyRead w (describing xs) = value report_levels xs ≡ Some (report_value w, [])
ReplyRead w (pong token now) = text (data_report (bytes "null") now) ≡ Some (data_value null now)
ReplyRead w (active m) = Unit {0}
ReplyRead w (inactive m) = Unit {0}
ReplyRead w (reply r) = ReportRead r
ReplyRead w (changed r) = ReportRead r
ReplyRead w (done r) = ReportRead r
ReplyRead w (checked r) = ReportRead r
ReplyRead w (counted x n now) = text (data_report (counts_text x n) now) ≡ Some (data_value (counts_value x n) now)
ReplyRead w (error a s d) = text (error_report d) ≡ Some (denial_value d)

-- and a record: lines have reports, and orders have none
abbrev pub RecordRead : Table → Record → Type 0
RecordRead w (final c r) = ReplyRead w r
RecordRead w (update c r) = ReportRead r
RecordRead w (order_change c p v) = Unit {0}
RecordRead w (order_command c p v) = Unit {0}

abbrev pub AllRead : Table → List Record → Type 0
AllRead w [] = Unit {0}
AllRead w (r ∷ rs) = RecordRead w r × AllRead w rs

-- In every history after an accepted start, each report in each reply and each update is read.
abbrev pub RecordsAreRead : Type 0
RecordsAreRead = (table : List ℕ) (area time : ℕ) → start_number table area time ≡ 0 → (h : List Call)
    → AllRead (table_of table) (sent (answers table (begin (table_of table) time) h))
