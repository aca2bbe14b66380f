-- What the code that sets a parameter is given, and what it answers. Assumes nothing.
use Rattle.std.specs.Prelude.{ℕ, ◌≤◌, ◌<◌, ◌≡◌, true, List, [], ◌∷◌, ◌++◌, length, Option, Some}
use Rattle.ascii.specs.Names.{is_name}
use Rattle.ascii.specs.Numbers.{latest}
use Rattle.ascii.specs.Clauses.Writer.{Puts}
use Rattle.datainfo.specs.Datainfo.{Datainfo}
use Rattle.fit.specs.Fit.{stored_form}
use Rattle.form.specs.Clauses.Formed.{FitsAt}
use Rattle.message.specs.Reply.{valued, DataReport, changed}
use Rattle.message.specs.Clauses.Said.{report_of}
use Rattle.outbox.specs.Outbox.{Record, final, order_change, encode_all}
use Rattle.report.specs.Judge.{table_number}
use Rattle.plain.specs.Node.{client_numbers, updates_to}
use Rattle.plain.specs.Answer.{busy}
use Rattle.state.specs.declared.Clients.{Clients}
use Rattle.state.specs.View.{client_at, with_stored}
use Rattle.outcome.specs.declared.Outcome.{Outcome}
use Rattle.outcome.specs.declared.Outcome.TheVariants.{Stored}
use Rattle.access.specs.Clauses.Busy.{StatusLow, FindsStatus, with_status, status_updates}

-- the records of `plain/Answer.sets`: parameter k, a of the module m, which has the number h, set by client c to the text v at the time t, after a
-- status that is set to the text b
unfoldable pub set_records : Clients → Option (ℕ × ℕ) → List ℕ → ℕ → ℕ → ℕ → List ℕ → List ℕ → List ℕ → ℕ → List Record
set_records s first b c k h m a v t =
    let r : DataReport = report_of m a (valued v) t in
    order_change c k v ∷ ((status_updates s first m b t ++ updates_to (client_at s) h r client_numbers) ++ (final c (changed r) ∷ []))

-- the parameter a of the module m has these numbers, reports of it can be written, and the outbox has room for the records
pub record Settable (out : List ℕ) (k h : ℕ) (m a : List ℕ) (t : ℕ) : Type 0 where
  pub low : k < 64
  pub home_low : h < 16
  pub module_name_lem : is_name m ≡ true
  pub name : is_name a ≡ true
  pub in_time : t ≤ latest
  pub room : 32768 ≤ length out

-- a text that fits the datainfo at a position of an accepted table, and a values area
pub record Accepts (table : List ℕ) (info : ℕ) (values xs : List ℕ) : Type 0 where
  pub accepted : table_number table ≡ 0
  pub fitting : FitsAt table info xs
  pub area : 16384 ≤ length values

-- a status and its text, as they are handed on
pub record Staged (first : Option (ℕ × ℕ)) (b : List ℕ) : Type 0 where
  pub low : StatusLow first
  pub short : length b ≤ 256

-- r stands for a setting: after the status's text the stored form by the datainfo d is in the values area, and the records are in the outbox
pub record IsSet (table : List ℕ) (d : Datainfo) (s : Clients) (c k h : ℕ) (m a xs : List ℕ) (t : ℕ) (values out : List ℕ) (r : Outcome)
    (stored after : List ℕ) : Type 0 where
  pub first : Option (ℕ × ℕ)
  pub finds : FindsStatus table m a first
  pub written : ℕ
  pub is : r ≡ Stored first k (length (stored_form d xs)) written
  pub area : stored ≡ with_stored (with_status values first busy) k (stored_form d xs)
  pub puts : Puts out 0 (encode_all (set_records s first busy c k h m a (stored_form d xs) t)) after written

-- the same by the datainfo that o reads
pub record IsSetBy (table : List ℕ) (o : Option (Datainfo × List ℕ)) (s : Clients) (c k h : ℕ) (m a xs : List ℕ) (t : ℕ) (values out : List ℕ)
    (r : Outcome) (stored after : List ℕ) : Type 0 where
  pub is : {d : Datainfo} {x : List ℕ} → o ≡ Some (d, x) → IsSet table d s c k h m a xs t values out r stored after
