-- What the code that sets a status first (M-100) is given, and what it answers. Assumes nothing.
use Rattle.std.specs.Prelude.{ℕ, ◌<◌, ◌≡◌, cond, List, [], Option, Some, None}
use Rattle.ascii.specs.Text.{bytes}
use Rattle.datainfo.specs.Datainfo.{Datainfo}
use Rattle.fit.specs.Fit.{verdict, is_fit}
use Rattle.table.specs.Table.{Parameter}
use Rattle.table.specs.Layout.{table_of}
use Rattle.table.specs.Search.{Placed}
use Rattle.message.specs.Reply.{valued}
use Rattle.message.specs.Clauses.Said.{report_of}
use Rattle.outbox.specs.Outbox.{Record}
use Rattle.plain.specs.Node.{client_numbers, updates_to}
use Rattle.plain.specs.Answer.{status_of}
use Rattle.state.specs.declared.Clients.{Clients}
use Rattle.state.specs.View.{client_at, with_stored}

-- numbers of a parameter and a module that a table may have
abbrev pub StatusLow : Option (ℕ × ℕ) → Type 0
StatusLow None = Unit {0}
StatusLow (Some (k, h)) = (k < 64) × (h < 16)

-- r is the status of number k, of module h, if the datainfo that o reads admits the text v; asked only where o can be read
pub record Admits (o : Option (Datainfo × List ℕ)) (v : List ℕ) (k h : ℕ) (r : Option (ℕ × ℕ)) : Type 0 where
  pub is : {d : Datainfo} {x : List ℕ} → o ≡ Some (d, x) → r ≡ cond (is_fit (verdict d v)) (Some (k, h)) None

-- r stands for the status that the plain node finds, or for none
abbrev pub StatusIs : Option (ℕ × ℕ) → Option (ℕ × Placed Parameter) → Type 0
StatusIs None o = o ≡ None
StatusIs (Some (k, h)) o = (x : Placed Parameter) × ((o ≡ Some (k, x)) × (x.home ≡ h))

-- r stands for what a change of the parameter a of the module m sets first
pub record FindsStatus (table m a : List ℕ) (r : Option (ℕ × ℕ)) : Type 0 where
  pub low : StatusLow r
  pub is : (p : Placed Parameter) → p.module_name ≡ m → p.it.name ≡ a → StatusIs r (status_of (table_of table) p)

-- the values area with the text v in the status's place
abbrev pub with_status : List ℕ → Option (ℕ × ℕ) → List ℕ → List ℕ
with_status values None v = values
with_status values (Some (k, h)) v = with_stored values k v

-- the updates of the status of the module m, set to the text v at the time t
abbrev pub status_updates : Clients → Option (ℕ × ℕ) → List ℕ → List ℕ → ℕ → List Record
status_updates s None m v t = []
status_updates s (Some (k, h)) m v t = updates_to (client_at s) h (report_of m (bytes "status") (valued v) t) client_numbers
