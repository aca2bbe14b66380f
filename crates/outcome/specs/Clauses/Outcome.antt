-- What the code's outcome of a request stands for: the plain node's, with what was written and what was stored. Assumes nothing.
use Rattle.std.specs.Prelude.{ℕ, true, false, List, [], ◌∷◌, ◌++◌, ◌≡◌, length, Option, Some, None, slice_get}
use Rattle.ascii.specs.Clauses.Writer.{Puts}
use Rattle.fit.specs.Fit.{is_stored}
use Rattle.table.specs.Table.{Parameter, Command, Table}
use Rattle.table.specs.Layout.{table_of}
use Rattle.table.specs.Search.{Placed, parameters, find_parameter, find_command}
use Rattle.message.specs.Error.{class, fault}
use Rattle.message.specs.Clauses.Said.{class_of, fault_as}
use Rattle.message.specs.Reply.{valued, Reply}
use Rattle.outbox.specs.Outbox.{Record, final, encode_all}
use Rattle.plain.specs.Node.{Node, with_client, Setting, with_settings, activated}
use Rattle.plain.specs.Answer as Plain
use Rattle.plain.specs.Answer.{denied, carried, busy, outcome}
use Rattle.message.specs.Request.{Request}
use Rattle.state.specs.declared.Bare.{Bare}
use Rattle.state.specs.declared.State.{State}
use Rattle.state.specs.View.{bit, view, area_with, settings_with}
use Rattle.state.specs.Fit.{is_unfit, past_last}
use Rattle.state.specs.Clauses.Bare.{unlined, brief_masks}
use Rattle.outcome.specs.declared.Outcome.{Outcome}
use Rattle.outcome.specs.declared.Outcome.TheVariants.{Denied, Unreadable, Sent, Active, Stored}
use Rattle.outcome.specs.declared.Answered.{Answered}

-- what is set of a status at a time, and then of the parameter of number p
abbrev pub status_settings : Option (ℕ × ℕ) → ℕ → List Setting
status_settings None t = []
status_settings (Some (k, h)) t = record { parameter = k; held = valued busy; time = t } ∷ []

abbrev pub stored_by : Option (ℕ × ℕ) → ℕ → List ℕ → ℕ → List Setting
stored_by first p text t = status_settings first t ++ (record { parameter = p; held = valued text; time = t } ∷ [])

-- the parameter of number p is there, and a text is in stored form and fits it
pub record Holds (w : Table) (p : ℕ) (text : List ℕ) : Type 0 where
  pub parameter : Placed Parameter
  pub there : slice_get (parameters w) p ≡ Some parameter
  pub fits : is_stored parameter.it.datainfo text ≡ true

abbrev pub StatusHolds : Table → Option (ℕ × ℕ) → Type 0
StatusHolds w None = Unit {0}
StatusHolds w (Some (k, h)) = Holds w k busy

-- On the table w, at the plain node n, for client c at the time t: the outbox held `before` and holds `after`, the values area held `values` and
-- holds `stored`.
module _ (w : Table) (n : Node) (c t : ℕ) (before after values stored : List ℕ) where
  -- the request o is carried out: the node becomes `next`, so many bytes are written, and this is set
  pub record Carries (o : Plain.Outcome) (next : Node) (written : ℕ) (set : List Setting) : Type 0 where
    pub records : List Record
    pub reply : Reply
    pub is : o ≡ carried next set records reply
    pub puts : Puts before 0 (encode_all (records ++ (final c reply ∷ []))) after written

  -- the request o is denied, and nothing is altered
  pub record IsDenied (o : Plain.Outcome) (e : Plain.Outcome) : Type 0 where
    pub is : o ≡ e
    pub quiet : after ≡ before
    pub area : stored ≡ values

  -- the request o is answered, and alters nothing
  pub record Sends (o : Plain.Outcome) (written : ℕ) : Type 0 where
    pub carries : Carries o n written []
    pub unstored : stored ≡ values

  -- client c's active modules become those of a mask, of which none is past the last
  pub record Activates (o : Plain.Outcome) (mask written : ℕ) : Type 0 where
    pub carries : Carries o (with_client n c (activated (bit mask) (n.clients c))) written []
    pub unstored : stored ≡ values
    pub low : past_last mask (length w.modules) ≡ false

  -- after a status the parameter of number p has a value of so many bytes that fits it
  pub record Stores (o : Plain.Outcome) (first : Option (ℕ × ℕ)) (p size written : ℕ) : Type 0 where
    pub text : List ℕ
    pub status : StatusHolds w first
    pub holds : Holds w p text
    pub long : size ≡ length text
    pub carries : Carries o (with_settings n (stored_by first p text t)) written (stored_by first p text t)
    pub area : stored ≡ area_with values (stored_by first p text t)

  -- the code's outcome r stands for the plain node's outcome o. Two may stand for one: what alters nothing may be told with the mask that is there
  -- already
  abbrev pub OutcomeIs : Outcome → Plain.Outcome → Type 0
  OutcomeIs (Denied e) o = IsDenied o (denied (class (class_of e)))
  OutcomeIs (Unreadable f since) o = IsDenied o (denied (fault (fault_as f) since))
  OutcomeIs (Sent written) o = Sends o written
  OutcomeIs (Active mask written) o = Activates o mask written
  OutcomeIs (Stored first p size written) o = Stores o first p size written

-- On the table's bytes, handed the state s, the values area and the outbox, the code's outcome r stands for what f makes of table, node, client c
-- and time t.
abbrev pub ComesTo : List ℕ → State → List ℕ → List ℕ → ℕ → ℕ → Outcome → List ℕ → List ℕ → (Table → Node → ℕ → ℕ → Plain.Outcome) → Type 0
ComesTo table s values before c t r stored after f =
    OutcomeIs (table_of table) (view table s values) c t before after values stored r (f (table_of table) (view table s values) c t)

-- what the plain node makes of a request
abbrev pub Comes : List ℕ → State → List ℕ → List ℕ → ℕ → ℕ → Outcome → List ℕ → List ℕ → Request → Type 0
Comes table s values before c t r stored after q = ComesTo table s values before c t r stored after (λ w n c t. outcome w n c t q)

-- the same of a request that neither looks at the values area nor alters it, at any node
abbrev pub ComesAtAny : List ℕ → List ℕ → ℕ → ℕ → Outcome → List ℕ → Request → Type 0
ComesAtAny table before c t r after q = (n : Node) (values : List ℕ)
    → OutcomeIs (table_of table) n c t before after values values r (outcome (table_of table) n c t q)

-- what f makes of the parameter a of the module m
abbrev pub OfParameter : List ℕ → State → List ℕ → List ℕ → ℕ → ℕ → Outcome → List ℕ → List ℕ → List ℕ → List ℕ
    → (Table → Node → ℕ → ℕ → ℕ × Placed Parameter → Plain.Outcome) → Type 0
OfParameter table s values before c t r stored after m a f = (x : ℕ × Placed Parameter) → find_parameter (table_of table) m a ≡ Some x
    → ComesTo table s values before c t r stored after (λ w n c t. f w n c t x)

-- what f makes of the command a of the module m, at any node
abbrev pub OfCommand : List ℕ → List ℕ → ℕ → ℕ → Outcome → List ℕ → List ℕ → List ℕ
    → (Table → Node → ℕ → ℕ → ℕ × Placed Command → Plain.Outcome) → Type 0
OfCommand table before c t r after m a f = (n : Node) (values : List ℕ) (x : ℕ × Placed Command) → find_command (table_of table) m a ≡ Some x
    → OutcomeIs (table_of table) n c t before after values values r (f (table_of table) n c t x)

-- A line is answered as the plain node has it, o, which sets ss: on the table's bytes, from the state without its lines, the values area and the outbox
-- as they were.
pub record Answers (table : List ℕ) (s : Bare) (values before : List ℕ) (r : Answered) (stored after : List ℕ) (o : Node × List Record)
    (ss : List Setting) : Type 0 where
  pub node : view table (unlined r.state) stored ≡ o.0
  pub fit : is_unfit (table_of table) (unlined r.state) stored ≡ false
  pub puts : Puts before 0 (encode_all o.1) after r.written
  pub area : stored ≡ area_with values ss
  pub settings : r.state.settings ≡ settings_with s.settings ss
  -- of the clients only masks change
  pub clients : r.state.clients ≡ brief_masks s.clients r.state.clients.active
