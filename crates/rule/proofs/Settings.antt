-- What a call sets is all that alters a value. Assumes nothing.
use Rattle.std.specs.Prelude.{Option, Some, None, slice_get}
use Prim.Native.Nat.{ℕ, zero, suc}
use mathlib.Core.Bool.{Bool, true, false}
use mathlib.Core.List.{List}
use mathlib.Core.Path.{◌≡◌, refl}
use Rattle.table.specs.Table.{Parameter, Table}
use Rattle.table.specs.Layout.{table_of}
use Rattle.table.specs.Search.{Placed, parameters}
use Rattle.message.specs.Line.{Parts}
use Rattle.message.specs.Request.{Request, request}
use Rattle.message.specs.Error.{Fault, fault_of}
use Rattle.plain.specs.Node.{Node, set_values}
use Rattle.plain.specs.Answer.{Outcome, denied, carried, settings_of, activates, deactivates, sets, outcome, conclude, answer_parts, parts_set, answer, answer_sets}
use Rattle.plain.specs.Calls.{Event, Open, Close, Piece, Reading, Unreadable, ended, ended_sets, driver_effect, reading_effect, unreadable_effect, piece_effect, effect, call_number, settle, settling, step_if, settled, settings_if}
use Rattle.plain.specs.History.{step}
use Rattle.plain.proofs.Outcomes.{node_after, outcome_holds}
use Rattle.rule.specs.Theorems.{SettingsAreAll}

-- of a request, from the node n on
abbrev All : Node → Outcome → Type 0
All n o = (node_after n o).values ≡ set_values n.values (settings_of o)

outcome_all : (w : Table) (n : Node) (c now : ℕ) (q : Request) → All n (outcome w n c now q)
unfolding settings_of activates deactivates sets
outcome_all w n c now =
    outcome_holds (λ q o. All n o) w n c now
    (record {
      bad = λ q x. refl;
      failing = λ k f t h e. refl;
      telling = λ q f h. refl;
      activating = λ m f h. refl;
      deactivating = λ m f h. refl;
      setting = λ k v h. refl;
      doing = λ k v h. refl;
    })

parts_all : (w : Table) (n : Node) (c now : ℕ) (p : Parts) → (answer_parts w n c now p).0.values ≡ set_values n.values (parts_set w n c now p)
unfolding answer_parts parts_set conclude settings_of
parts_all w n c now p = go (outcome w n c now (request p)) (outcome_all w n c now (request p))
  where
    go : (o : Outcome) → All n o → (conclude w n c now p o).0.values ≡ set_values n.values (settings_of o)
    go (denied e) h = refl
    go (carried m ss rs r) h = h

ended_all : (w : Table) (n : Node) (c t : ℕ) (b : Bool) → (ended w n c t b).0.values ≡ set_values n.values (ended_sets w n c t b)
unfolding ended ended_sets answer answer_sets
ended_all w n c t false = refl
ended_all w n c t true = parts_all w _ c t _

reading_all : (n : Node) (k : ℕ) (o : Option (Placed Parameter)) (bs : List ℕ) (t : ℕ)
    → (reading_effect n k o bs t).next.values ≡ set_values n.values (reading_effect n k o bs t).settings
unfolding reading_effect driver_effect
reading_all n k None bs t = refl
reading_all n k (Some p) bs t = refl

unreadable_all : (n : Node) (k : ℕ) (o : Option (Placed Parameter)) (x : Option Fault) (t : ℕ)
    → (unreadable_effect n k o x t).next.values ≡ set_values n.values (unreadable_effect n k o x t).settings
unfolding unreadable_effect driver_effect
unreadable_all n k None x t = refl
unreadable_all n k (Some p) None t = refl
unreadable_all n k (Some p) (Some f) t = refl

effect_all : (w : Table) (n : Node) (e : Event) → (effect w n e).next.values ≡ set_values n.values (effect w n e).settings
unfolding effect piece_effect
effect_all w n (Open c t) = refl
effect_all w n (Close c t) = refl
effect_all w n (Piece c bs t) = ended_all w _ c t _
effect_all w n (Reading p bs t) = reading_all n p (slice_get (parameters w) p) bs t
effect_all w n (Unreadable p k t) = unreadable_all n p (slice_get (parameters w) p) (fault_of k) t

pub settings_are_all : SettingsAreAll
unfolding step step_if settle settings_if settled
settings_are_all table n e = go (call_number table false n e)
  where
    go : (j : ℕ) → (settling table n e j).0.values ≡ set_values n.values (settled j (effect (table_of table) n e.event))
    go zero = effect_all (table_of table) n e.event
    go (suc j) = refl
