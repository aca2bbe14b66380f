-- What the code of an accepted call leaves. Assumes nothing.
use Rattle.std.specs.Prelude.{ℕ, false, List, ◌≡◌}
use Rattle.ascii.specs.Clauses.Writer.{Puts}
use Rattle.table.specs.Layout.{table_of}
use Rattle.outbox.specs.Outbox.{Record, encode_all}
use Rattle.plain.specs.Node.{Node, Setting, with_client, receive}
use Rattle.plain.specs.Calls.{Event, Effect, effect, event_steps}
use Rattle.state.specs.declared.State.{State}
use Rattle.state.specs.View.{view, area_with, settings_with, outbox_after, written}
use Rattle.state.specs.Fit.{is_unfit}
use Rattle.state.specs.Places.{with_masks, places_after}
use Rattle.state.specs.Clauses.Bare.{lined, brief_of, brief_ended, brief_masks}
use Rattle.outcome.specs.declared.Answered.{Answered}
use Rattle.promise.specs.declared.Done.{Done}

-- the node that a state stands for, once client c's bytes bs came in
abbrev pub held_node : List ℕ → State → List ℕ → ℕ → List ℕ → Node
held_node table s values c bs = with_client (view table s values) c (receive ((view table s values).clients c) bs)

-- the plain node's effect, from the node that a state stands for
abbrev pub effect_from : List ℕ → State → List ℕ → Event → Effect
effect_from table s values e = effect (table_of table) (view table s values) e

-- handed the state s, the values area and the outbox, an accepted event e answers r and leaves values' and outbox'
pub record Leaves (table : List ℕ) (s : State) (values : List ℕ) (e : Event) (outbox : List ℕ) (r : Done) (values' outbox' : List ℕ) : Type 0 where
  pub number : r.number ≡ 0
  pub used : r.used ≡ (effect_from table s values e).used
  pub writes : r.written ≡ written (effect_from table s values e).records
  pub sends : outbox' ≡ outbox_after outbox (effect_from table s values e).records
  pub area : values' ≡ area_with values (effect_from table s values e).settings
  pub settings : r.state.settings ≡ settings_with s.settings (effect_from table s values e).settings
  pub node : view table r.state values' ≡ (effect_from table s values e).next
  pub fit : is_unfit (table_of table) r.state values' ≡ false
  -- the masks follow from the node, and from the state's being fit
  pub clients : r.state.clients ≡ with_masks (places_after s.clients e) r.state.clients.active

-- the same, lent an index: with the steps of the definition
pub record LeavesIn (table : List ℕ) (s : State) (values : List ℕ) (e : Event) (index outbox : List ℕ) (r : Done) (values' outbox' : List ℕ) : Type 0 where
  pub leaves : Leaves table s values e outbox r values' outbox'
  pub steps : r.steps ≡ event_steps (table_of table) index (view table s values) e

-- Handed the state s, the values area and the outbox, client c's line is ended and answered with the plain node's next node and records o, which sets ss.
-- What is answered has no lines: they stay.
pub record AnswersEnded (table : List ℕ) (s : State) (values before : List ℕ) (c : ℕ) (r : Answered) (stored after : List ℕ) (o : Node × List Record)
    (ss : List Setting) : Type 0 where
  pub node : view table (lined r.state s.clients.lines) stored ≡ o.0
  pub fit : is_unfit (table_of table) (lined r.state s.clients.lines) stored ≡ false
  pub puts : Puts before 0 (encode_all o.1) after r.written
  pub area : stored ≡ area_with values ss
  pub settings : r.state.settings ≡ settings_with s.settings ss
  pub clients : r.state.clients ≡ brief_masks (brief_ended (brief_of s.clients) c) r.state.clients.active
