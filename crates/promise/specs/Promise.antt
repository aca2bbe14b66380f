-- What a start and the calls of a single event promise, for all inputs and all refusals, by the plain node's own step. Assumes nothing.
use Rattle.std.specs.Prelude.{ℕ, ◌≤◌, false, cond, List, ◌≢◌, ◌≡◌, eqb, length, replicate}
use Rattle.counter.specs.Counts.{no_counts}
use Rattle.table.specs.Layout.{table_of}
use Rattle.plain.specs.Node.{Node, Setting}
use Rattle.plain.specs.Calls.{Call, Answer, start_number, started, step_if, settings_if}
use Rattle.state.specs.declared.State.{State}
use Rattle.state.specs.View.{view, area_with, settings_with, outbox_after, written}
use Rattle.state.specs.Fit.{is_unfit}
use Rattle.state.specs.Places.{with_masks, places_after}
use Rattle.promise.specs.declared.Done.{Done}

-- ## After a start

-- the plain node's step, from the node that a state stands for; whether the state is unfit is judged
abbrev pub step_from : List ℕ → State → List ℕ → Call → Node × Answer
step_from table s values e = step_if table (is_unfit (table_of table) s values) (view table s values) e

-- what that step sets
abbrev pub settings_from : List ℕ → State → List ℕ → Call → List Setting
settings_from table s values e = settings_if table (is_unfit (table_of table) s values) (view table s values) e

-- What the call e promises: handed the state s, the values area and the outbox, it answers r, and leaves values' and outbox'. Nothing of the next state
-- is left free: the clients' masks and counts follow from the node that it stands for, and from its being fit.
pub record Kept (table : List ℕ) (e : Call) (s : State) (values outbox : List ℕ) (r : Done) (values' outbox' : List ℕ) : Type 0 where
  pub number : r.number ≡ (step_from table s values e).1.number
  pub used : r.used ≡ (step_from table s values e).1.used
  pub writes : r.written ≡ written (step_from table s values e).1.records
  pub steps : r.steps ≡ (step_from table s values e).1.steps
  pub sends : outbox' ≡ outbox_after outbox (step_from table s values e).1.records
  -- "No accepted call writes more than 32,019 bytes."
  pub short : r.written ≤ 32019
  pub area : values' ≡ area_with values (settings_from table s values e)
  pub settings : r.state.settings ≡ settings_with s.settings (settings_from table s values e)
  pub node : view table r.state values' ≡ (step_from table s values e).0
  pub fit : r.number ≡ 0 → is_unfit (table_of table) r.state values' ≡ false
  pub clients : r.number ≡ 0 → r.state.clients ≡ with_masks (places_after s.clients e.event) r.state.clients.active
  pub refused : r.number ≢ 0 → r.state ≡ s

-- ## A start

-- a state with no client open, no value set and no error, with the same time for every parameter, and all counts 0 [C-3, C-12]
unfoldable pub blank : ℕ → State
blank time =
    record {
      clients =
          record {
            «open» = replicate 8 0;
            overlong = replicate 8 0;
            active = replicate 8 0;
            length = replicate 8 0;
            lines = replicate 8192 0;
          };
      settings = record { length = replicate 64 0; error = replicate 64 0; time = replicate 64 time };
      counts = replicate 8 no_counts;
    }

-- What a start promises; it writes nothing. "A refused start returns ..": a blank state with time 0. [C-3, C-12, H-3]
pub record Begins (table values : List ℕ) (time : ℕ) (r : Done) : Type 0 where
  pub number : r.number ≡ start_number table (length values) time
  pub used : r.used ≡ 0
  pub writes : r.written ≡ 0
  pub steps : r.steps ≡ 0
  pub state : r.state ≡ blank (cond (eqb r.number 0) time 0)
  -- with any values area, since nothing is stored yet
  pub node : (own : List ℕ) → view table r.state own ≡ started table (length values) time
  pub fit : r.number ≡ 0 → (own : List ℕ) → is_unfit (table_of table) r.state own ≡ false
