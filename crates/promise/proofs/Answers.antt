-- What is answered keeps the promise: a refusal, and an accepted call. Assumes nothing.
use Prim.Native.Nat.{ℕ, zero, suc, ◌≤◌}
use native.Mathlib.Omega.{arith}
use mathlib.Core.Bool.{Bool}
use mathlib.Core.List.{List, []}
use mathlib.Core.Logic.{◌≢◌}
use mathlib.Core.Path.{◌≡◌, refl, sym, ap, subst, ◌∙◌}
use Rattle.table.specs.Layout.{table_of}
use Rattle.outbox.specs.Outbox.{encode_all}
use Rattle.plain.specs.Node.{Node}
use Rattle.plain.specs.Calls.{Call, Answer, Effect, call_number, effect, call_steps, settle, step_if, settled, settings_if, answer_of, refusal_of}
use Rattle.plain.specs.History.{step}
use Rattle.plain.proofs.Numbers.{accepted_call}
use Rattle.sound.proofs.Histories.{calls_keep_sound}
use Rattle.state.specs.declared.State.{State}
use Rattle.state.specs.View.{view, area_with, settings_with, outbox_after, written}
use Rattle.state.specs.Fit.{is_unfit}
use Rattle.state.proofs.Becomes.{Sized}
use Rattle.state.proofs.Stands.{fit_is_sound}
use Rattle.promise.specs.declared.Done.{Done}
use Rattle.promise.specs.Promise.{step_from, settings_from, Kept}
use Rattle.promise.specs.Clauses.Leaves.{LeavesIn}
use Rattle.promise.specs.Clauses.Answer.{quiet_done}

nothing_written : ◌≡◌ {A = ℕ} 0 (written [])
unfolding written encode_all
nothing_written = refl

nothing_sent : (outbox : List ℕ) → outbox ≡ outbox_after outbox []
unfolding outbox_after encode_all
nothing_sent outbox = refl

module _ (table : List ℕ) (s : State) (values : List ℕ) (e : Call) where
  abbrev number : ℕ
  number = call_number table (is_unfit (table_of table) s values) (view table s values) e

  abbrev does : Effect
  does = effect (table_of table) (view table s values) e.event

  abbrev in_steps : ℕ
  in_steps = call_steps (table_of table) (view table s values) e

  refused_step : (k : ℕ) → number ≡ k → k ≢ 0 → step_from table s values e ≡ (view table s values, refusal_of k)
  unfolding step_if settle
  refused_step zero h z = absurd (z refl)
  refused_step (suc k) h z = rw h refl

  accepted_step : number ≡ 0 → step_from table s values e ≡ (does.next, answer_of does in_steps)
  unfolding step_if settle
  accepted_step h = rw h refl

  refused_sets : (k : ℕ) → number ≡ k → k ≢ 0 → [] ≡ settings_from table s values e
  unfolding settings_if settled
  refused_sets zero h z = absurd (z refl)
  refused_sets (suc k) h z = rw h refl

  accepted_sets : number ≡ 0 → does.settings ≡ settings_from table s values e
  unfolding settings_if settled
  accepted_sets h = rw h refl

  pub refuses : (outbox : List ℕ) (k : ℕ) → number ≡ k → k ≢ 0
      → Kept table e s values outbox (quiet_done k s) values outbox
  refuses outbox k h z =
      let q = refused_step k h z in
      record {
        number = ap (λ (x : Node × Answer). x.1.number) (sym q);
        used = ap (λ (x : Node × Answer). x.1.used) (sym q);
        writes = nothing_written ∙ ap (λ (x : Node × Answer). written x.1.records) (sym q);
        steps = ap (λ (x : Node × Answer). x.1.steps) (sym q);
        sends = nothing_sent outbox ∙ ap (λ (x : Node × Answer). outbox_after outbox x.1.records) (sym q);
        short = omega arith;
        area = unfold area_with in ap (area_with values) (refused_sets k h z);
        settings = unfold settings_with in ap (settings_with s.settings) (refused_sets k h z);
        node = ap (λ (x : Node × Answer). x.0) (sym q);
        fit = λ y. absurd (z y);
        clients = λ y. absurd (z y);
        refused = λ y. refl;
      }

  -- "No accepted call writes more than 32,019 bytes."
  pub short_written : Sized s.clients → number ≡ 0 → written does.records ≤ 32019
  unfolding step written
  short_written z h =
      let f = ((accepted_call table (is_unfit (table_of table) s values) e (view table s values)).0 h).0 in
      let k = calls_keep_sound table f.accepted (view table s values) (fit_is_sound table s values z f.accepted f.fit) e in
      let q : step table (view table s values) e ≡ (does.next, answer_of does in_steps) =
      ap (λ (b : Bool). step_if table b (view table s values) e) (sym f.fit) ∙ accepted_step h in
      subst (λ (x : Node × Answer). written x.1.records ≤ 32019) q k.short

  pub accepts : (outbox : List ℕ) (r : Done) (values' outbox' : List ℕ) → number ≡ 0 → r.written ≤ 32019
      → LeavesIn table s values e.event e.lent.index outbox r values' outbox' → Kept table e s values outbox r values' outbox'
  accepts outbox r values' outbox' h short left =
      let q = sym (accepted_step h) in
      let l = left.leaves in
      record {
        number = l.number ∙ ap (λ (x : Node × Answer). x.1.number) q;
        used = l.used ∙ ap (λ (x : Node × Answer). x.1.used) q;
        writes = l.writes ∙ ap (λ (x : Node × Answer). written x.1.records) q;
        steps = left.steps ∙ ap (λ (x : Node × Answer). x.1.steps) q;
        sends = l.sends ∙ ap (λ (x : Node × Answer). outbox_after outbox x.1.records) q;
        short = short;
        area = l.area ∙ ap (area_with values) (accepted_sets h);
        settings = l.settings ∙ ap (settings_with s.settings) (accepted_sets h);
        node = l.node ∙ ap (λ (x : Node × Answer). x.0) q;
        fit = λ y. l.fit;
        clients = λ y. l.clients;
        refused = λ y. absurd (y l.number);
      }
