-- A single call that kept its promise goes as the plain node does. Assumes nothing.
use Rattle.std.specs.Prelude.{Some}
use Prim.Native.Nat.{ℕ, zero, suc, ◌≤◌}
use native.Mathlib.Omega.{arith}
use native.Mathlib.Nat.{add-zero}
use mathlib.Core.Bool.{false, cond}
use mathlib.Core.List.{List, [], ◌∷◌, ◌++◌, append-nil}
use mathlib.Core.Logic.{◌≢◌}
use mathlib.Core.Path.{◌≡◌, refl, sym, ap, ◌∙◌}
use lib.Dec.{eqb}
use lib.ListN.{length, take}
use lib.Seq.{length-sets}
use Rattle.ascii.specs.Bytes.{head, count}
use Rattle.table.specs.Layout.{table_of}
use Rattle.report.specs.Judge.{table_number}
use Rattle.outbox.specs.Outbox.{Record, encode_all}
use Rattle.message.specs.Reply.{Held, valued, failed}
use Rattle.plain.specs.Node.{Node, Setting}
use Rattle.plain.specs.Calls.{Call, Answer, Effect, effect, call_steps, settle, step_if, call_number}
use Rattle.plain.specs.History.{Heard, heard, step, sent}
use Rattle.state.specs.declared.State.{State}
use Rattle.state.specs.View.{view, place_of, with_stored, with_held, area_with, written}
use Rattle.state.specs.Fit.{is_unfit}
use Rattle.sound.specs.Theorems.{Sound}
use Rattle.promise.specs.declared.Done.{Done}
use Rattle.promise.specs.Promise.{Kept, step_from}
use Rattle.promise.specs.Run as Run
use Rattle.promise.specs.Run.{kit, hears, Called}
use Rattle.history.proofs.Steps.{plainly}
use Rattle.trace.specs.Trace.{Entry}
use Rattle.replay.specs.Replay.{call_of, call_for, is_piece, rest, first, both}
use Rattle.replay.specs.Settings.{set_by, set_by_all}
use Rattle.replay.specs.Promise.{Single, by_open, by_close, by_piece, by_reading, by_unreadable}
use Rattle.replay.proofs.Singles.{kept_low}
use Rattle.replay.proofs.Plays.{finish_of, finish_call}

-- the state and the values area are fit, and stand for a sound node
pub record Fine (table : List ℕ) (s : State) (values : List ℕ) : Type 0 where
  pub fit : is_unfit (table_of table) s values ≡ false
  pub sound : table_number table ≡ 0 → Sound (table_of table) (view table s values)

held_length : (values : List ℕ) (p : ℕ) (h : Held) → length (with_held values p h) ≡ length values
unfolding with_held with_stored
held_length values p (valued v) = length-sets values (place_of p) v
held_length values p (failed f) = refl

pub area_length : (values : List ℕ) (xs : List Setting) → length (area_with values xs) ≡ length values
unfolding area_with
area_length values [] = refl
area_length values (x ∷ xs) = area_length (with_held values x.parameter x.held) xs ∙ held_length values x.parameter x.held

settled_silent : (n : Node) (k : ℕ) (x : Effect) (i : ℕ) → x.records ≡ [] → (settle k n x i).1.records ≡ []
unfolding settle
settled_silent n zero x i e = e
settled_silent n (suc k) x i e = refl

-- How a record e was played once: by the calls that were answered so, what is left after them
pub record Went (table : List ℕ) (s : State) (values : List ℕ) (room : ℕ) (e : Entry) (d : Done) (values' outbox' : List ℕ) : Type 0 where
  pub calls : List Call
  pub answers : List Answer
  pub plays : finish_of table (length values) room (view table s values) (Some e)
      ≡ both (record { calls = calls; answers = answers; node = view table d.state values' }) λ m. finish_of table (length values) room m
      (rest e d.number d.used)
  pub sends : encode_all (sent answers) ≡ take d.written outbox'
  pub counts : (k : ℕ) → k ≢ 0 → count (λ a. eqb a.number k) answers ≡ cond (eqb d.number k) 1 0
  -- what the call set, as it was made
  pub settings : (k : ℕ) (h : List Call) (l : List Answer) → set_by_all (table_of table) k (calls ++ h) (answers ++ l)
      ≡ set_by (table_of table) k (call_for (length values) room e).event (step_from table s values (call_for (length values) room e)).1
      ++ set_by_all (table_of table) k h l
  pub low : d.number ≤ 18
  pub fine : Fine table d.state values'
  pub area : length values' ≡ length values

module _ (table : List ℕ) (s : State) (values : List ℕ) (f : Fine table s values) where
  -- a call that was heard so
  went : (room : ℕ) (e : Entry) (d : Done) (values' outbox' : List ℕ) (a : Heard)
      → Called table (kit s values) (call_for (length values) room e) (kit d.state values') a
      → d.number ≡ a.number → d.used ≡ a.used → a.written ≡ take d.written outbox' → d.number ≤ 18 → length values' ≡ length values
      → Went table s values room e d values' outbox'
  unfolding sent count heard both first
  went room e d values' outbox' a x number used written low area =
      let c = call_for (length values) room e in
      let p = plainly table s values f.fit f.sound c (kit d.state values') a x in
      let y = step table (view table s values) c in
      let number' : d.number ≡ y.1.number = number ∙ ap (λ (h : Heard). h.number) p.heard_as in
      let used' : d.used ≡ y.1.used = used ∙ ap (λ (h : Heard). h.used) p.heard_as in
      record {
        calls = c ∷ [];
        answers = y.1 ∷ [];
        plays = rw (p.node, number', used') (finish_call table (length values) room (view table s values) e);
        sends = ap encode_all (append-nil y.1.records) ∙ sym (ap (λ (h : Heard). h.written) p.heard_as) ∙ written;
        counts = λ k n. rw number' (add-zero (cond (eqb y.1.number k) 1 0));
        settings = λ k h l. rw f.fit (unfold set_by_all step in refl);
        low = low;
        fine = record { fit = p.fit; sound = p.sound };
        area = area;
      }

  -- an open or a close writes nothing
  silent : (e : Call) (values : List ℕ) (outbox : List ℕ) (d : Done) (values' outbox' : List ℕ) → Kept table e s values outbox d values' outbox'
      → (effect (table_of table) (view table s values) e.event).records ≡ [] → d.written ≡ 0
  unfolding written step_if
  silent e values outbox d values' outbox' k q =
      let n = view table s values in
      let None = settled_silent n (call_number table (is_unfit (table_of table) s values) n e) (effect (table_of table) n e.event) (call_steps (table_of table) n e) q in
      k.writes ∙ ap (λ (rs : List Record). length (encode_all rs)) None
      ∙ unfold encode_all in refl

  unheard : (d : Done) (outbox : List ℕ) → d.written ≡ 0 → take d.written [] ≡ take d.written outbox
  unheard d outbox e = rw e

  low_number : {e : Call} {outbox : List ℕ} {d : Done} {values' outbox' : List ℕ} → Kept table e s values outbox d values' outbox' → d.number ≤ 18
  low_number k = let l = kept_low k in omega arith

  kept_area : {e : Call} {outbox : List ℕ} {d : Done} {values' outbox' : List ℕ} → Kept table e s values outbox d values' outbox' → length values' ≡ length
      values
  kept_area k = ap length k.area ∙ area_length values _

  pub single_went : (outbox : List ℕ) (e : Entry) (d : Done) (values' outbox' : List ℕ) → Single table s values outbox e d values' outbox'
      → Went table s values (length outbox) e d values' outbox'
  unfolding call_of rest is_piece both effect
  single_went outbox e _ _ _ (by_open c t bs d k) =
      went (length outbox) e d values outbox (hears d []) (Run.by_open s values [] c t d k) refl refl
      (unheard d outbox (silent _ values [] d values [] k refl)) (low_number k) refl
  single_went outbox e _ _ _ (by_close c t bs d k) =
      went (length outbox) e d values outbox (hears d []) (Run.by_close s values [] c t d k) refl refl
      (unheard d outbox (silent _ values [] d values [] k refl)) (low_number k) refl
  single_went outbox e _ _ _ (by_piece c t bs d values' outbox' k) =
      went (length outbox) e d values' outbox' (hears d outbox') (Run.by_piece s values outbox [] c bs t d values' outbox' k) refl refl refl
      (low_number k) (kept_area k)
  single_went outbox e _ _ _ (by_reading p t bs d values' outbox' k) =
      went (length outbox) e d values' outbox' (hears d outbox') (Run.by_reading s values outbox [] p bs t d values' outbox' k) refl refl refl
      (low_number k) (kept_area k)
  single_went outbox e _ _ _ (by_unreadable p t bs d outbox' k) =
      went (length outbox) e d values outbox' (hears d outbox') (Run.by_unreadable s values outbox [] p (head bs) t d outbox' k) refl refl refl
      (low_number k) refl
