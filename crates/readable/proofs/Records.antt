-- Every report that the plain node sends is read: by the kinds of outcome that a line may have, and by what a driver may tell. Assumes nothing.
use Rattle.std.specs.Prelude.{Option, Some, None, slice_get}
use Prim.Native.Nat.{ℕ, zero, suc, ◌+◌}
use native.Mathlib.Nat.{zero-add, add-zero}
use native.Mathlib.Omega.{arith}
use mathlib.Core.Bool.{Bool, true, false, cond, not}
use mathlib.Core.List.{List, [], ◌∷◌, ◌++◌}
use mathlib.Core.Path.{◌≡◌, refl, subst}
use borrow.Author.Tests.{not-false}
use Rattle.ascii.specs.Text.{bytes}
use Rattle.json_text.specs.Json.{null, compact}
use Rattle.json_text.proofs.ReadBack.{readable_trees}
use Rattle.fit.specs.Fit.{stored_form, is_fit}
use Rattle.form.proofs.Stored.{stored}
use Rattle.table.specs.Table.{Parameter, Table}
use Rattle.table.specs.Layout.{table_of}
use Rattle.table.specs.Search.{Placed, parameters}
use Rattle.report.specs.Judge.{first_fault, table_number}
use Rattle.report.proofs.Faults.{no_fault, first_fault_none}
use Rattle.message.specs.Line.{Parts, content, parts_of}
use Rattle.message.specs.Request.{Request, request}
use Rattle.message.specs.Error.{Fault, fault_of}
use Rattle.message.specs.Reply.{Held, valued, failed, DataReport, Reply, held_report}
use Rattle.outbox.specs.Outbox.{Record, final, update}
use Rattle.plain.specs.Node.{Client, Value, Node, is_active, line_of, line_taken, begin, holding, showing, report_of, client_numbers, updates_to, updates_of}
use Rattle.plain.specs.Answer.{Outcome, denied, carried, stored_at, busy, status_of, busy_updates, activates, deactivates, sets, outcome, conclude, answer_parts}
use Rattle.plain.specs.Answer.{answer}
use Rattle.plain.specs.Calls.{Event, Open, Close, Piece, Reading, Unreadable, Call, reading_verdict, own_faults, call_number, has_feed, ended}
use Rattle.plain.specs.Calls.{piece_effect, driver_effect, reading_effect, unreadable_effect, effect, settle, settling, step_if}
use Rattle.plain.specs.History.{step, answers, finish, sent}
use Rattle.plain.proofs.Numbers.{accepted_call}
use Rattle.plain.proofs.Outcomes.{Tells, by_identify, by_describe, by_ping, by_read, by_check, by_count, LetIn, outcome_holds}
use Rattle.plain.proofs.Busy.{status_is, busy_stored}
use Rattle.sound.specs.Theorems.{HeldFits, Sound}
use Rattle.sound.proofs.Lists.{each_at}
use Rattle.sound.proofs.Tabled.{ParameterIn}
use Rattle.sound.proofs.Accepted.{Accepted, accepted}
use Rattle.sound.proofs.Steps.{let_in_stored}
use Rattle.sound.proofs.Histories.{always_sound, calls_keep_sound}
use Rattle.readable.specs.Trees.{held_value}
use Rattle.readable.specs.Theorems.{ReportRead, ReplyRead, AllRead, RecordsAreRead}
use Rattle.readable.proofs.Structure.{structure_reports_are_read}
use Rattle.readable.proofs.Data.{start_accepted, data_reports_are_read}

-- ## Records

module _ (w : Table) where
  both_read : (rs ss : List Record) → AllRead w rs → AllRead w ss → AllRead w (rs ++ ss)
  both_read [] ss h k = k
  both_read (r ∷ rs) ss h k = (h.0, both_read rs ss h.1 k)

  one_read : (b : Bool) (c : ℕ) (r : DataReport) → ReportRead r → AllRead w (cond b (update c r ∷ []) [])
  one_read true c r h = (h, tt)
  one_read false c r h = tt

  to_read : (f : ℕ → Client) (i : ℕ) (r : DataReport) → ReportRead r → (cs : List ℕ) → AllRead w (updates_to f i r cs)
  unfolding updates_to
  to_read f i r h [] = tt
  to_read f i r h (c ∷ cs) =
      both_read (cond (is_active (f c) i) (update c r ∷ []) []) (updates_to f i r cs) (one_read (is_active (f c) i) c r h) (to_read f i r h cs)

  of_read : (c : ℕ) (wanted : ℕ → Bool) (values : ℕ → Value) (k : ℕ) (ps : List (Placed Parameter))
      → ((j : ℕ) (p : Placed Parameter) → slice_get ps j ≡ Some p → ReportRead (report_of p (values (k + j)))) → AllRead w (updates_of c wanted values k ps)
  unfolding updates_of
  of_read c wanted values k [] h = tt
  of_read c wanted values k (p ∷ ps) h =
      let r = report_of p (values k) in
      let here : ReportRead r = rw add-zero at (h 0 p refl) in
      both_read (cond (wanted p.home) (update c r ∷ []) []) (updates_of c wanted values (suc k) ps) (one_read (wanted p.home) c r here)
      (of_read c wanted values (suc k) ps λ j q e. subst (λ i. ReportRead (report_of q (values i))) (omega arith) (h (suc j) q e))

  -- what a request comes to; of an error the reply is for `concluded`
  abbrev OutcomeRead : Outcome → Type 0
  OutcomeRead (denied d) = Unit {0}
  OutcomeRead (carried m ss rs r) = AllRead w rs × ReplyRead w r

  concluded : (n : Node) (c t : ℕ) (p : Parts) (o : Outcome) → OutcomeRead o → AllRead w (conclude w n c t p o).1
  unfolding conclude
  concluded n c t p (denied d) h = (data_reports_are_read.of_errors d, tt)
  concluded n c t p (carried m ss rs r) h = both_read rs (final c r ∷ []) h.0 (h.1, tt)

null_held : (t : ℕ) → ReportRead (record { module_name = []; accessible = []; held = valued (bytes "null"); time = t })
unfolding held_report held_value compact
null_held t = rw (readable_trees.read_back null tt) (refl, data_reports_are_read.of_null t)

-- ## Lines and calls, on an accepted table

module _ (table : List ℕ) (z : table_number table ≡ 0) where
  abbrev w : Table
  w = table_of table

  a : Accepted w
  a = accepted table z

  in_table : (k : ℕ) (p : Placed Parameter) → slice_get (parameters w) k ≡ Some p → ParameterIn p.it
  in_table k p e = each_at (λ (q : Placed Parameter). ParameterIn q.it) (parameters w) a.parameters_in k p e

  report_read : (k : ℕ) (p : Placed Parameter) → slice_get (parameters w) k ≡ Some p → (x : Held) → HeldFits p.it x → (t : ℕ)
      → ReportRead (report_of p (holding x t))
  report_read k p e x f t = data_reports_are_read.of_held table z k p e x t f

  -- at a node whose values fit
  module _ (n : Node) (s : (k : ℕ) (p : Placed Parameter) → slice_get (parameters w) k ≡ Some p → HeldFits p.it (n.values k).held) (c t : ℕ) where
    told_read : (q : Request) (r : Reply) → Tells w n c t q r → ReplyRead w r
    told_read _ _ by_identify = tt
    told_read _ _ by_describe = structure_reports_are_read table z
    told_read _ _ by_ping = data_reports_are_read.of_null t
    told_read _ _ (by_read k e v u i) =
        report_read k.0 k.1 e (valued v) (subst (λ (x : Value). HeldFits k.1.it x.held) i (s k.0 k.1 e)) u
    told_read _ _ (by_check k v l e) =
        report_read k.0 k.1 l.there (valued (stored_at n.values k v)) (let_in_stored w a n.values k v l) t
    told_read _ _ by_count = data_reports_are_read.of_counts (n.counts c) _ t

    activated_read : (wanted : ℕ → Bool) (m : Option (List ℕ)) → OutcomeRead w (activates w n c t wanted m)
    unfolding activates
    activated_read wanted m = (
      of_read w c wanted n.values 0 (parameters w) λ j p q. rw zero-add (report_read j p q (n.values j).held (s j p q) (n.values j).time),
      tt,
    )

    busy_read : (p : Placed Parameter) (o : Option (ℕ × Placed Parameter)) → status_of w p ≡ o → AllRead w (busy_updates n.clients o t)
    unfolding busy_updates
    busy_read p None e = tt
    busy_read p (Some x) e =
        let i = status_is w p x e in
        let f = busy_stored x.1.it.datainfo (in_table x.0 x.1 i.there).names i.admits in
        to_read w n.clients x.1.home (report_of x.1 (showing busy t)) (report_read x.0 x.1 i.there (valued busy) f t) client_numbers

    set_read : (k : ℕ × Placed Parameter) (v : List ℕ) → LetIn w n.values k v → OutcomeRead w (sets w n c t k (stored_at n.values k v))
    unfolding sets
    set_read k v l =
        let r = report_read k.0 k.1 l.there (valued (stored_at n.values k v)) (let_in_stored w a n.values k v l) t in
        let first = busy_updates n.clients (status_of w k.1) t in
        let next = updates_to n.clients k.1.home (report_of k.1 (showing (stored_at n.values k v) t)) client_numbers in (
          (tt, both_read w first next (busy_read k.1 (status_of w k.1) refl) (to_read w n.clients k.1.home _ r client_numbers)),
          r,
        )

    outcome_read : (q : Request) → OutcomeRead w (outcome w n c t q)
    unfolding deactivates
    outcome_read =
        outcome_holds (λ q o. OutcomeRead w o) w n c t
        (record {
          bad = λ q x. tt;
          failing = λ k f u e i. tt;
          telling = λ q r u. (tt, told_read q r u);
          activating = λ m wanted u. activated_read wanted m;
          deactivating = λ m wanted u. (tt, tt);
          setting = λ k v u. set_read k v u;
          doing = λ k v u. ((tt, tt), null_held t);
        })

    parts_read : (p : Parts) → AllRead w (answer_parts w n c t p).1
    unfolding answer_parts
    parts_read p = concluded w n c t p (outcome w n c t (request p)) (outcome_read (request p))

  module _ (n : Node) (s : (k : ℕ) (p : Placed Parameter) → slice_get (parameters w) k ≡ Some p → HeldFits p.it (n.values k).held) where
    ended_read : (c t : ℕ) (b : Bool) → AllRead w (ended w n c t b).1
    unfolding ended answer
    ended_read c t false = tt
    ended_read c t true = parts_read (line_taken n c) s c t (parts_of (content (line_of (n.clients c))))

    driver_read : (k : ℕ) (p : Placed Parameter) → slice_get (parameters w) k ≡ Some p → (x : Held) → HeldFits p.it x → (t : ℕ)
        → AllRead w (driver_effect n k p x t).records
    unfolding driver_effect
    driver_read k p e x f t = to_read w n.clients p.home (report_of p (holding x t)) (report_read k p e x f t) client_numbers

    reading_read : (k : ℕ) (o : Option (Placed Parameter)) → slice_get (parameters w) k ≡ o → (bs : List ℕ) (t : ℕ) → is_fit (reading_verdict o bs) ≡ true
        → AllRead w (reading_effect n k o bs t).records
    unfolding reading_effect reading_verdict
    reading_read k None e bs t f = tt
    reading_read k (Some p) e bs t f = driver_read k p e (valued (stored_form p.it.datainfo bs)) (stored p.it.datainfo bs (in_table k p e) f) t

    unreadable_read : (k : ℕ) (o : Option (Placed Parameter)) → slice_get (parameters w) k ≡ o → (x : Option Fault) (t : ℕ)
        → AllRead w (unreadable_effect n k o x t).records
    unfolding unreadable_effect
    unreadable_read k None e x t = tt
    unreadable_read k (Some p) e None t = tt
    unreadable_read k (Some p) e (Some f) t = driver_read k p e (failed f) tt t

  module _ (n : Node) (s : (k : ℕ) (p : Placed Parameter) → slice_get (parameters w) k ≡ Some p → HeldFits p.it (n.values k).held) where
    effect_read : (e : Event) → first_fault (own_faults w n e) ≡ 0 → AllRead w (effect w n e).records
    unfolding own_faults effect piece_effect
    effect_read (Open c t) y = tt
    effect_read (Close c t) y = tt
    effect_read (Piece c bs t) y = ended_read _ s c t (has_feed bs)
    effect_read (Reading k bs t) y =
        let x = slice_get (parameters w) k in
        let f = is_fit (reading_verdict x bs) in
        reading_read n s k x refl bs t (not-false f (no_fault 14 (not f) (first_fault_none _ y 2)))
    effect_read (Unreadable k x t) y = unreadable_read n s k (slice_get (parameters w) k) refl (fault_of x) t

    step_read : (e : Call) → AllRead w (step table n e).1.records
    unfolding step step_if settle
    step_read e = go (call_number table false n e) (λ y. effect_read e.event ((accepted_call table false e n).0 y).1)
      where
        go : (k : ℕ) → (k ≡ 0 → AllRead w (effect w n e.event).records) → AllRead w (settling table n e k).1.records
        go zero h = h refl
        go (suc k) h = tt

  answers_read : (h : List Call) (n : Node) → Sound w n → AllRead w (sent (answers table n h))
  unfolding answers sent
  answers_read [] n s = tt
  answers_read (e ∷ h) n s =
      both_read w (step table n e).1.records (sent (answers table (step table n e).0 h)) (step_read n (λ k p q. (s.values k p q).0) e)
      (answers_read h (step table n e).0 (calls_keep_sound table z n s e).sound)

pub records_are_read : RecordsAreRead
unfolding finish
records_are_read table area time e h =
    answers_read table (start_accepted table area time e) h (begin (table_of table) time) (always_sound table area time e [])
