-- One call: an accepted one leaves a sound node, and writes well-formed records of at most 32,019 bytes. Assumes nothing.
use Rattle.std.specs.Prelude.{Option, Some, None, slice_get}
use Prim.Native.Nat.{ℕ, zero, suc, ◌+◌, ◌*◌, ◌≤◌}
use mathlib.Core.Bool.{Bool, true, false, cond, not}
use mathlib.Core.List.{List, [], ◌∷◌, ◌++◌}
use mathlib.Core.Path.{◌≡◌, refl, sym, subst}
use native.Mathlib.Nat.{zero-add}
use native.Mathlib.Omega.{arith}
use lib.ListN.{length}
use borrow.Author.Tests.{not-false}
use Rattle.ascii.specs.Text.{bytes}
use Rattle.counter.specs.Counts.{no_counts, lines_counted}
use Rattle.ascii.specs.Bytes.{all, count}
use Rattle.ascii.specs.Numbers.{latest}
use Rattle.json_text.specs.Json.{Json, text}
use Rattle.json_text.proofs.ReadBack.{readable_trees}
use Rattle.datainfo.specs.Datainfo.{Datainfo}
use Rattle.fit.specs.Fit.{Verdict, fits, severity, stored_form, is_fit, is_stored}
use Rattle.form.specs.Theorems.{ReadableShown}
use Rattle.form.proofs.Stored.{stored, stored_short, change_stored, change_short, short_stored}
use Rattle.message.specs.Line.{Parts, content, parts_of}
use Rattle.message.specs.Request.{Request, request}
use Rattle.message.specs.Error.{Fault, fault_of}
use Rattle.message.specs.Reply.{Held, valued, failed, Reply, identification, pong, active, inactive, reply, changed, done, counted, error, checked}
use Rattle.outbox.specs.Outbox.{Record, final, order_change, order_command, body}
use Rattle.outbox.specs.Theorems.{Named}
use Rattle.table.specs.Table.{Parameter, Command, Table}
use Rattle.table.specs.Layout.{table_of}
use Rattle.table.specs.Search.{Placed, parameters, commands}
use Rattle.report.specs.Report.{report}
use Rattle.report.specs.Judge.{first_fault}
use Rattle.report.proofs.Faults.{no_fault, first_fault_none}
use Rattle.plain.specs.Node.{closed, Value, Node, with_client, with_value, Setting, Client, fresh, opened, is_active, below, active_count, line_of, receive, emptied, line_taken, report_of, client_numbers, updates_to, holding, showing, with_values, with_settings}
use Rattle.plain.specs.Answer.{shown_value, judged_at, stored_at, busy, status_of, busy_settings, busy_updates}
use Rattle.plain.specs.Answer.{Outcome, denied, carried, argument_verdict, argument_form, activates, deactivates, sets, outcome, conclude, answer_parts, answer}
use Rattle.plain.specs.Calls.{Event, Open, Close, Piece, Reading, Unreadable, Call, reading_verdict, own_faults, call_number, before_feed, has_feed, ended, Effect, piece_effect, driver_effect, reading_effect, unreadable_effect, effect, settle, settling, step_if}
use Rattle.plain.specs.History.{step}
use Rattle.plain.proofs.Numbers.{accepted_call}
use Rattle.plain.proofs.Outcomes.{Tells, by_identify, by_describe, by_ping, by_read, by_count, LetIn, Allowed, done_of, ordering, outcome_holds}
use Rattle.plain.proofs.Busy.{status_is, busy_stored, set_more}
use Rattle.plain.proofs.Outcomes.{by_check}
use Rattle.sound.specs.Theorems.{HeldFits, ValueHeld, Sound}
use Rattle.sound.proofs.Lists.{each_at}
use Rattle.sound.proofs.Tabled.{ParameterIn}
use Rattle.sound.proofs.Accepted.{Accepted, GoodParameter, GoodCommand, client_low, time_low}
use Rattle.sound.proofs.Records.{Small, DeniedInTime, Fine, ReplyWithin, within_more, identification_within, describing_within, pong_within, active_within, inactive_within, reply_within, changed_within, done_within, counted_within, error_within, Written, written_none, written_one, written_append, written_within, written_final, written_to, written_of, checked_within}
use Rattle.sound.proofs.Lines.{before_feed_lem, received, content_short, ShortWord, parts_words, Asked, asked}
use Rattle.sound.proofs.Held.{with_client_lem, with_value_lem, with_count_lem, one_line, with_counting, line_held, emptied_held, more_active, less_active}

-- a node that is left is sound, and the records that are written are no more than any call may write
pub record StillSound (w : Table) (n : Node) (rs : List Record) : Type 0 where
  pub sound : Sound w n
  pub written : Written rs 32019

-- what is left and written where a request comes to this; an error's time is within the limit, and the rest is for `concluded`
abbrev pub Comes : Table → ℕ → Outcome → Type 0
Comes w c (denied e) = DeniedInTime e
Comes w c (carried m ss rs r) = StillSound w m (rs ++ (final c r ∷ []))

-- of the first k numbers
pub count_low : (f : ℕ → Bool) (k : ℕ) → count f (below k) ≤ k
unfolding count below
count_low f zero = omega arith
count_low f (suc k) = one (f k) (count_low f k)
  where
    one : (b : Bool) → count f (below k) ≤ k → cond b 1 0 + count f (below k) ≤ suc k
    one true h = omega arith
    one false h = omega arith

fit_is : (v : Verdict) → v ≡ fits → is_fit v ≡ true
unfolding is_fit severity
fit_is v e = rw e refl

-- what is shown was read from a text
pub shown_readable : (x : Held) → ReadableShown (shown_value x)
unfolding shown_value
shown_readable (valued v) = go (text v) refl
  where
    go : (o : Option Json) → text v ≡ o → ReadableShown o
    go None e = tt
    go (Some x) e = readable_trees.of_texts v x e
shown_readable (failed f) = tt

-- what is let in, as it is stored
pub let_in_stored : (w : Table) → Accepted w → (values : ℕ → Value) (k : ℕ × Placed Parameter) (v : List ℕ) → LetIn w values k v
    → is_stored k.1.it.datainfo (stored_at values k v) ≡ true
let_in_stored w a values k v l =
    change_stored (shown_value (values k.0).held) k.1.it.datainfo v (shown_readable (values k.0).held)
    (each_at (λ (q : Placed Parameter). ParameterIn q.it) (parameters w) a.parameters_in k.0 k.1 l.there)
    (fit_is (judged_at values k v) l.fitting)

-- ## Lines, on an accepted table, at a sound node

module _ (w : Table) (a : Accepted w) (n : Node) (s : Sound w n) where
  pub fine : (k : ℕ) (p : Placed Parameter) → slice_get (parameters w) k ≡ Some p → (v : Value) → ValueHeld p.it v
      → Fine (report_of p v)
  fine k p e v h =
      record {
        names = (each_at GoodParameter (parameters w) a.all_parameters k p e).0;
        small = held_small v.held h.0;
        in_time = h.1;
      }
    where
      held_small : (x : Held) → HeldFits p.it x → Small x
      held_small (valued x) i = short_stored p.it.datainfo x i
      held_small (failed f) i = tt

  -- a parameter's datainfo is one of which the laws of stored forms speak
  in_table : (k : ℕ) (p : Placed Parameter) → slice_get (parameters w) k ≡ Some p → ParameterIn p.it
  in_table k p e = each_at (λ (q : Placed Parameter). ParameterIn q.it) (parameters w) a.parameters_in k p e

  -- a parameter holds what may be held of it from a time on
  module _ (k : ℕ) (p : Placed Parameter) (e : slice_get (parameters w) k ≡ Some p) (x : Held) (f : HeldFits p.it x) (t : ℕ) (h : t ≤ latest) where
    abbrev new : Value
    new = holding x t

    new_value : ValueHeld p.it new
    new_value = (f, h)

    -- at this node or another
    new_node_at : (m : Node) → Sound w m → Sound w (with_value m k new)
    new_node_at m s = with_value_lem w m k new (λ q j. let i : p ≡ q = cc in subst (λ q. ValueHeld q.it new) i new_value) s

    new_node : Sound w (with_value n k new)
    new_node = new_node_at n s

    new_updates : Written (updates_to n.clients p.home (report_of p new) client_numbers) 3360
    new_updates = written_to n.clients p.home (report_of p new) (fine k p e new new_value) client_numbers

  -- no more modules are active than there are
  active_few : (x : Client) → active_count w x ≤ length w.modules
  unfolding active_count
  active_few x = count_low (is_active x) (length w.modules)

  -- requests of client c at the time t
  module _ (c : ℕ) (low : c ≤ 7) (t : ℕ) (h : t ≤ latest) where
    comes : (m : Node) (ss : List Setting) (rs : List Record) (r : Reply) (j k : ℕ) → Sound w m → Written rs j → ReplyWithin r k → j + (k + 6) ≤ 32019
        → Comes w c (carried m ss rs r)
    comes m ss rs r j k u v x i =
        record {
          sound = u;
          written = written_within 32019 i (written_append rs (final c r ∷ []) j (k + 6) v (written_final c r k x));
        }

    only : (r : Reply) (k : ℕ) → ReplyWithin r k → k ≤ 32013 → Comes w c (carried n [] [] r)
    only r k x i = comes n [] [] r 0 k s written_none x (omega arith)

    pub comes_activates : (wanted : ℕ → Bool) (m : Option (List ℕ)) → Named m → Comes w c (activates w n c t wanted m)
    unfolding activates
    comes_activates wanted m e =
        let there : (j : ℕ) (p : Placed Parameter) → slice_get (parameters w) j ≡ Some p → Fine (report_of p (n.values (0 + j))) =
        λ j p q. rw zero-add (fine j p q (n.values j) (s.values j p q)) in
        comes _ [] _ (active m) (length (parameters w) * 420) 70
        (with_client_lem w n c _ low (more_active w (n.clients c) wanted (s.clients c)) s)
        (written_of c wanted n.values 0 (parameters w) there) (active_within m e) (omega (arith, a.few))

    comes_deactivates : (wanted : ℕ → Bool) (m : Option (List ℕ)) → Named m → Comes w c (deactivates w n c t wanted m)
    unfolding deactivates
    comes_deactivates wanted m e =
        comes _ [] [] (inactive m) 0 72
        (with_client_lem w n c _ low (less_active w (n.clients c) wanted (s.clients c)) s) written_none (inactive_within m e) (omega arith)

    -- a reply alone
    told_short : (q : Request) (r : Reply) → Tells w n c t q r → Asked q → ReplyWithin r 32013
    told_short _ _ by_identify q = within_more (identification w.edition) 16384 32013 (omega arith) (identification_within w.edition a.edition)
    told_short _ _ by_describe q = describing_within (report w) a.short
    told_short _ _ (by_ping {token}) q = within_more (pong token t) 1057 32013 (omega arith) (pong_within token t q.0 q.1 h)
    told_short _ _ (by_read k e v u i) q =
        let r = report_of k.1 (showing v u) in
        within_more (reply r) 415 32013 (omega arith)
        (reply_within r (fine k.0 k.1 e (showing v u) (subst (ValueHeld k.1.it) i (s.values k.0 k.1 e))) tt)
    told_short _ _ (by_check k v l e) q =
        let x = showing (stored_at n.values k v) t in
        let i = let_in_stored w a n.values k v l in
        within_more (checked (report_of k.1 x)) 415 32013 (omega arith)
        (checked_within (report_of k.1 x) (fine k.0 k.1 l.there x (i, h)) tt)
    told_short _ _ by_count q =
        let m = active_count w (n.clients c) in
        within_more (counted (n.counts c) m t) 79 32013 (omega arith)
        (counted_within (n.counts c) m t (s.counts c) (omega (arith, active_few (n.clients c), a.few_modules)) h)

    comes_tells : (q : Request) (r : Reply) → Tells w n c t q r → Asked q → Comes w c (carried n [] [] r)
    comes_tells q r u i = only r 32013 (told_short q r u i) (omega arith)

    -- what is set and sent of a status first
    busied : (p : Placed Parameter) (o : Option (ℕ × Placed Parameter)) → status_of w p ≡ o
        → Sound w (with_settings n (busy_settings o t)) × Written (busy_updates n.clients o t) 3360
    unfolding busy_settings busy_updates
    busied p None e = (s, written_within 3360 (omega arith) written_none)
    busied p (Some x) e =
        let i = status_is w p x e in
        let f = busy_stored x.1.it.datainfo (in_table x.0 x.1 i.there).names i.admits in
        (new_node x.0 x.1 i.there (valued busy) f t h, new_updates x.0 x.1 i.there (valued busy) f t h)

    comes_sets : (k : ℕ × Placed Parameter) (v : List ℕ) → LetIn w n.values k v → Comes w c (sets w n c t k (stored_at n.values k v))
    unfolding sets body
    comes_sets k v i =
        let f = fit_is (judged_at n.values k v) i.fitting in
        let e = i.there in
        let x : Held = valued (stored_at n.values k v) in
        let i = let_in_stored w a n.values k v i in
        let r = report_of k.1 (holding x t) in
        let o = status_of w k.1 in
        let b = busied k.1 o refl in
        let order = order_change c k.0 (stored_at n.values k v) in
        let first = busy_updates n.clients o t in
        let updates = updates_to n.clients k.1.home r client_numbers in
        let told = written_one order 262 tt (omega (arith, change_short (shown_value (n.values k.0).held) k.1.it.datainfo v f)) in
        let set : List Setting = record { parameter = k.0; held = x; time = t } ∷ [] in
        comes (with_settings n (busy_settings o t ++ set)) (busy_settings o t ++ set) (order ∷ (first ++ updates)) (changed r) 6982 415
        (subst (λ f. Sound w (with_values n f)) (sym (set_more n.values (busy_settings o t) set))
        (new_node_at k.0 k.1 e x i t h (with_settings n (busy_settings o t)) b.0))
        (written_append (order ∷ []) (first ++ updates) 262 6720 told (written_append first updates 3360 3360 b.1 (new_updates k.0 k.1 e x i t h)))
        (changed_within r (fine k.0 k.1 e (holding x t) (i, h)) tt)
        (omega arith)

    argument_short : (d : Option Datainfo) (v : List ℕ) → is_fit (argument_verdict d v) ≡ true → length (argument_form d v) ≤ 256
    unfolding argument_verdict argument_form
    argument_short None v e = omega arith
    argument_short (Some d) v e = stored_short d v e

    comes_does : (k : ℕ × Placed Command) (v : List ℕ) → Allowed w k v → Comes w c (ordering n c t k v)
    unfolding body bytes
    comes_does k v i =
        let x = argument_form k.1.it.argument v in
        let f = fit_is (argument_verdict k.1.it.argument v) i.fitting in
        let told = written_one (order_command c k.0 x) 262 tt (omega (arith, argument_short k.1.it.argument v f)) in
        let names = each_at GoodCommand (commands w) a.all_commands k.0 k.1 i.there in
        comes n [] (order_command c k.0 x ∷ []) (done (done_of k.1 t)) 262 415 s told
        (done_within (done_of k.1 t) (record { names = names; small = omega arith; in_time = h }) tt) (omega arith)

    comes_outcome : (q : Request) → Asked q → Comes w c (outcome w n c t q)
    comes_outcome =
        outcome_holds (λ q o. Asked q → Comes w c o) w n c t
        (record {
          bad = λ q x i. tt;
          failing = λ k f u e z i. (subst (ValueHeld k.1.it) z (s.values k.0 k.1 e)).1;
          telling = comes_tells;
          activating = λ m wanted u i. comes_activates wanted m i;
          deactivating = λ m wanted u i. comes_deactivates wanted m i;
          setting = λ k v u i. comes_sets k v u;
          doing = λ k v u i. comes_does k v u;
        })

    concluded : (p : Parts) → ShortWord p.action × ShortWord p.specifier → (o : Outcome) → Comes w c o
        → StillSound w (conclude w n c t p o).0 (conclude w n c t p o).1
    unfolding conclude
    concluded p q (denied e) i =
        comes n [] [] (error p.action p.specifier e) 0 2122 s written_none
        (error_within p.action p.specifier e i q.0.0 q.1.0 q.0.1 q.1.1) (omega arith)
    concluded p q (carried m ss rs r) i = i

    answered_parts : (p : Parts) → ShortWord p.action × ShortWord p.specifier
        → StillSound w (answer_parts w n c t p).0 (answer_parts w n c t p).1
    unfolding answer_parts
    answered_parts p q = concluded p q (outcome w n c t (request p)) (comes_outcome (request p) (asked p q.1))

-- ## Calls, on an accepted table, at a sound node

module _ (w : Table) (a : Accepted w) (n : Node) (s : Sound w n) where
  quiet : StillSound w n []
  quiet = record { sound = s; written = written_within 32019 (omega arith) written_none }

  -- a line feed, or none yet
  pub answered : (c t : ℕ) → c ≤ 7 → t ≤ latest → (b : Bool) → StillSound w (ended w n c t b).0 (ended w n c t b).1
  unfolding ended answer
  answered c t low h false = quiet
  answered c t low h true =
      let l = line_of (n.clients c) in
      let m = with_client_lem w n c (emptied (n.clients c)) low (emptied_held w (n.clients c) (s.clients c)) s in
      let k = answered_parts w a (line_taken n c) (with_count_lem w _ c (lines_counted (n.counts c) 1) (one_line w (n.counts c) (s.counts c)) m) c low t h
      (parts_of (content l)) (parts_words (content l) (content_short l (line_held w (n.clients c) (s.clients c)))) in
      record { sound = with_counting w _ _ k.sound; written = k.written }

  -- what a driver tells is held
  told_in : (k : ℕ) (p : Placed Parameter) → slice_get (parameters w) k ≡ Some p → (x : Held) → HeldFits p.it x → (t : ℕ) → t ≤ latest
      → StillSound w (driver_effect n k p x t).next (driver_effect n k p x t).records
  unfolding driver_effect
  told_in k p e x f t h =
      record {
        sound = with_counting w _ _ (new_node w a n s k p e x f t h);
        written = written_within 32019 (omega arith) (new_updates w a n s k p e x f t h);
      }

  read_in : (k : ℕ) (o : Option (Placed Parameter)) → slice_get (parameters w) k ≡ o
      → (bs : List ℕ) (t : ℕ) → t ≤ latest → is_fit (reading_verdict o bs) ≡ true
      → StillSound w (reading_effect n k o bs t).next (reading_effect n k o bs t).records
  unfolding reading_effect reading_verdict
  read_in k None e bs t h f = quiet
  read_in k (Some p) e bs t h f = told_in k p e (valued (stored_form p.it.datainfo bs)) (stored p.it.datainfo bs (in_table w a n s k p e) f) t h

  unread_in : (k : ℕ) (o : Option (Placed Parameter)) → slice_get (parameters w) k ≡ o → (x : Option Fault) (t : ℕ) → t ≤ latest
      → StillSound w (unreadable_effect n k o x t).next (unreadable_effect n k o x t).records
  unfolding unreadable_effect
  unread_in k None e x t h = quiet
  unread_in k (Some p) e None t h = quiet
  unread_in k (Some p) e (Some f) t h = told_in k p e (failed f) tt t h

module _ (table : List ℕ) (a : Accepted (table_of table)) where
  abbrev w : Table
  w = table_of table

  module _ (n : Node) (s : Sound w n) where
    effected : (e : Event) → first_fault (own_faults w n e) ≡ 0 → StillSound w (effect w n e).next (effect w n e).records
    unfolding own_faults effect piece_effect all
    effected (Open c t) z =
        let low = client_low c (first_fault_none _ z 1) in
        let m = with_client_lem w n c fresh low ((omega arith, refl), λ i e. refl) s in
        quiet w a (opened n c) (with_count_lem w _ c no_counts (omega arith, (omega arith, omega arith)) m)
    effected (Close c t) z =
        let low = client_low c (first_fault_none _ z 1) in
        quiet w a (with_client n c closed) (with_client_lem w n c closed low tt s)
    effected (Piece c bs t) z =
        let low = client_low c (first_fault_none _ z 1) in
        let x = receive (n.clients c) (before_feed bs) in
        let h = received w (n.clients c) (before_feed bs) (before_feed_lem bs) (s.clients c) in
        answered w a (with_client n c x) (with_client_lem w n c x low h s) c t low (time_low t (first_fault_none _ z 0)) (has_feed bs)
    effected (Reading k bs t) z =
        let x = slice_get (parameters w) k in
        let f = is_fit (reading_verdict x bs) in
        read_in w a n s k x refl bs t (time_low t (first_fault_none _ z 0)) (not-false f (no_fault 14 (not f) (first_fault_none _ z 2)))
    effected (Unreadable k x t) z = unread_in w a n s k (slice_get (parameters w) k) refl (fault_of x) t (time_low t (first_fault_none _ z 0))

    pub stepped : (e : Call) → StillSound w (step table n e).0 (step table n e).1.records
    unfolding step step_if settle
    stepped e = go (call_number table false n e) (λ z. effected e.event ((accepted_call table false e n).0 z).1)
      where
        f : Effect
        f = effect w n e.event

        go : (k : ℕ) → (k ≡ 0 → StillSound w f.next f.records) → let s = settling table n e k in StillSound w s.0 s.1.records
        go zero f = f refl
        go (suc k) f = quiet w a n s
