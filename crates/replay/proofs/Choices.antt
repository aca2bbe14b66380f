-- What an accepted call set, as the code finds it. Assumes nothing.
use Rattle.std.specs.Prelude.{Option, Some, None, slice_get}
use Prim.Native.Nat.{ℕ, zero, suc, ◌≤◌, ◌<◌}
use native.Mathlib.Nat.{zero-add}
use native.Mathlib.Omega.{arith}
use mathlib.Core.Bool.{Bool, true, false, cond, ◌&&◌}
use mathlib.Core.List.{List, [], ◌∷◌, ◌++◌, append-nil}
use mathlib.Core.Path.{◌≡◌, refl, sym, ap, ap₂, subst, ◌∙◌}
use lib.Dec.{eqb, ltb}
use lib.ListN.{length, get_or, drop, replicate}
use lib.Seq.{sets, sets-eq}
use borrow.Author.Tests.{eq-eqb, ne_eqb, eqb-true, eqb-false, ltb-false, not-false}
use Rattle.ascii.specs.Bytes.{is_some, head}
use Rattle.ascii.proofs.Lists.{neither}
use Rattle.fit.specs.Fit.{stored_form, is_stored}
use Rattle.table.specs.Table.{Parameter, Table}
use Rattle.table.specs.Layout.{table_of}
use Rattle.table.specs.Search.{Placed, parameters}
use Rattle.report.specs.Judge.{table_number}
use Rattle.report.proofs.Faults.{no_fault, first_fault_none}
use Rattle.message.specs.Error.{Fault, fault_of}
use Rattle.message.specs.Reply.{valued, held_as}
use Rattle.outbox.specs.Outbox.{Record, encode_all}
use Rattle.plain.specs.Node.{Node, Value, showing, report_of, client_numbers}
use Rattle.plain.specs.Calls.{Event, Open, Close, Unreadable, Call, Answer, Effect, answer_of, effect, call_steps, settle, step_if, call_number, driver_effect}
use Rattle.plain.specs.Calls.{reading_effect, unreadable_effect, piece_effect, lent_faults, own_faults, is_small, sends, with_area, with_outbox}
use Rattle.plain.specs.Calls as Calls
use Rattle.plain.proofs.Put.{put_at}
use Rattle.state.specs.declared.Settings.{Settings}
use Rattle.state.specs.declared.State.{State}
use Rattle.state.specs.View.{view, value_at, shown, outbox_after, written}
use Rattle.state.specs.Fit.{is_unfit, settings_unfit}
use Rattle.state.proofs.Settled.{each_fit, fit_parts}
use Rattle.state.proofs.Stands.{value_held}
use Rattle.sound.specs.Theorems.{HeldFits}
use Rattle.sound.proofs.Accepted.{accepted}
use Rattle.sound.proofs.Lists.{there_low}
use Rattle.promise.specs.declared.Done.{Done}
use Rattle.promise.specs.Promise.{Kept, step_from}
use Rattle.trace.specs.declared.Kind.TheVariants.{Piece}
use Rattle.trace.specs.declared.Head.{Head}
use Rattle.trace.specs.Trace.{Entry}
use Rattle.figures.specs.declared.Figures.{Figures}
use Rattle.figures.specs.Clauses.Tally.{no_settings, tally_at, mark_of, observed, Tallies, Bounded}
use Rattle.figures.proofs.Keeping.{none_anywhere, observed_same, observed_other}
use Rattle.figures.proofs.Tallying.{figures_are_exact}
use Rattle.replay.specs.Replay.{call_of, call_for}
use Rattle.replay.specs.Settings.{orders_of, form_for, readings_of, set_by}
use Rattle.replay.specs.Clauses.Figured.{Figured, order_in, chosen_by, Shows, Shown, Notes}
use Rattle.replay.specs.Clauses.View.{entry_of}
use Rattle.replay.specs.Promise.{Single, by_open, by_close, by_piece, by_reading, by_unreadable}
use Rattle.replay.specs.Clauses.Inner as Inner
use Rattle.replay.specs.Clauses.Inner.{Made, Counts}
use Rattle.fit.proofs.Shapes.{just}
use Rattle.replay.proofs.Went.{area_length}
use Rattle.replay.proofs.Orders.{NoOrders, updates_to_lem, Ordered, no_order, one_order, piece_ordered, order_one, order_none, order_long}
use Rattle.replay.proofs.Orders.{orders_same, orders_other}

-- ## What an accepted event sets

-- nothing, or one parameter, which then holds it
pub data Sets (w : Table) (e : Event) (a : Answer) (m : Node) : Option ℕ → Type 0 where
  sets_none : ((k : ℕ) → set_by w k e a ≡ []) → Sets w e a m None
  sets_one : (k : ℕ) (p : Placed Parameter) (v : List ℕ) → slice_get (parameters w) k ≡ Some p → (m.values k).held ≡ valued v
      → set_by w k e a ≡ v ∷ [] → ((j : ℕ) → (j ≡ k → ⊥) → set_by w j e a ≡ []) → Sets w e a m (Some k)

-- whatever its steps
abbrev Found : Table → Node → Event → Option ℕ → Type 0
Found w n e r = Sets w e (answer_of (effect w n e) 0) (effect w n e).next r

module _ (w : Table) (n : Node) where
  open_found : (c t : ℕ) → Found w n (Open c t) None
  unfolding effect set_by readings_of orders_of
  open_found c t = sets_none (λ k. refl)

  close_found : (c t : ℕ) → Found w n (Close c t) None
  unfolding effect set_by readings_of orders_of
  close_found c t = sets_none (λ k. refl)

  unreadable_found : (p i t : ℕ) → Found w n (Unreadable p i t) None
  unfolding effect set_by readings_of unreadable_effect driver_effect orders_of
  unreadable_found p i t = sets_none (go (slice_get (parameters w) p) (fault_of i))
    where
      go : (o : Option (Placed Parameter)) (f : Option Fault) → NoOrders (unreadable_effect n p o f t).records
      go None f k = refl
      go (Some x) None k = refl
      go (Some x) (Some f) k = updates_to_lem n.clients x.home _ _ k

  module _ (c : ℕ) (bs : List ℕ) (t : ℕ) (more : List ℕ) where
    abbrev Here : List Record → Option ℕ → Type 0
    Here rs r =
        Sets w (Calls.Piece c bs t) (record { number = 0; used = (piece_effect w n c bs t).used; records = rs; steps = 0 }) (piece_effect w n c bs t).next r

    quiet_piece : (rs : List Record) → NoOrders rs → (b : Bool) → eqb (length (encode_all rs)) 0 ≡ b → Here rs (cond b None (order_in (encode_all rs ++ more)))
    unfolding set_by readings_of
    quiet_piece rs h true z = sets_none h
    quiet_piece rs h false z = rw (order_none rs more h (eqb-false (length (encode_all rs)) 0 z)) (sets_none h)

    either_piece : (rs : List Record) → Ordered w (piece_effect w n c bs t).next.values rs
        → Here rs (cond (eqb (length (encode_all rs)) 0) None (order_in (encode_all rs ++ more)))
    unfolding set_by readings_of
    either_piece rs (no_order h) = quiet_piece rs h (eqb (length (encode_all rs)) 0) refl
    either_piece _ (one_order {rs = rs} d k p v x y h) =
        rw (order_long d k v rs, order_one d k v rs more) (sets_one k p v x y (orders_same d k v rs h) (orders_other d k v rs h))

  piece_found : (c : ℕ) (bs : List ℕ) (t : ℕ) (i : ℕ) (xs more : List ℕ) → i ≡ length (encode_all (piece_effect w n c bs t).records)
      → xs ≡ encode_all (piece_effect w n c bs t).records ++ more → Found w n (Calls.Piece c bs t) (chosen_by Piece c i xs)
  unfolding effect chosen_by
  piece_found c bs t i xs more l e = rw (l, e) (either_piece c bs t more (piece_effect w n c bs t).records (piece_ordered w n c bs t))

  module _ (k : ℕ) (bs : List ℕ) (t : ℕ) (p : Placed Parameter) (e : slice_get (parameters w) k ≡ Some p) where
    read_same : (u : ℕ) (rs : List Record) → NoOrders rs
        → set_by w k (Calls.Reading k bs t) (record { number = 0; used = u; records = rs; steps = 0 }) ≡ stored_form p.it.datainfo bs ∷ []
    unfolding set_by readings_of form_for
    read_same u rs h =
        ap₂ ◌++◌
        (ap (λ (o : Option (Placed Parameter)). cond (eqb k k) (form_for o bs) []) e
        ∙ ap (λ (x : Bool). cond x (stored_form p.it.datainfo bs ∷ []) []) (eq-eqb k k refl))
        (h k)

    read_other : (u : ℕ) (rs : List Record) → NoOrders rs → (j : ℕ) → (j ≡ k → ⊥)
        → set_by w j (Calls.Reading k bs t) (record { number = 0; used = u; records = rs; steps = 0 }) ≡ []
    unfolding set_by readings_of
    read_other u rs h j z =
        ap₂ ◌++◌ (ap (λ (x : Bool). cond x (form_for (slice_get (parameters w) k) bs) []) (ne_eqb j k z)) (h j)

  reading_found : (k : ℕ) (bs : List ℕ) (t : ℕ) → (o : Option (Placed Parameter)) → slice_get (parameters w) k ≡ o → is_some o ≡ true
      → Found w n (Calls.Reading k bs t) (Some k)
  unfolding effect reading_effect driver_effect
  reading_found k bs t None e i = absurd (let z : ◌≡◌ {A = ℕ} 0 1 = cc in omega arith)
  reading_found k bs t (Some p) e i =
      let quiet = updates_to_lem n.clients p.home (report_of p (showing (stored_form p.it.datainfo bs) t)) client_numbers in
      rw e
      (sets_one k p (stored_form p.it.datainfo bs) e (ap (λ (x : Value). x.held) (put_at n.values k _))
      (read_same k bs t p e 0 _ quiet) (read_other k bs t p e 0 _ quiet))

-- what a call set is shown, if it set anything
pub data Settles (table : List ℕ) (e : Call) (s : State) (lent : List ℕ) (settings : Settings) (values : List ℕ) : Option ℕ → Type 0 where
  settles_none : ((j : ℕ) → set_by (table_of table) j e.event (step_from table s lent e).1 ≡ []) → Settles table e s lent settings values None
  settles_one : (i : ℕ) (p : Placed Parameter) (v : List ℕ) → Shows table settings values i p v
      → set_by (table_of table) i e.event (step_from table s lent e).1 ≡ v ∷ []
      → ((j : ℕ) → (j ≡ i → ⊥) → set_by (table_of table) j e.event (step_from table s lent e).1 ≡ []) → Settles table e s lent settings values (Some i)

-- ## Accepted and refused calls

settled_number : (k : ℕ) (n : Node) (x : Effect) (i : ℕ) → (settle k n x i).1.number ≡ k
unfolding settle
settled_number zero n x i = refl
settled_number (suc k) n x i = refl

settled_none : (k : ℕ) (n : Node) (x : Effect) (i : ℕ) → (settle k n x i).1.number ≡ suc k → ⊥
settled_none k n x i e = let z = settled_number k n x i in omega arith

refused_none : (w : Table) (e : Event) (k : ℕ) (n : Node) (x : Effect) (i : ℕ) → (k ≡ 0 → ⊥) → (j : ℕ) → set_by w j e (settle k n x i).1 ≡ []
unfolding settle set_by orders_of
refused_none w e zero n x i h j = absurd (h refl)
refused_none w e (suc k) n x i h j = ap (λ (b : Bool). cond b (readings_of w j e) [] ++ []) (ne_eqb (suc k) 0 (λ z. omega arith))

module _ {table : List ℕ} {e : Call} {s : State} {values outbox : List ℕ} {d : Done} {values' outbox' : List ℕ}
    (k : Kept table e s values outbox d values' outbox') where
  abbrev unfit : Bool
  unfit = is_unfit (table_of table) s values

  abbrev node : Node
  node = view table s values

  number_is_lem : d.number ≡ call_number table unfit node e
  unfolding step_if
  number_is_lem = k.number ∙ settled_number (call_number table unfit node e) node (effect (table_of table) node e.event) (call_steps (table_of table) node e)

  pub kept_refused : (d.number ≡ 0 → ⊥) → (j : ℕ) → set_by (table_of table) j e.event (step_from table s values e).1 ≡ []
  unfolding step_if
  kept_refused h = refused_none (table_of table) e.event (call_number table unfit node e) node _ _ (λ z. h (number_is_lem ∙ z))

  module _ (z : d.number ≡ 0) where
    zero_number : call_number table unfit node e ≡ 0
    zero_number = sym number_is_lem ∙ z

    step_is : step_from table s values e ≡ ((effect (table_of table) node e.event).next, answer_of (effect (table_of table) node e.event) (call_steps (table_of table) node e))
    unfolding step_if settle
    step_is = rw zero_number refl

    kept_table : table_number table ≡ 0
    unfolding call_number lent_faults
    kept_table = first_fault_none _ zero_number 0

    kept_area : 16384 ≤ e.lent.area
    unfolding call_number lent_faults
    kept_area = ltb-false e.lent.area 16384 (no_fault 7 (ltb e.lent.area 16384) (first_fault_none _ zero_number 2))

    kept_outbox : sends e.event ≡ true → 32768 ≤ e.lent.outbox
    unfolding call_number lent_faults is_small
    kept_outbox h =
        let f = no_fault 6 (is_small e.event e.lent.outbox) (first_fault_none _ zero_number 1) in
        ltb-false e.lent.outbox 32768 (sym (ap (λ (b : Bool). b && ltb e.lent.outbox 32768) h) ∙ f)

    kept_own : (j : ℕ) → get_or (own_faults (table_of table) node e.event) j 0 ≡ 0
    unfolding call_number lent_faults
    kept_own j = first_fault_none _ zero_number (suc (suc (suc (suc (suc j)))))

    abbrev done_by_lem : Effect
    done_by_lem = effect (table_of table) node e.event

    -- the bytes written are those of the records, and stand at the front
    kept_written : d.written ≡ length (encode_all done_by_lem.records)
    unfolding written
    kept_written = k.writes ∙ ap (λ (x : Node × Answer). length (encode_all x.1.records)) step_is

    kept_front : 32768 ≤ length outbox → outbox' ≡ encode_all done_by_lem.records ++ drop (length (encode_all done_by_lem.records)) outbox
    unfolding outbox_after
    kept_front h =
        let l = kept_written in
        let m = k.short in
        k.sends ∙ ap (λ (x : Node × Answer). sets outbox 0 (encode_all x.1.records)) step_is
        ∙ sets-eq (encode_all done_by_lem.records) outbox 0 (omega arith)
        ∙ ap (λ (n : ℕ). encode_all done_by_lem.records ++ drop n outbox) (zero-add (length (encode_all done_by_lem.records)))

    next_is : view table d.state values' ≡ done_by_lem.next
    next_is = k.node ∙ ap (λ (x : Node × Answer). x.0) step_is

    abbrev settings : Settings
    settings = d.state.settings

    fit : settings_unfit settings values' 0 (parameters (table_of table)) ≡ false
    unfolding is_unfit
    fit = (neither (settings_unfit settings values' 0 (parameters (table_of table))) _ (k.fit z)).0

    shown_held : (o : Option Fault) (x v : List ℕ) → held_as o x ≡ valued v → x ≡ v
    shown_held None x v h = cc
    shown_held (Some f) x v h = absurd (let y : ◌≡◌ {A = ℕ} 0 1 = cc in omega arith)

    kept_shows : 16384 ≤ length values' → (i : ℕ) (p : Placed Parameter) (v : List ℕ) → slice_get (parameters (table_of table)) i ≡ Some p
        → (done_by_lem.next.values i).held ≡ valued v → Shows table settings values' i p v
    unfolding view value_at
    kept_shows a i p v t h =
        let held : (value_at table settings values' i (slice_get (parameters (table_of table)) i)).held ≡ valued v =
        ap (λ (n : Node). (n.values i).held) next_is ∙ h in
        let own : held_as (fault_of (get_or settings.error i 0)) (shown table settings values' i p.it) ≡ valued v = rw t at held in
        let f = (value_held table kept_table d.state values' fit i p t).0 in
        record {
          accepted = kept_table;
          area = a;
          there = t;
          low = let x = there_low (parameters (table_of table)) i p t in let y = (accepted table kept_table).few in omega arith;
          short = (fit_parts settings values' i p (each_fit settings values' (parameters (table_of table)) fit i p t)).short;
          is = shown_held (fault_of (get_or settings.error i 0)) (shown table settings values' i p.it) v own;
          stored = subst (HeldFits p.it) held f;
        }

    settles : 16384 ≤ length values' → (r : Option ℕ) → Found (table_of table) node e.event r → Settles table e s values settings values' r
    unfolding set_by
    settles a _ (sets_none h) = settles_none (λ j. ap (λ (x : Node × Answer). set_by (table_of table) j e.event x.1) step_is ∙ h j)
    settles a _ (sets_one i p v t h x y) =
        settles_one i p v (kept_shows a i p v t h) (ap (λ (q : Node × Answer). set_by (table_of table) i e.event q.1) step_is ∙ x)
        (λ j n. ap (λ (q : Node × Answer). set_by (table_of table) j e.event q.1) step_is ∙ y j n)

    same_area : 16384 ≤ length values → 16384 ≤ length values'
    same_area h = let l = ap length k.area ∙ area_length values _ in omega arith

-- ## The single call of a record

module _ (table : List ℕ) (s : State) (values : List ℕ) where
  single_refused : (outbox : List ℕ) (e : Entry) (d : Done) (values' outbox' : List ℕ) → Single table s values outbox e d values' outbox' → (d.number ≡ 0 → ⊥)
      → (j : ℕ) → set_by (table_of table) j (call_for (length values) (length outbox) e).event
      (step_from table s values (call_for (length values) (length outbox) e)).1 ≡ []
  unfolding call_of
  single_refused outbox e _ _ _ (by_open c t bs d k) h = kept_refused k h
  single_refused outbox e _ _ _ (by_close c t bs d k) h = kept_refused k h
  single_refused outbox e _ _ _ (by_piece c t bs d values' outbox' k) h = kept_refused k h
  single_refused outbox e _ _ _ (by_reading p t bs d values' outbox' k) h = kept_refused k h
  single_refused outbox e _ _ _ (by_unreadable p t bs d outbox' k) h = kept_refused k h

  single_settles : (outbox : List ℕ) (e : Entry) (d : Done) (values' outbox' : List ℕ) → Single table s values outbox e d values' outbox' → d.number ≡ 0
      → Settles table (call_for (length values) (length outbox) e) s values d.state.settings values' (chosen_by e.kind e.number d.written outbox')
  unfolding call_of chosen_by effect own_faults sends
  single_settles outbox e _ _ _ (by_open c t bs d k) z = settles k z (kept_area k z) None (open_found (table_of table) (view table s values) c t)
  single_settles outbox e _ _ _ (by_close c t bs d k) z = settles k z (kept_area k z) None (close_found (table_of table) (view table s values) c t)
  single_settles outbox e _ _ _ (by_piece c t bs d values' outbox' k) z =
      settles k z (same_area k z (kept_area k z)) _
      (piece_found (table_of table) (view table s values) c bs t d.written outbox' _ (kept_written k z) (kept_front k z (kept_outbox k z refl)))
  single_settles outbox e _ _ _ (by_reading p t bs d values' outbox' k) z =
      settles k z (same_area k z (kept_area k z)) (Some p)
      (reading_found (table_of table) (view table s values) p bs t (slice_get (parameters (table_of table)) p) refl
      (not-false (is_some (slice_get (parameters (table_of table)) p)) (no_fault 13 _ (kept_own k z 1))))
  single_settles outbox e _ _ _ (by_unreadable p t bs d outbox' k) z =
      settles k z (kept_area k z) None (unreadable_found (table_of table) (view table s values) p (head bs) t)

-- ## The figures after it

module _ (table : List ℕ) (e : Call) (s : State) (lent : List ℕ) (f : Figures) where
  quiet_figured : ((j : ℕ) → set_by (table_of table) j e.event (step_from table s lent e).1 ≡ []) → Figured table s lent e f f
  quiet_figured h = record { is = λ k p t vs x. rw (h k, append-nil vs) x }

  set_figured : (f' : Figures) (i : ℕ) (p : Placed Parameter) (v : List ℕ) → Bounded f → i < 64 → slice_get (parameters (table_of table)) i ≡ Some p
      → is_stored p.it.datainfo v ≡ true → f' ≡ observed f i (mark_of p.it.datainfo v)
      → set_by (table_of table) i e.event (step_from table s lent e).1 ≡ v ∷ []
      → ((j : ℕ) → (j ≡ i → ⊥) → set_by (table_of table) j e.event (step_from table s lent e).1 ≡ []) → Figured table s lent e f f'
  set_figured f' i p v b l there stored is own others = record { is = λ k q t vs x. go k q t vs x (eqb k i) refl }
    where
      low : i < length f.tallies
      low = omega (arith, b.size)

      go : (k : ℕ) (q : Placed Parameter) → slice_get (parameters (table_of table)) k ≡ Some q → (vs : List (List ℕ))
          → Tallies q.it.datainfo vs (tally_at f k) → (t : Bool) → eqb k i ≡ t
          → Tallies q.it.datainfo (vs ++ set_by (table_of table) k e.event (step_from table s lent e).1) (tally_at f' k)
      go k q t vs x true h =
          let z = eqb-true k i h in
          let same : p ≡ q = just (sym there ∙ ap (slice_get (parameters (table_of table))) (sym z) ∙ t) in
          let y : Tallies p.it.datainfo vs (tally_at f i) = subst (λ (j : ℕ). Tallies p.it.datainfo vs (tally_at f j)) z (rw (← same) at x) in
          let w : Tallies p.it.datainfo (vs ++ set_by (table_of table) i e.event (step_from table s lent e).1) (tally_at f' i) =
          rw (own, is, observed_same f i (mark_of p.it.datainfo v) low) (figures_are_exact.more p.it.datainfo vs (tally_at f i) y v stored) in
          rw (z, ← same) w
      go k q t vs x false h =
          let n = eqb-false k i h in
          rw (others k n, append-nil vs, is, observed_other f i (mark_of p.it.datainfo v) low k n) x

of_same : {i k : ℕ} → Some i ≡ Some k → i ≡ k
of_same e = cc

of_nothing : {i : ℕ} → Some i ≡ None → ⊥
of_nothing e = let y : ◌≡◌ {A = ℕ} 0 1 = cc in omega arith

module _ {table : List ℕ} {e : Call} {s : State} {lent : List ℕ} {settings : Settings} {values : List ℕ} where
  nothing_set : {r : Option ℕ} → Settles table e s lent settings values r → r ≡ None
      → (j : ℕ) → set_by (table_of table) j e.event (step_from table s lent e).1 ≡ []
  nothing_set (settles_none h) n = h
  nothing_set (settles_one i p v x y w) n = absurd (of_nothing n)

  one_shown : {r : Option ℕ} → Settles table e s lent settings values r → (k : ℕ) → r ≡ Some k → Shown table settings values k
  one_shown (settles_none h) k n = absurd (of_nothing (sym n))
  one_shown (settles_one i p v x y w) k n = record { p = p; v = v; shows = subst (λ (j : ℕ). Shows table settings values j p v) (of_same n) x }

  one_set : {f : Figures} → Bounded f → {r : Option ℕ} → Settles table e s lent settings values r → (k : ℕ) → r ≡ Some k → (f' : Figures)
      → Notes table settings values k f f' → Figured table s lent e f f'
  one_set b (settles_none h) k n f' o = absurd (of_nothing (sym n))
  one_set {f} b (settles_one i p v x y w) k n f' o =
      let same = of_same n in
      set_figured table e s lent f f' i p v b x.low x.there x.stored
      ((subst (λ (j : ℕ). Notes table settings values j f f') (sym same) o).is p v x).is y w

-- ## The code's ways

module _ (table : List ℕ) (h : Head) (values outbox : List ℕ) (d : Done) (f : Figures) (b : Bounded f) where
  pub counts_refused : (d.number ≡ 0 → ⊥) → Counts table h values outbox d f f
  counts_refused n =
      record {
        is = λ s lent room bs x. quiet_figured table _ s lent f (single_refused table s lent room (entry_of h bs) d values outbox x n);
        bounded = b;
      }

  module _ (z : d.number ≡ 0) (r : Option ℕ) (c : r ≡ chosen_by h.kind h.number d.written outbox) where
    found : (s : State) (lent room bs : List ℕ) → Single table s lent room (entry_of h bs) d values outbox
        → Settles table (call_for (length lent) (length room) (entry_of h bs)) s lent d.state.settings values r
    found s lent room bs x = rw c (single_settles table s lent room (entry_of h bs) d values outbox x z)

    pub counts_nothing : r ≡ None → Counts table h values outbox d f f
    counts_nothing n =
        record {
          is = λ s lent room bs x. quiet_figured table _ s lent f (nothing_set (found s lent room bs x) n);
          bounded = b;
        }

    pub chosen_shown : (k : ℕ) → r ≡ Some k → Made table h values outbox d → Shown table d.state.settings values k
    chosen_shown k n m = one_shown (found m.state m.lent m.room m.offered m.single) k n

    pub counts_set : (k : ℕ) → r ≡ Some k → Made table h values outbox d → (f' : Figures) → Notes table d.state.settings values k f f'
        → Counts table h values outbox d f f'
    counts_set k n m f' o =
        let w = chosen_shown k n m in
        record {
          is = λ s lent room bs x. one_set b (found s lent room bs x) k n f' o;
          bounded = (o.is w.p w.v w.shows).bounded;
        }

pub made : {table : List ℕ} {s : State} {values outbox : List ℕ} {h : Head} {bs : List ℕ} {d : Done} {values' outbox' : List ℕ}
    → Inner.Calls table s values outbox h bs d values' outbox' → Made table h values' outbox' d
made {s} {values} {outbox} {bs} c = record { state = s; lent = values; room = outbox; offered = bs; single = c.single }

pub none_kept : {f : Figures} → f ≡ record { tallies = replicate 64 no_settings } → (k : ℕ) → tally_at f k ≡ no_settings
none_kept e k = ap (λ (g : Figures). tally_at g k) e ∙ none_anywhere 64 k
