-- Laws of updates of parameters to one client: one parameter's update by its positions, and all of them in table order. Assumes nothing.
use Rattle.std.specs.Prelude.{Option, Some, None, slice_get}
use Prim.Native.Nat.{ℕ, suc, ◌+◌, ◌-◌, ◌≤◌, ◌<◌}
use native.Mathlib.Nat.{zero-add}
use native.Mathlib.Numerals.{add-one}
use native.Mathlib.Omega.{arith}
use mathlib.Core.Bool.{Bool, true, false, cond, not}
use mathlib.Core.List.{List, [], ◌∷◌, ◌++◌}
use mathlib.Core.Path.{◌≡◌, refl, sym, ap, subst, ◌∙◌}
use lib.Dec.{eqb}
use lib.ListN.{length, get_or, drop, length-append}
use borrow.Author.Tests.{not-true, not-false}
use Rattle.ascii.specs.Clauses.Writer.{Puts}
use Rattle.ascii.specs.Text.{bytes}
use Rattle.message.specs.Error.{Fault, fault_of}
use Rattle.message.specs.Reply.{held_as, DataReport}
use Rattle.message.specs.Clauses.Said.{report_of}
use Rattle.outbox.specs.Outbox.{Record, update, body, encode, encode_all}
use Rattle.outbox.specs.Clauses.Written.{RoomFor}
use Rattle.table.specs.Table.{Parameter}
use Rattle.table.specs.Layout.{table_of}
use Rattle.table.specs.Search.{Placed, parameters_of, parameters}
use Rattle.table.specs.Clauses.At.{bytes_of, parameter_of}
use Rattle.table.specs.declared.layout.ParameterAt.{ParameterAt}
use Rattle.table.proofs.Places.{initial_lies}
use Rattle.search.specs.declared.cursor.Cursor.{Cursor}
use Rattle.search.specs.Clauses.Left.{placed, OnWay, FirstCursor, NextParameterIs}
use Rattle.search.specs.Clauses.Found.{ParameterNumbered}
use Rattle.search.proofs.Finds.{Counted, counted_parameters, number_end, number_is_lem, number_on}
use Rattle.report.specs.Judge.{table_number}
use Rattle.plain.specs.Node as Node
use Rattle.plain.specs.Node.{Value, updates_of, holding, none_open}
use Rattle.sound.specs.Theorems.{Sound}
use Rattle.sound.proofs.Accepted.{accepted}
use Rattle.sound.proofs.Records.{Fine, update_short, written_of}
use Rattle.sound.proofs.Steps.{fine}
use Rattle.sound.proofs.Room.{encode_one, puts_none}
use Rattle.state.specs.declared.Settings.{Settings}
use Rattle.state.specs.declared.State.{State}
use Rattle.state.specs.View.{stored_text, shown, shown_bytes, value_at}
use Rattle.state.specs.Fit.{settings_unfit, is_unfit}
use Rattle.ascii.proofs.Lists.{neither}
use Rattle.state.proofs.Settled.{each_fit, fit_parts}
use Rattle.state.proofs.Stands.{was_read, value_held}
use Rattle.fitness.proofs.Whole.{drop_there, past_64}
use Rattle.outcome.specs.Clauses.Ready.{Ready}
use Rattle.update.specs.declared.Scope.{Scope}
use Rattle.update.specs.Clauses.Scope.{wanted}
use Rattle.update.specs.Clauses.Updatable.{shown_report, Updatable}
use Rattle.update.proofs.Sendings.{Going, going_start, going_room, going_on, going_end, going_length}

-- ## One parameter

-- one update, if the scope has the module that is the latest at e
abbrev pub update_if : Scope → ℕ → Cursor → DataReport → List Record
update_if scope c e r = cond (wanted scope (e.modules - 1)) (update c r ∷ []) []

module _ (table : List ℕ) (s : Settings) (values out : List ℕ) (at c : ℕ) (scope : Scope) (k : ℕ) (q : ParameterAt) (e : Cursor)
    (b : Bool) (h : b ≡ wanted scope (e.modules - 1)) where
  pub unwanted : not b ≡ true → Puts out at (encode_all (update_if scope c e (shown_report table s values k q e))) out at
  unwanted z = rw (← h, not-true b z) (puts_none out)

  -- what the code has for the names and for the value
  module _ (z : not b ≡ false) (m a v : List ℕ) (o : Option Fault) (hm : m ≡ bytes_of table e.name) (ha : a ≡ bytes_of table q.name)
      (hv : v ≡ shown_bytes table s values k q.initial) (ho : o ≡ fault_of (get_or s.error k 0)) where
    same_report : shown_report table s values k q e ≡ report_of m a (held_as o v) (get_or s.time k 0)
    unfolding shown_report
    same_report = rw (hm, ha, hv, ho)

    pub shown_room : Updatable table s values out at c scope k q e → RoomFor out at (update c (report_of m a (held_as o v) (get_or s.time k 0)))
    shown_room g = rw same_report at (g.room (sym h ∙ not-false b z))

    pub shown_put : {f : List ℕ} {p : ℕ} → Puts out at (encode (update c (report_of m a (held_as o v) (get_or s.time k 0)))) f p
        → Puts out at (encode_all (update_if scope c e (shown_report table s values k q e))) f p
    shown_put x = rw (← h, not-false b z, encode_one (update c (shown_report table s values k q e)), same_report) x

-- room for the update of a fine report
fine_room : (d : List ℕ) (at c : ℕ) (r : DataReport) → Fine r → at + length (encode_all (update c r ∷ [])) ≤ length d → RoomFor d at (update c r)
unfolding body bytes
fine_room d at c r f h = record { fits = rw (encode_one (update c r)) at h; short = simp length-append (omega (arith, update_short r f)) }

-- ## All parameters

module _ (table : List ℕ) (s : Settings) (values : List ℕ) (c : ℕ) (scope : Scope) where
  -- the values that are shown
  abbrev shown_at : ℕ → Value
  shown_at k = value_at table s values k (slice_get (parameters (table_of table)) k)

  abbrev every : List Record
  every = updates_of c (wanted scope) shown_at 0 (parameters (table_of table))

  -- those of the parameters from number k on
  abbrev left : ℕ → List Record
  left k = updates_of c (wanted scope) shown_at k (drop k (parameters (table_of table)))

  -- those of the first k parameters are written, and the cursor is past these
  pub record Sent (d : List ℕ) (k : ℕ) (i : Cursor) (e : List ℕ) (p : ℕ) : Type 0 where
    pub counted : Counted parameters_of parameters table k i
    pub going : Going d 0 every (left k) e p

  pub sent_start : (d : List ℕ) (i : Cursor) → FirstCursor table i → Sent d 0 i d 0
  sent_start d i f = record { counted = counted_parameters table i f; going = going_start d 0 every }

  module _ (d : List ℕ) (k : ℕ) (i : Cursor) (e : List ℕ) (p : ℕ) (h : Sent d k i e p) where
    pub sent_way : OnWay table i
    sent_way = h.counted.way

    pub sent_length : length e ≡ length d
    sent_length = going_length h.going

    none_left : drop k (parameters (table_of table)) ≡ [] → Puts d 0 (encode_all every) e p
    unfolding updates_of
    none_left z = going_end (rw z at h.going)

    pub sent_all : table_number table ≡ 0 → 64 ≤ k → Puts d 0 (encode_all every) e p
    sent_all a l = none_left (past_64 table a k l)

    module _ (r : Option (ParameterAt × Cursor)) (hr : NextParameterIs table i r) where
      pub sent_end : r ≡ None → Puts d 0 (encode_all every) e p
      sent_end z = none_left (number_end table k k i h.counted r hr z)

      module _ (q : ParameterAt) (n : Cursor) (z : r ≡ Some (q, n)) (a : table_number table ≡ 0) where
        number : ParameterNumbered table k q n
        number = number_is_lem table k k i h.counted r hr q n z refl

        abbrev it : Placed Parameter
        it = placed table n (parameter_of table q number.held.datainfo)

        there : slice_get (parameters (table_of table)) k ≡ Some it
        there = number.is

        value_is : shown_at k
            ≡ holding (held_as (fault_of (get_or s.error k 0)) (cond (eqb (get_or s.length k 0) 0) it.it.initial (stored_text s values k))) (get_or s.time k 0)
        unfolding value_at shown
        value_is =
            ap (value_at table s values k) there
            ∙ ap (λ (l : List ℕ). holding (held_as (fault_of (get_or s.error k 0)) (cond (eqb (get_or s.length k 0) 0) l (stored_text s values k))) (get_or s.time k 0))
            (initial_lies table (table_of table) (was_read table a) k it there)

        abbrev own : DataReport
        own = shown_report table s values k q n

        report_is : Node.report_of it (shown_at k) ≡ own
        unfolding shown_report shown_bytes parameter_of
        report_is = ap (λ (v : Value). Node.report_of it v) value_is

        step : left k ≡ update_if scope c n own ++ left (k + 1)
        unfolding updates_of
        step =
            ap (updates_of c (wanted scope) shown_at k) (drop_there k (parameters (table_of table)) it there)
            ∙ ap (λ (x : DataReport). update_if scope c n x ++ updates_of c (wanted scope) shown_at (suc k) (drop (k + 1) (parameters (table_of table)))) report_is
            ∙ ap (λ (j : ℕ). update_if scope c n own ++ updates_of c (wanted scope) shown_at j (drop (k + 1) (parameters (table_of table)))) (sym (add-one k))

        next : Going d 0 every (update_if scope c n own ++ left (k + 1)) e p
        next = rw step at h.going

        pub sent_on : (f : List ℕ) (t : ℕ) → Puts e p (encode_all (update_if scope c n own)) f t → Sent d (k + 1) n f t
        sent_on f t x = record { counted = number_on table k k i h.counted r hr q n z; going = going_on (update_if scope c n own) (left (k + 1)) next x }

        -- if all of them are fine and have room, so has the next
        own_shows : ((j : ℕ) (x : Placed Parameter) → slice_get (parameters (table_of table)) j ≡ Some x → Fine (Node.report_of x (shown_at j)))
            → 0 + length (encode_all every) ≤ length d → settings_unfit s values 0 (parameters (table_of table)) ≡ false → 16384 ≤ length values → k < 64
            → Updatable table s values e p c scope k q n
        own_shows f l u v y =
            record {
              low = y;
              short = (fit_parts s values k it (each_fit s values (parameters (table_of table)) u k it there)).short;
              area = v;
              held = number.held;
              fits = number.fits;
              begun = number.begun;
              room = λ w.
                  fine_room e p c own (subst Fine report_is (f k it there))
                  (rw w at (going_room (update_if scope c n own) (left (k + 1)) next l));
            }

-- all updates have room, since the values are those of a sound node; its clients don't matter here
module _ (table : List ℕ) (s : State) (values : List ℕ) (c : ℕ) (scope : Scope) (d : List ℕ) (g : Ready table s values d c) where
  fit : settings_unfit s.settings values 0 (parameters (table_of table)) ≡ false
  unfolding is_unfit
  fit = (neither (settings_unfit s.settings values 0 (parameters (table_of table))) _ g.fit).0

  abbrev node : Node.Node
  node = none_open (shown_at table s.settings values c scope)

  sound : Sound (table_of table) node
  sound =
      record {
        values = value_held table g.lent.accepted s values fit;
        clients = λ i. tt;
        above = λ i l. refl;
        counts = λ i. (omega arith, (omega arith, omega arith));
      }

  fine_at : (j : ℕ) (x : Placed Parameter) → slice_get (parameters (table_of table)) j ≡ Some x → Fine (Node.report_of x (shown_at table s.settings values c scope j))
  fine_at j x y = fine (table_of table) (accepted table g.lent.accepted) node sound j x y (node.values j) (sound.values j x y)

  all_room : 0 + length (encode_all (every table s.settings values c scope)) ≤ length d
  all_room =
      let w = (written_of c (wanted scope) (shown_at table s.settings values c scope) 0 (parameters (table_of table)) (λ j x y. rw zero-add (fine_at j x y))).short in
      let f = (accepted table g.lent.accepted).few in
      let l = g.lent.room in
      omega arith

  pub next_shows : (k : ℕ) (i : Cursor) (e : List ℕ) (p : ℕ) → Sent table s.settings values c scope d k i e p → (r : Option (ParameterAt × Cursor)) → NextParameterIs table i r
      → (q : ParameterAt) (n : Cursor) → r ≡ Some (q, n) → k < 64 → Updatable table s.settings values e p c scope k q n
  next_shows k i e p h r hr q n z y =
      own_shows table s.settings values c scope d k i e p h r hr q n z g.lent.accepted fine_at all_room fit g.area y
