-- Laws of the parameters' lines: one by its positions, and all of them in table order. Assumes nothing.
use Rattle.std.specs.Prelude.{Option, Some, None, slice_get}
use Prim.Native.Nat.{ℕ, suc, ◌+◌, ◌*◌, ◌≤◌, ◌<◌}
use native.Mathlib.Nat.{zero-add, add-zero}
use native.Mathlib.Numerals.{add-one}
use native.Mathlib.Omega.{arith}
use mathlib.Core.Bool.{cond, false}
use mathlib.Core.List.{List, [], ◌∷◌, ◌++◌}
use mathlib.Core.Path.{◌≡◌, refl, sym, ap, subst, ◌∙◌}
use lib.Dec.{eqb}
use lib.ListN.{length, get_or, drop, length-append}
use Rattle.ascii.specs.Text.{bytes}
use Rattle.ascii.specs.Clauses.Writer.{Puts}
use Rattle.message.specs.Error.{Fault, HardwareError, CommunicationFailed, ReadFailed, OutOfRange, fault_name, fault_of}
use Rattle.message.specs.Reply.{Held, valued, failed, held_as}
use Rattle.table.specs.Table.{Parameter}
use Rattle.table.specs.Layout.{table_of}
use Rattle.table.specs.Search.{Placed, parameters_of, parameters}
use Rattle.table.specs.Clauses.At.{bytes_of, parameter_of}
use Rattle.table.specs.declared.layout.ParameterAt.{ParameterAt}
use Rattle.table.proofs.Places.{initial_lies}
use Rattle.search.specs.declared.cursor.Cursor.{Cursor}
use Rattle.search.specs.Clauses.Left.{placed, OnWay, FirstCursor, NextParameterIs}
use Rattle.search.specs.Clauses.Found.{ParameterNumbered}
use Rattle.search.proofs.Finds.{Counted, counted_parameters, number_end, number_is_lem, number_on}
use Rattle.report.specs.Judge.{table_number}
use Rattle.plain.specs.Node as Node
use Rattle.plain.specs.Node.{Value, none_open}
use Rattle.sound.specs.Theorems.{Sound}
use Rattle.sound.proofs.Accepted.{accepted}
use Rattle.sound.proofs.Records.{Small, Fine, name_short}
use Rattle.sound.proofs.Steps.{fine}
use Rattle.state.specs.declared.Settings.{Settings}
use Rattle.state.specs.declared.State.{State}
use Rattle.state.specs.View.{stored_text, shown, shown_bytes, value_at}
use Rattle.state.specs.Fit.{settings_unfit, is_unfit}
use Rattle.ascii.proofs.Lists.{neither}
use Rattle.state.proofs.Settled.{each_fit, fit_parts}
use Rattle.state.proofs.Stands.{was_read, value_held}
use Rattle.fitness.proofs.Whole.{drop_there, past_64}
use Rattle.summary.specs.Summary.{held_text, value_line, value_lines}
use Rattle.summary.specs.Clauses.Lines.{line_at, Writable}
use Rattle.summary.specs.Clauses.Tells.{Told}
use Rattle.summary.proofs.Texts.{line_length, Going, going_start, going_room, going_on, going_end, going_length}

-- ## One parameter

-- what the code has for the names and for the value
module _ (table : List ℕ) (s : Settings) (values out : List ℕ) (at k : ℕ) (q : ParameterAt) (e : Cursor)
    (m a v : List ℕ) (o : Option Fault) (hm : m ≡ bytes_of table e.name) (ha : a ≡ bytes_of table q.name)
    (hv : v ≡ shown_bytes table s values k q.initial) (ho : o ≡ fault_of (get_or s.error k 0)) where
  same_line : line_at table s values k q e ≡ value_line m a (held_text (held_as o v))
  unfolding line_at
  same_line = rw (hm, ha, hv, ho)

  pub shown_room : Writable table s values out at k q e → at + length (value_line m a (held_text (held_as o v))) ≤ length out
  shown_room g = rw same_line at g.room

  pub shown_put : {f : List ℕ} {p : ℕ} → Puts out at (value_line m a (held_text (held_as o v))) f p → Puts out at (line_at table s values k q e) f p
  shown_put x = rw same_line x

-- a line is short, if names and value are
held_short : (h : Held) → Small h → length (held_text h) ≤ 256
unfolding held_text fault_name bytes
held_short (valued v) s = s
held_short (failed HardwareError) s = omega arith
held_short (failed CommunicationFailed) s = omega arith
held_short (failed ReadFailed) s = omega arith
held_short (failed OutOfRange) s = omega arith

line_short : (p : Placed Parameter) (v : Value) → Fine (Node.report_of p v)
    → length (value_line p.module_name p.it.name (held_text v.held)) ≤ 385
line_short p v f =
    let m = name_short p.module_name f.names.0 in
    let a = name_short p.it.name f.names.1 in
    let l = line_length p.module_name p.it.name (held_text v.held) in
    let x = held_short v.held f.small in
    omega arith

lines_short : (values : ℕ → Value) (k : ℕ) (ps : List (Placed Parameter))
    → ((j : ℕ) (p : Placed Parameter) → slice_get ps j ≡ Some p → Fine (Node.report_of p (values (k + j)))) → length (value_lines values k ps) ≤ length ps * 385
unfolding value_lines
lines_short values k [] h = omega arith
lines_short values k (p ∷ ps) h =
    let here : Fine (Node.report_of p (values k)) = rw add-zero at (h 0 p refl) in
    let a = line_short p (values k) here in
    let b = lines_short values (suc k) ps λ j q e. subst (λ i. Fine (Node.report_of q (values i))) (omega arith) (h (suc j) q e) in
    omega (arith, length-append (value_line p.module_name p.it.name (held_text (values k).held)) (value_lines values (suc k) ps))

-- ## All parameters

module _ (table : List ℕ) (s : Settings) (values : List ℕ) where
  -- the values that are shown
  abbrev shown_at : ℕ → Value
  shown_at k = value_at table s values k (slice_get (parameters (table_of table)) k)

  abbrev pub every : List ℕ
  every = value_lines shown_at 0 (parameters (table_of table))

  -- the lines of the parameters from number k on
  abbrev left : ℕ → List ℕ
  left k = value_lines shown_at k (drop k (parameters (table_of table)))

  -- those of the first k parameters are written, and the cursor is past these
  pub record Sent (d : List ℕ) (k : ℕ) (i : Cursor) (e : List ℕ) (p : ℕ) : Type 0 where
    pub counted : Counted parameters_of parameters table k i
    pub going : Going d 0 every (left k) e p

  pub sent_start : (d : List ℕ) (i : Cursor) → FirstCursor table i → Sent d 0 i d 0
  sent_start d i f = record { counted = counted_parameters table i f; going = going_start d 0 every }

  module _ (d : List ℕ) (k : ℕ) (i : Cursor) (e : List ℕ) (p : ℕ) (h : Sent d k i e p) where
    pub sent_way : OnWay table i
    sent_way = h.counted.way

    pub sent_length : length e ≡ length d
    sent_length = going_length h.going

    none_left : drop k (parameters (table_of table)) ≡ [] → Puts d 0 every e p
    unfolding value_lines
    none_left z = going_end (rw z at h.going)

    pub sent_all : table_number table ≡ 0 → 64 ≤ k → Puts d 0 every e p
    sent_all a l = none_left (past_64 table a k l)

    module _ (r : Option (ParameterAt × Cursor)) (hr : NextParameterIs table i r) where
      pub sent_end : r ≡ None → Puts d 0 every e p
      sent_end z = none_left (number_end table k k i h.counted r hr z)

      module _ (q : ParameterAt) (n : Cursor) (z : r ≡ Some (q, n)) (a : table_number table ≡ 0) where
        number : ParameterNumbered table k q n
        number = number_is_lem table k k i h.counted r hr q n z refl

        abbrev it : Placed Parameter
        it = placed table n (parameter_of table q number.held.datainfo)

        there : slice_get (parameters (table_of table)) k ≡ Some it
        there = number.is

        held_is : (shown_at k).held
            ≡ held_as (fault_of (get_or s.error k 0)) (cond (eqb (get_or s.length k 0) 0) it.it.initial (stored_text s values k))
        unfolding value_at shown
        held_is =
            ap (λ x. (value_at table s values k x).held) there
            ∙ ap (λ (l : List ℕ). held_as (fault_of (get_or s.error k 0)) (cond (eqb (get_or s.length k 0) 0) l (stored_text s values k)))
            (initial_lies table (table_of table) (was_read table a) k it there)

        abbrev own : List ℕ
        own = line_at table s values k q n

        line_is : value_line it.module_name it.it.name (held_text (shown_at k).held) ≡ own
        unfolding line_at shown_bytes parameter_of
        line_is = ap (λ (h : Held). value_line it.module_name it.it.name (held_text h)) held_is

        step : left k ≡ own ++ left (k + 1)
        unfolding value_lines
        step =
            ap (value_lines shown_at k) (drop_there k (parameters (table_of table)) it there)
            ∙ ap (λ (x : List ℕ). x ++ value_lines shown_at (suc k) (drop (k + 1) (parameters (table_of table)))) line_is
            ∙ ap (λ (j : ℕ). own ++ value_lines shown_at j (drop (k + 1) (parameters (table_of table)))) (sym (add-one k))

        next : Going d 0 every (own ++ left (k + 1)) e p
        next = rw step at h.going

        pub sent_on : (f : List ℕ) (t : ℕ) → Puts e p own f t → Sent d (k + 1) n f t
        sent_on f t x = record { counted = number_on table k k i h.counted r hr q n z; going = going_on own (left (k + 1)) next x }

        own_shows : 0 + length every ≤ length d → settings_unfit s values 0 (parameters (table_of table)) ≡ false → 16384 ≤ length values → k < 64
            → Writable table s values e p k q n
        own_shows l u v y =
            record {
              low = y;
              short = (fit_parts s values k it (each_fit s values (parameters (table_of table)) u k it there)).short;
              area = v;
              held = number.held;
              fits = number.fits;
              room = going_room own (left (k + 1)) next l;
            }

-- all lines have room, since the values are those of a sound node; its clients don't matter here
module _ (table : List ℕ) (s : State) (values : List ℕ) (d : List ℕ) (g : Told table s values d) where
  fit : settings_unfit s.settings values 0 (parameters (table_of table)) ≡ false
  unfolding is_unfit
  fit = (neither (settings_unfit s.settings values 0 (parameters (table_of table))) _ g.fit).0

  abbrev node : Node.Node
  node = none_open (shown_at table s.settings values)

  sound : Sound (table_of table) node
  sound =
      record {
        values = value_held table g.accepted s values fit;
        clients = λ i. tt;
        above = λ i l. refl;
        counts = λ i. (omega arith, (omega arith, omega arith));
      }

  fine_at : (j : ℕ) (x : Placed Parameter) → slice_get (parameters (table_of table)) j ≡ Some x → Fine (Node.report_of x (shown_at table s.settings values j))
  fine_at j x y = fine (table_of table) (accepted table g.accepted) node sound j x y (node.values j) (sound.values j x y)

  pub every_short : length (every table s.settings values) ≤ 24640
  every_short =
      let w = lines_short (shown_at table s.settings values) 0 (parameters (table_of table)) (λ j x y. rw zero-add (fine_at j x y)) in
      let f = (accepted table g.accepted).few in
      omega arith

  pub next_shows : (k : ℕ) (i : Cursor) (e : List ℕ) (p : ℕ) → Sent table s.settings values d k i e p → (r : Option (ParameterAt × Cursor)) → NextParameterIs table i r
      → (q : ParameterAt) (n : Cursor) → r ≡ Some (q, n) → k < 64 → Writable table s.settings values e p k q n
  next_shows k i e p h r hr q n z y =
      let l = every_short in
      let w = g.room in
      own_shows table s.settings values d k i e p h r hr q n z g.accepted (omega arith) fit g.area y
