-- What a parameter shows is noted. Assumes nothing.
use Rattle.std.specs.Prelude.{Option, Some, None}
use Prim.Native.Nat.{ℕ, ◌+◌, ◌-◌, ◌*◌}
use mathlib.Core.Bool.{cond}
use mathlib.Core.List.{List}
use mathlib.Core.Logic.{◌⊎◌, inl, inr}
use mathlib.Core.Path.{◌≡◌, sym, ap, subst, ◌∙◌}
use lib.Dec.{eqb}
use lib.ListN.{get_or, take, drop}
use borrow.Author.Tests.{eq-eqb, ne_eqb}
use Rattle.ascii.specs.Bytes.{head}
use Rattle.fit.proofs.Shapes.{just, nothing}
use Rattle.table.specs.Table.{Parameter}
use Rattle.table.specs.Layout.{table_of, Readable}
use Rattle.table.specs.Search.{Placed}
use Rattle.table.specs.Clauses.At.{parameter_of}
use Rattle.table.specs.declared.layout.ParameterAt.{ParameterAt}
use Rattle.table.proofs.Places.{initial_lies}
use Rattle.search.specs.declared.cursor.Cursor.{Cursor}
use Rattle.search.specs.Clauses.Left.{placed}
use Rattle.search.specs.Clauses.Found.{ParameterNumbered, NumberedParameter}
use Rattle.report.proofs.Faults.{accepted_readable}
use Rattle.figures.specs.declared.Figures.{Figures}
use Rattle.figures.specs.Clauses.Tally.{mark_of, SetTo, Marks, Observes}
use Rattle.state.specs.declared.Settings.{Settings}
use Rattle.state.specs.View.{shown, shown_bytes, stored_text}
use Rattle.state.proofs.Settled.{shows_initial, shows_stored}
use Rattle.state.proofs.Stands.{was_read}
use Rattle.trace.specs.declared.Kind.{Kind}
use Rattle.trace.specs.declared.Kind.TheVariants.{Opening, Closing, Piece, Reading, Unreadable}
use Rattle.replay.specs.Clauses.Figured.{order_in, chosen_by, Shows, Shown, Markable, Notes}

-- ## Which parameter

module _ (xs : List ℕ) (a : ℕ) (ha : a ≡ head xs) where
  pub order_not : (a ≡ 68 → ⊥) → None ≡ order_in xs
  unfolding order_in
  order_not n = rw (ne_eqb (head xs) 68 (λ z. n (ha ∙ z)))

  module _ (b : ℕ) (hb : b ≡ head (drop 1 xs)) (y : a ≡ 68) where
    pub order_other : (b ≡ 82 → ⊥) → None ≡ order_in xs
    unfolding order_in
    order_other n = rw (eq-eqb (head xs) 68 (sym ha ∙ y), ne_eqb (head (drop 1 xs)) 82 (λ z. n (hb ∙ z)))

    pub order_is : (c : ℕ) → b ≡ 82 → c ≡ head (drop 5 xs) → Some c ≡ order_in xs
    unfolding order_in
    order_is c z e = rw (eq-eqb (head xs) 68 (sym ha ∙ y), eq-eqb (head (drop 1 xs)) 82 (sym hb ∙ z), e)

module _ (k : Kind) (p n : ℕ) (xs : List ℕ) where
  pub by_another : (k ≡ Opening) ⊎ ((k ≡ Closing) ⊎ (k ≡ Unreadable)) → None ≡ chosen_by k p n xs
  unfolding chosen_by
  by_another (inl e) = rw e
  by_another (inr (inl e)) = rw e
  by_another (inr (inr e)) = rw e

  pub by_reading : k ≡ Reading → Some p ≡ chosen_by k p n xs
  unfolding chosen_by
  by_reading e = rw e

  pub by_silence : k ≡ Piece → n ≡ 0 → None ≡ chosen_by k p n xs
  unfolding chosen_by
  by_silence e z = rw (e, eq-eqb n 0 z)

  pub by_order : (r : Option ℕ) → k ≡ Piece → (n ≡ 0 → ⊥) → r ≡ order_in xs → r ≡ chosen_by k p n xs
  unfolding chosen_by
  by_order r e z h = rw (e, ne_eqb n 0 z) h

-- ## What it shows

module _ (table : List ℕ) (s : Settings) (values : List ℕ) (k : ℕ) (q : ParameterAt) (m : Markable table s values k q) where
  pub mark_initial : get_or s.length k 0 ≡ 0 → SetTo table q.info (take (q.initial.to - q.initial.from) (drop q.initial.from table))
  mark_initial e = rw (shows_initial table s values q.initial k e) m.set

  pub marks_initial : get_or s.length k 0 ≡ 0 → (r : ℕ) → Marks table q.info (take (q.initial.to - q.initial.from) (drop q.initial.from table)) r
      → Marks table q.info (shown_bytes table s values k q.initial) r
  marks_initial e r x = rw (← shows_initial table s values q.initial k e) x

  module _ (n : get_or s.length k 0 ≡ 0 → ⊥) where
    pub mark_stored : SetTo table q.info (take ((256 * k + get_or s.length k 0) - 256 * k) (drop (256 * k) values))
    mark_stored = rw (shows_stored table s values q.initial k n) m.set

    pub marks_stored : (r : ℕ) → Marks table q.info (take ((256 * k + get_or s.length k 0) - 256 * k) (drop (256 * k) values)) r
        → Marks table q.info (shown_bytes table s values k q.initial) r
    marks_stored r x = rw (← shows_stored table s values q.initial k n) x

module _ (table : List ℕ) (s : Settings) (values : List ℕ) (k : ℕ) (x : Shown table s values k) where
  pub note_table : Readable table
  note_table = accepted_readable table x.shows.accepted

  module _ (r : Option (ParameterAt × Cursor)) (h : NumberedParameter table k r) where
    pub note_none : r ≡ None → (f : Figures) → Notes table s values k f f
    note_none e f = absurd (nothing (sym (rw e at h) ∙ x.shows.there))

    module _ (q : ParameterAt) (c : Cursor) (e : r ≡ Some (q, c)) where
      number : ParameterNumbered table k q c
      number = rw e at h

      abbrev it : Placed Parameter
      it = placed table c (parameter_of table q number.held.datainfo)

      same_shown : shown table s values k it.it ≡ shown_bytes table s values k q.initial
      unfolding shown shown_bytes parameter_of
      same_shown =
          ap (λ (l : List ℕ). cond (eqb (get_or s.length k 0) 0) l (stored_text s values k))
          (initial_lies table (table_of table) (was_read table x.shows.accepted) k it number.is)

      module _ (p : Placed Parameter) (v : List ℕ) (y : Shows table s values k p v) where
        same : p ≡ it
        same = just (sym y.there ∙ number.is)

        info_same : p.it.datainfo ≡ number.held.datainfo
        unfolding parameter_of
        info_same = ap (λ (z : Placed Parameter). z.it.datainfo) same

        bytes_same : shown_bytes table s values k q.initial ≡ v
        bytes_same = sym same_shown ∙ ap (λ (z : Placed Parameter). shown table s values k z.it) (sym same) ∙ y.is

      pub note_markable : Markable table s values k q
      note_markable =
          let y = x.shows in
          record {
            low = y.low;
            short = y.short;
            area = y.area;
            initial = number.held.initial;
            set =
                record {
                  within = number.held.info_within;
                  datainfo = number.held.datainfo;
                  left = number.held.left;
                  reads = number.held.info;
                  stored = rw (bytes_same x.p x.v y, ← info_same x.p x.v y) y.stored;
                };
          }

      pub note_observes : (mark : ℕ) → Marks table q.info (shown_bytes table s values k q.initial) mark → (f g : Figures) → Observes f k mark g
          → Notes table s values k f g
      note_observes mark m f g o =
          record {
            is = λ p v y.
                let e : mark ≡ mark_of p.it.datainfo v =
                m.is number.held.info ∙ ap (mark_of number.held.datainfo) (bytes_same p v y) ∙ ap (λ d. mark_of d v) (sym (info_same p v y)) in
                subst (λ (n : ℕ). Observes f k n g) e o;
          }
