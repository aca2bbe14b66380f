-- Laws of the figures' lines: all of them in table order, and their lengths. Assumes nothing.
use Rattle.std.specs.Prelude.{Option, Some, None, slice_get}
use Prim.Native.Nat.{ℕ, suc, ◌+◌, ◌*◌, ◌≤◌, ◌<◌}
use native.Mathlib.Numerals.{add-one}
use native.Mathlib.Omega.{arith}
use mathlib.Core.Bool.{Bool}
use mathlib.Core.List.{List, [], ◌∷◌, ◌++◌, append_assoc, append-nil}
use mathlib.Core.Path.{◌≡◌, refl, sym, ap, ap₂, ◌∙◌}
use lib.ListN.{length, drop, length-append}
use Rattle.ascii.specs.Clauses.Writer.{Puts}
use Rattle.emit.specs.Clauses.Emitted.{Emits}
use Rattle.emit.proofs.Pieces.{both, nothing}
use Rattle.table.specs.Table.{Parameter}
use Rattle.table.specs.Layout.{table_of}
use Rattle.table.specs.Search.{Placed, parameters_of, parameters}
use Rattle.table.specs.Clauses.At.{bytes_of, parameter_of}
use Rattle.table.specs.declared.layout.ParameterAt.{ParameterAt}
use Rattle.search.specs.declared.cursor.Cursor.{Cursor}
use Rattle.search.specs.Clauses.Left.{placed, OnWay, FirstCursor, NextParameterIs, ParameterIn}
use Rattle.search.specs.Clauses.Found.{ParameterNumbered}
use Rattle.search.proofs.Finds.{Counted, counted_parameters, number_end, number_is_lem, number_on}
use Rattle.report.specs.Judge.{table_number}
use Rattle.sound.proofs.Lists.{Each}
use Rattle.sound.proofs.Accepted.{GoodParameter, accepted}
use Rattle.sound.proofs.Records.{name_short}
use Rattle.fitness.proofs.Whole.{drop_there, past_64}
use Rattle.figures.specs.declared.Tally.{Tally}
use Rattle.figures.specs.declared.Figures.{Figures}
use Rattle.figures.specs.Figures.{is_summed, figure_line}
use Rattle.figures.specs.Clauses.Tally.{tally_at, tally_line, Bounded, Tallies, TellsSummed}
use Rattle.figures.proofs.Tallying.{figures_are_exact}
use Rattle.figures.proofs.Telling.{line_short}
use Rattle.summary.specs.Summary.{figure_lines}
use Rattle.summary.specs.Clauses.Figured.{tally_lines, figures_of, Placing, Tells, Tellable}

-- one line, by what the code has for the names and for whether there is more than a count
pub tells : (table : List ℕ) (f : Figures) (k : ℕ) (q : ParameterAt) (e : Cursor) (d g : List ℕ) (at r : ℕ) (m a : List ℕ) (s : Bool) (t : Tally)
    → m ≡ bytes_of table e.name → a ≡ bytes_of table q.name → TellsSummed table q.info s → t ≡ tally_at f k
    → Emits d at (tally_line m a s t) g r → Tells table f k q e d at g r
tells table f k q e d g at r m a s t hm ha hs ht x = record { is = λ h. rw (← hm, ← ha, ← hs.is h.info, ← ht) x }

-- ## All parameters

module _ (table : List ℕ) (f : Figures) where
  -- the lines of the parameters from number k on
  abbrev left : ℕ → List ℕ
  left k = tally_lines f k (drop k (parameters (table_of table)))

  -- those of the first k parameters are written, and the cursor is past these
  pub record Telling (d : List ℕ) (k : ℕ) (i : Cursor) (e : List ℕ) (p : ℕ) : Type 0 where
    pub counted : Counted parameters_of parameters table k i
    pub written : List ℕ
    pub emits : Emits d 0 written e p
    pub is : figures_of table f ≡ written ++ left k

  pub telling_start : (d : List ℕ) (i : Cursor) → FirstCursor table i → Telling d 0 i d 0
  telling_start d i h = record { counted = counted_parameters table i h; written = []; emits = nothing d 0 (omega arith); is = refl }

  module _ (d : List ℕ) (k : ℕ) (i : Cursor) (e : List ℕ) (p : ℕ) (h : Telling d k i e p) where
    pub telling_way : OnWay table i
    telling_way = h.counted.way

    pub telling_length : length e ≡ length d
    telling_length = h.emits.size

    none_left : drop k (parameters (table_of table)) ≡ [] → Emits d 0 (figures_of table f) e p
    unfolding tally_lines
    none_left z =
        let n : left k ≡ [] = ap (tally_lines f k) z in
        rw (h.is, n, append-nil h.written) h.emits

    module _ (t : Tellable table f d) where
      all_put : Emits d 0 (figures_of table f) e p → length (figures_of table f) ≤ 32768 → Puts d 0 (figures_of table f) e p × (p ≤ 32768)
      all_put x l = let u = x.puts (let w = t.room in omega arith) in (u, omega (arith, u.ends))

      pub telling_all : 64 ≤ k → length (figures_of table f) ≤ 32768 → Puts d 0 (figures_of table f) e p × (p ≤ 32768)
      telling_all l s = all_put (none_left (past_64 table t.accepted k l)) s

      module _ (r : Option (ParameterAt × Cursor)) (hr : NextParameterIs table i r) where
        pub telling_end : r ≡ None → length (figures_of table f) ≤ 32768 → Puts d 0 (figures_of table f) e p × (p ≤ 32768)
        telling_end z s = all_put (none_left (number_end table k k i h.counted r hr z)) s

        module _ (q : ParameterAt) (n : Cursor) (z : r ≡ Some (q, n)) where
          number : ParameterNumbered table k q n
          number = number_is_lem table k k i h.counted r hr q n z refl

          abbrev it : Placed Parameter
          it = placed table n (parameter_of table q number.held.datainfo)

          pub telling_placing : k < 64 → Placing table k q n
          telling_placing y = record { low = y; held = number.held; fits = number.fits }

          abbrev own : List ℕ
          own = tally_line (bytes_of table n.name) (bytes_of table q.name) (is_summed number.held.datainfo) (tally_at f k)

          step : left k ≡ own ++ left (k + 1)
          unfolding tally_lines parameter_of
          step =
              ap (tally_lines f k) (drop_there k (parameters (table_of table)) it number.is)
              ∙ ap (λ (j : ℕ). own ++ tally_lines f j (drop (k + 1) (parameters (table_of table)))) (sym (add-one k))

          pub telling_on : (g : List ℕ) (u : ℕ) → Tells table f k q n e p g u → Telling d (k + 1) n g u
          telling_on g u x =
              record {
                counted = number_on table k k i h.counted r hr q n z;
                written = h.written ++ own;
                emits = both h.emits (x.is number.held);
                is = h.is ∙ ap (λ (l : List ℕ). h.written ++ l) step ∙ sym (append_assoc h.written own (left (k + 1)));
              }

-- ## Lengths

lines_short : (f : Figures) → Bounded f → (k : ℕ) (ps : List (Placed Parameter)) → Each GoodParameter ps → length (tally_lines f k ps) ≤ length ps * 245
unfolding tally_lines
lines_short f b k [] h = omega arith
lines_short f b k (p ∷ ps) h =
    let m = name_short p.module_name h.0.0.0 in
    let a = name_short p.it.name h.0.0.1 in
    let x = line_short (tally_at f k) (b.all k) p.module_name p.it.name (is_summed p.it.datainfo) m a in
    let y = lines_short f b (suc k) ps h.1 in
    omega (arith, length-append (tally_line p.module_name p.it.name (is_summed p.it.datainfo) (tally_at f k)) (tally_lines f (suc k) ps))

pub figures_short : (table : List ℕ) (f : Figures) (d : List ℕ) → Tellable table f d → length (figures_of table f) ≤ 32768
figures_short table f d t =
    let x = lines_short f t.bounded 0 (parameters (table_of table)) (accepted table t.accepted).all_parameters in
    let y = (accepted table t.accepted).few in
    omega arith

-- ## What is kept tells what was set

same_lines_lem : (f : Figures) (sets : ℕ → List (List ℕ)) (k : ℕ) (ps : List (Placed Parameter))
    → ((j : ℕ) (p : Placed Parameter) → slice_get ps j ≡ Some p → Tallies p.it.datainfo (sets (k + j)) (tally_at f (k + j)))
    → tally_lines f k ps ≡ figure_lines sets k ps
unfolding tally_lines figure_lines
same_lines_lem f sets k [] h = refl
same_lines_lem f sets k (p ∷ ps) h =
    let zero_more : k + 0 ≡ k = omega arith in
    let here : Tallies p.it.datainfo (sets k) (tally_at f k) = rw zero_more at (h 0 p refl) in
    ap₂ ◌++◌ (figures_are_exact.told p.module_name p.it.name p.it.datainfo (sets k) (tally_at f k) here)
    (same_lines_lem f sets (suc k) ps λ j q e.
    let one_more_lem : k + suc j ≡ suc k + j = omega arith in
    rw one_more_lem at (h (suc j) q e))

pub figures_told : (table : List ℕ) (f : Figures) (sets : ℕ → List (List ℕ))
    → ((j : ℕ) (p : Placed Parameter) → slice_get (parameters (table_of table)) j ≡ Some p → Tallies p.it.datainfo (sets j) (tally_at f j))
    → figures_of table f ≡ figure_lines sets 0 (parameters (table_of table))
figures_told table f sets h =
    same_lines_lem f sets 0 (parameters (table_of table)) λ j p e.
    let same : 0 + j ≡ j = omega arith in
    rw same (h j p e)
