-- Laws of the single call of a record. Assumes nothing.
use Prim.Native.Nat.{ℕ, ◌≤◌, ◌<◌}
use native.Mathlib.Omega.{arith}
use mathlib.Core.List.{List, []}
use mathlib.Core.Bool.{true, false, false≢true}
use mathlib.Core.Path.{◌≡◌, refl, sym, ap, ◌∙◌}
use lib.ListN.{length}
use Rattle.ascii.specs.Bytes.{head}
use Rattle.table.specs.Layout.{table_of}
use Rattle.plain.specs.Calls.{Open, Close, Call, with_area, with_outbox, effect}
use Rattle.plain.specs.Calls as Calls
use Rattle.state.specs.declared.State.{State}
use Rattle.state.specs.View.{view}
use Rattle.state.specs.Fit.{is_unfit}
use Rattle.promise.specs.declared.Done.{Done}
use Rattle.promise.specs.Promise.{Kept}
use Rattle.trace.specs.declared.Kind.{Kind}
use Rattle.trace.specs.declared.Kind.TheVariants.{Opening, Closing, Piece, Reading, Unreadable}
use Rattle.trace.specs.declared.Head.{Head}
use Rattle.replay.specs.Replay.{is_piece}
use Rattle.replay.specs.Promise.{by_open, by_close, by_piece, by_reading, by_unreadable}
use Rattle.replay.specs.Clauses.Inner as Inner
use Rattle.replay.proofs.Numbers.{number_low, step_used, piece_used, reading_used, unreadable_used, open_used, close_used, piece_some}

module _ {table : List ℕ} {s : State} {values outbox : List ℕ} {d : Done} {values' outbox' : List ℕ} where
  pub kept_low : {e : Call} → Kept table e s values outbox d values' outbox' → d.number < 19
  kept_low {e} k =
      let l = number_low table (is_unfit (table_of table) s values) (view table s values) e in
      omega (arith, k.number)

  kept_used : {e : Call} → Kept table e s values outbox d values' outbox' → (m : ℕ) → (effect (table_of table) (view table s values) e.event).used ≤ m → d.used ≤ m
  kept_used {e} k m h =
      let l = step_used table (is_unfit (table_of table) s values) (view table s values) e m h in
      omega (arith, k.used)

  kept_some : {c t a o : ℕ} {bs : List ℕ} → Kept table (with_outbox (Calls.Piece c bs t) a o) s values outbox d values' outbox' → 0 < length bs → d.number ≡ 0
      → 1 ≤ d.used
  kept_some {c} {t} {a} {o} {bs} k l z =
      let u = piece_some table (is_unfit (table_of table) s values) (view table s values) c bs t a o l (sym k.number ∙ z) in
      omega (arith, k.used)

-- what is asked of pieces only
no_piece : {k j : Kind} {P : Type 0} → k ≡ j → is_piece j ≡ false → is_piece k ≡ true → P
no_piece e f p = let z : false ≡ true = sym f ∙ ap is_piece (sym e) ∙ p in absurd (false≢true z)

module _ (table : List ℕ) (s : State) (values outbox : List ℕ) (h : Head) (bs : List ℕ) where
  pub opened : (d : Done) → Kept table (with_area (Open h.number h.time) (length values)) s values [] d values [] → h.kind ≡ Opening
      → Inner.Calls table s values outbox h bs d values outbox
  unfolding is_piece
  opened d k e =
      record {
        single = rw e (by_open h.number h.time bs d k);
        low = kept_low k;
        within = kept_used k (length bs) (open_used _ _ _ _ (length bs));
        some = no_piece e refl;
      }

  pub closed : (d : Done) → Kept table (with_area (Close h.number h.time) (length values)) s values [] d values [] → h.kind ≡ Closing
      → Inner.Calls table s values outbox h bs d values outbox
  unfolding is_piece
  closed d k e =
      record {
        single = rw e (by_close h.number h.time bs d k);
        low = kept_low k;
        within = kept_used k (length bs) (close_used _ _ _ _ (length bs));
        some = no_piece e refl;
      }

  pub pieced : (d : Done) (values' outbox' : List ℕ)
      → Kept table (with_outbox (Calls.Piece h.number bs h.time) (length values) (length outbox)) s values outbox d values' outbox' → h.kind ≡ Piece
      → Inner.Calls table s values outbox h bs d values' outbox'
  pieced d values' outbox' k e =
      record {
        single = rw e (by_piece h.number h.time bs d values' outbox' k);
        low = kept_low k;
        within = kept_used k (length bs) (piece_used _ _ _ bs _);
        some = λ p z l. kept_some k l z;
      }

  pub read : (d : Done) (values' outbox' : List ℕ)
      → Kept table (with_outbox (Calls.Reading h.number bs h.time) (length values) (length outbox)) s values outbox d values' outbox' → h.kind ≡ Reading
      → Inner.Calls table s values outbox h bs d values' outbox'
  unfolding is_piece
  read d values' outbox' k e =
      record {
        single = rw e (by_reading h.number h.time bs d values' outbox' k);
        low = kept_low k;
        within = kept_used k (length bs) (reading_used _ _ _ bs _ (length bs));
        some = no_piece e refl;
      }

  pub unreadable : (d : Done) (k : ℕ) (outbox' : List ℕ) → k ≡ head bs
      → Kept table (with_outbox (Calls.Unreadable h.number k h.time) (length values) (length outbox)) s values outbox d values outbox'
      → h.kind ≡ Unreadable → Inner.Calls table s values outbox h bs d values outbox'
  unfolding is_piece
  unreadable d k outbox' class kept e =
      record {
        single = rw e (by_unreadable h.number h.time bs d outbox' (rw class at kept));
        low = kept_low kept;
        within = kept_used kept (length bs) (unreadable_used _ _ _ _ _ (length bs));
        some = no_piece e refl;
      }
