-- Laws of a record that is played: its calls one by one. Assumes nothing.
use Rattle.std.specs.Prelude.{Option, Some, None}
use Prim.Native.Nat.{ℕ, zero, suc, ◌≤◌}
use native.Mathlib.Omega.{arith}
use mathlib.Core.Bool.{Bool, true, false, cond, ◌&&◌}
use mathlib.Core.List.{List, [], ◌∷◌}
use mathlib.Core.Logic.{◌≢◌}
use mathlib.Core.Path.{◌≡◌, refl, ap}
use lib.Dec.{eqb, ltb}
use lib.ListN.{length, drop, length-drop}
use borrow.Author.Tests.{ltb-true, ne_eqb}
use Rattle.table.specs.Layout.{table_of}
use Rattle.plain.specs.Node.{Node}
use Rattle.plain.specs.Calls.{with_outbox, Answer, Effect, used_of, piece_effect, effect, call_steps, settle, step_if, call_number}
use Rattle.plain.specs.Calls as Calls
use Rattle.plain.specs.History.{step}
use Rattle.trace.specs.declared.Kind.{Kind}
use Rattle.trace.specs.declared.Kind.TheVariants.{Opening, Closing, Piece, Reading, Unreadable}
use Rattle.trace.specs.Trace.{Entry}
use Rattle.replay.proofs.Numbers.{used_some}
use Rattle.replay.specs.Replay.{call_of, call_for, is_piece, offering, rest, Played, nothing, first, if_some, play_on, play}

-- how many calls are enough
abbrev pub enough : Option Entry → ℕ
enough None = 0
enough (Some e) = suc (length e.offered)

-- ## After a call there is less to be offered

-- what is left of bytes of which some were used
fewer : (e : Entry) (u : ℕ) → 1 ≤ u → (t : Bool) → ltb u (length e.offered) ≡ t
    → enough (cond t (Some (offering e (drop u e.offered))) None) ≤ length e.offered
fewer e u h true l = let m = ltb-true u (length e.offered) l in omega (arith, length-drop u e.offered)
fewer e u h false l = omega arith

none_left : (e : Entry) (u : ℕ) → length e.offered ≡ 0 → (t : Bool) → ltb u (length e.offered) ≡ t
    → enough (cond t (Some (offering e (drop u e.offered))) None) ≤ length e.offered
none_left e u h true l = let m = ltb-true u (length e.offered) l in absurd (omega arith)
none_left e u h false l = omega arith

refused_left : (e : Entry) (m u : ℕ) → m ≢ 0
    → enough (cond (true && eqb m 0 && ltb u (length e.offered)) (Some (offering e (drop u e.offered))) None) ≤ length e.offered
refused_left e m u h = rw (ne_eqb m 0 h) (omega arith)

module _ (n : Node) (e : Entry) where
  settled_less : (k : ℕ) (x : Effect) (i : ℕ) (bs : List ℕ) → e.offered ≡ bs → x.used ≡ used_of bs
      → enough (cond (true && eqb (settle k n x i).1.number 0 && ltb (settle k n x i).1.used (length e.offered))
      (Some (offering e (drop (settle k n x i).1.used e.offered))) None)
      ≤ length e.offered
  unfolding settle
  settled_less (suc k) x i bs o u = refused_left e (suc k) 0 (λ z. omega arith)
  settled_less zero x i [] o u = none_left e x.used (ap length o) (ltb x.used (length e.offered)) refl
  settled_less zero x i (b ∷ bs) o u = let s = used_some b bs in fewer e x.used (omega arith) (ltb x.used (length e.offered)) refl

-- after a call there is less to be offered
less_left : (table : List ℕ) (n : Node) (k : Kind) (i t : ℕ) (bs : List ℕ) (area outbox : ℕ)
    → enough (rest (record { kind = k; number = i; time = t; offered = bs })
    (step table n (call_of area outbox k i t bs)).1.number (step table n (call_of area outbox k i t bs)).1.used) ≤ length bs
unfolding rest step step_if is_piece call_of effect piece_effect
less_left table n Opening i t bs a o = omega arith
less_left table n Closing i t bs a o = omega arith
less_left table n Piece i t bs a o =
    let c = with_outbox (Calls.Piece i bs t) a o in
    settled_less n (record { kind = Piece; number = i; time = t; offered = bs }) (call_number table false n c)
    (effect (table_of table) n c.event) (call_steps (table_of table) n c) bs refl refl
less_left table n Reading i t bs a o = omega arith
less_left table n Unreadable i t bs a o = omega arith

-- ## More calls than enough give nothing more

module _ (table : List ℕ) (area outbox : ℕ) where
  -- what a record is answered, and what is left of it then
  abbrev once : Node → Entry → Node × Answer
  once n e = step table n (call_for area outbox e)

  abbrev onward : Node → Entry → Option Entry
  onward n e = rest e (once n e).1.number (once n e).1.used

  less_onward : (n : Node) (e : Entry) → enough (onward n e) ≤ length e.offered
  less_onward n e = less_left table n e.kind e.number e.time e.offered area outbox

  same_end_lem : (k m : ℕ) (n : Node) (o : Option Entry) → enough o ≤ k → enough o ≤ m → play_on table area outbox k n o ≡ play_on table area outbox m n o
  unfolding play_on if_some
  same_end_lem zero zero n o h l = refl
  same_end_lem zero (suc m) n None h l = refl
  same_end_lem zero (suc m) n (Some e) h l = absurd (omega arith)
  same_end_lem (suc k) zero n None h l = refl
  same_end_lem (suc k) zero n (Some e) h l = absurd (omega arith)
  same_end_lem (suc k) (suc m) n None h l = refl
  same_end_lem (suc k) (suc m) n (Some e) h l =
      let s = less_onward n e in
      ap (first (call_for area outbox e) (once n e).1) (same_end_lem k m (once n e).0 (onward n e) (omega arith) (omega arith))

  -- what is left is played to its end
  unfoldable pub finish_of : Node → Option Entry → Played
  finish_of n o = play_on table area outbox (enough o) n o

  pub finish_none : (n : Node) → finish_of n None ≡ nothing n
  unfolding finish_of play_on
  finish_none n = refl

  pub finish_play : (n : Node) (e : Entry) → play table area outbox n e ≡ finish_of n (Some e)
  unfolding finish_of play
  finish_play n e = refl

  pub finish_call : (n : Node) (e : Entry) → finish_of n (Some e) ≡ first (call_for area outbox e) (once n e).1 (finish_of (once n e).0 (onward n e))
  unfolding finish_of play_on if_some
  finish_call n e =
      ap (first (call_for area outbox e) (once n e).1)
      (same_end_lem (length e.offered) (enough (onward n e)) (once n e).0 (onward n e) (less_onward n e) (omega arith))
