-- A piece, one law for each way through the code. Assumes nothing.
use Prim.Native.Nat.{ℕ, ◌≤◌, ◌<◌}
use native.Mathlib.Omega.{arith}
use borrow.Author.Tests.{le-ltb, ltb-false, not-true, not-false}
use mathlib.Core.Bool.{Bool, true, false, not}
use mathlib.Core.List.{List}
use mathlib.Core.Logic.{◌≢◌}
use mathlib.Core.Path.{◌≡◌, refl, sym, ap, ◌∙◌}
use lib.Dec.{ltb}
use lib.ListN.{length}
use Rattle.ascii.specs.Numbers.{latest}
use Rattle.table.specs.Layout.{table_of}
use Rattle.report.specs.Judge.{fault, first_fault}
use Rattle.plain.specs.Node.{is_open}
use Rattle.plain.specs.Calls.{Piece, Call, with_outbox, beside, sends, is_small, is_short, fault11, own_faults, call_number}
use Rattle.plain.proofs.Numbers.{accepted_call}
use Rattle.state.specs.declared.Bare.{Bare}
use Rattle.state.specs.declared.State.{State}
use Rattle.state.specs.View.{is_set, view}
use Rattle.state.specs.Fit.{is_unfit}
use Rattle.state.specs.Clauses.Bare.{lined, bare_of}
use Rattle.state.proofs.Becomes.{Sized}
use Rattle.outcome.specs.Clauses.Ready.{Ready}
use Rattle.promise.specs.declared.BareDone.{BareDone}
use Rattle.promise.specs.declared.Done.{Done}
use Rattle.promise.specs.Promise.{Kept}
use Rattle.promise.specs.Clauses.Answer.{quiet_done, done_by}
use Rattle.promise.specs.Clauses.Leaves.{LeavesIn}
use Rattle.promise.specs.Clauses.Lent.{lent_number}
use Rattle.promise.proofs.Numbers.{number_is_lem, good}
use Rattle.promise.proofs.Answers.{short_written, accepts}
use Rattle.rack.proofs.Lent.{lent_whole}
use Rattle.node.proofs.Refused.{Quiet, Numbered, refused_lent, refused_first, refused_second}
use Rattle.node.proofs.Opens.{open_in_view, too_high, not_high}

pub piece_timely : (table : List ℕ) (s : State) (values : List ℕ) (small : Bool) (index : List ℕ) (t : ℕ) {k : ℕ}
    → k ≡ lent_number table values small index s t → k ≡ 0 → t ≤ latest
piece_timely table s values small index t lent ok = (good table s values small index t (sym lent ∙ ok)).time

pub piece_unshort : (table : List ℕ) (s : State) (values : List ℕ) (small : Bool) (index : List ℕ) (t : ℕ) {k : ℕ}
    → k ≡ lent_number table values small index s t → k ≡ 0 → is_short index ≡ false
piece_unshort table s values small index t lent ok = (good table s values small index t (sym lent ∙ ok)).unshort

module _ (table : List ℕ) (s : State) (values outbox index : List ℕ) (c t : ℕ) (bs : List ℕ) where
  abbrev offered : Call
  offered = beside index (with_outbox (Piece c bs t) (length values) (length outbox))

  abbrev small : Bool
  small = ltb (length outbox) 32768

  abbrev viewed : Bool
  viewed = is_open ((view table s values).clients c)

  numbered : Numbered table s values outbox offered (lent_number table values small index s t) (fault11 c) (fault 12 (not viewed))
  unfolding sends is_small own_faults
  numbered = record { is = number_is_lem table s values (Piece c bs t) (length outbox) index t _ refl }

  is_open_lem : {b o : Bool} → b ≡ is_set s.clients.open c → b ≡ o → viewed ≡ o
  is_open_lem judged y = open_in_view table s values c ∙ sym judged ∙ y

  -- an open client, and all that is lent is good: no number is given
  accepted_number : Ready table s values outbox c → is_short index ≡ false → t ≤ latest → call_number table (is_unfit (table_of table) s values) (view table s values) offered ≡ 0
  unfolding own_faults first_fault
  accepted_number g i h =
      (accepted_call table (is_unfit (table_of table) s values) offered (view table s values)).1 (
        record { accepted = g.lent.accepted; outbox = λ e. g.lent.room; area = g.area; index = i; fit = g.fit },
        rw (le-ltb latest t h, not_high {c = c} (omega (arith, g.lent.low)), open_in_view table s values c, g.is_open) refl,
      )

  -- the state is handed on without its lines, which are lent
  module _ {b : Bare} (is : b ≡ bare_of s) where
    abbrev handed : State
    handed = lined b s.clients.lines

    pub piece_good : Ready table handed values outbox c → is_short index ≡ false → t ≤ latest → Sized s.clients
        → {d : BareDone} {lines' values' outbox' : List ℕ} → LeavesIn table handed values (Piece c bs t) index outbox (done_by d lines') values' outbox'
        → {r : Done} → r ≡ done_by d lines' → Kept table offered s values outbox r values' outbox'
    piece_good g i h z {d} {lines'} {values'} {outbox'} left q =
        let l = rw is at left in
        let number = accepted_number (rw is at g) i h in
        rw q
        (accepts table s values offered outbox (done_by d lines') values' outbox' number
        (rw l.leaves.writes (short_written table s values offered z number)) l)

    module _ {k : ℕ} (judges : k ≡ lent_number table values small index handed t) where
      lent : k ≡ lent_number table values small index s t
      lent = lent_whole table values s is small index t judges

      pub piece_ready : k ≡ 0 → c ≤ 7 → {o : Bool} → o ≡ is_set s.clients.open c → not o ≡ false → Ready table handed values outbox c
      piece_ready ok h {o} judged y =
          let x = good table s values small index t (sym lent ∙ ok) in
          rw is
          (record {
            lent = record { accepted = x.accepted; room = ltb-false (length outbox) 32768 x.outbox; low = omega arith };
            area = x.area;
            fit = x.fit;
            is_open = sym judged ∙ not-false o y;
          })

      -- a refusal hands it back as it was
      module _ {r : Done} {w : State} (again : w ≡ handed) where
        back : {j : ℕ} → Quiet r j w → Quiet r j s
        back {j} q = q ∙ ap (quiet_done j) (again ∙ ap (λ (x : Bare). lined x s.clients.lines) is)

        pub piece_lent : k ≢ 0 → Quiet r k w → Kept table offered s values outbox r values outbox
        piece_lent z q = refused_lent table s values outbox offered numbered lent z (back q)

        module _ (ok : k ≡ 0) where
          pub piece_high : 7 < c → Quiet r 11 w → Kept table offered s values outbox r values outbox
          piece_high h q = refused_first table s values outbox offered numbered lent ok (too_high h) (back q)

          pub piece_closed : c ≤ 7 → {o : Bool} → o ≡ is_set s.clients.open c → not o ≡ true → Quiet r 12 w
              → Kept table offered s values outbox r values outbox
          piece_closed h {o} judged y q =
              refused_second table s values outbox offered numbered lent ok (not_high h)
              (ap (λ (z : Bool). fault 12 (not z)) (is_open_lem judged (not-true o y))) (back q)
