-- An open and a close, one law for each way through the code. Assumes nothing.
use Prim.Native.Nat.{ℕ, ◌≤◌, ◌<◌}
use native.Mathlib.Omega.{arith}
use borrow.Author.Tests.{lt-ltb, le-ltb, not-true, not-false}
use mathlib.Core.Bool.{Bool, true, false, not}
use mathlib.Core.List.{List, []}
use mathlib.Core.Logic.{◌≢◌}
use mathlib.Core.Path.{◌≡◌, refl, sym, ap, subst, ◌∙◌}
use lib.ListN.{length}
use Rattle.table.specs.Layout.{table_of}
use Rattle.report.specs.Judge.{fault}
use Rattle.plain.specs.Node.{is_open}
use Rattle.plain.specs.Calls.{Open, Close, Call, with_area, beside, sends, is_small, fault11, own_faults, event_steps}
use Rattle.state.specs.declared.Clients.{Clients}
use Rattle.state.specs.declared.State.{State}
use Rattle.state.specs.View.{is_set, view, next_clients}
use Rattle.state.specs.Fit.{is_unfit}
use Rattle.state.specs.Changed.{with_opened, with_closed}
use Rattle.state.specs.Clauses.Counted.{Cleared}
use Rattle.state.proofs.Becomes.{Sized}
use Rattle.state.proofs.Cells.{opened_becomes, closed_becomes}
use Rattle.promise.specs.declared.Done.{Done}
use Rattle.promise.specs.Promise.{Kept}
use Rattle.promise.specs.Clauses.Lent.{lent_number}
use Rattle.promise.proofs.Numbers.{number_is_lem, good}
use Rattle.promise.proofs.Answers.{accepts}
use Rattle.promise.proofs.Clients.{opens, closes}
use Rattle.promise.proofs.Held.{open_is}
use Rattle.node.proofs.Refused.{Quiet, Numbered, refused_lent, refused_first, refused_second, not_refused}
use Rattle.promise.specs.Clauses.Answer.{quiet_done}

-- whether a client of the view is open
pub open_in_view : (table : List ℕ) (s : State) (values : List ℕ) (c : ℕ) → is_open ((view table s values).clients c) ≡ is_set s.clients.open c
unfolding view
open_in_view table s values c = open_is s.clients c

pub too_high : {c : ℕ} → 7 < c → fault11 c ≡ 11
too_high {c} h = rw (lt-ltb 7 c h) refl

pub not_high : {c : ℕ} → c ≤ 7 → fault11 c ≡ 0
not_high {c} h = rw (le-ltb 7 c h) refl

module _ (table : List ℕ) (s : State) (values index : List ℕ) (c t : ℕ) where
  abbrev opening : Call
  opening = beside index (with_area (Open c t) (length values))

  abbrev closing : Call
  closing = beside index (with_area (Close c t) (length values))

  abbrev Answers : Call → Done → Type 0
  Answers e r = Kept table e s values [] r values []

  abbrev next : Clients → State
  next q = next_clients s q

  abbrev viewed : Bool
  viewed = is_open ((view table s values).clients c)

  numbered_open : Numbered table s values [] opening (lent_number table values false index s t) (fault11 c) (fault 13 viewed)
  unfolding sends is_small own_faults
  numbered_open = record { is = number_is_lem table s values (Open c t) 0 index t _ refl }

  numbered_close : Numbered table s values [] closing (lent_number table values false index s t) (fault11 c) (fault 12 (not viewed))
  unfolding sends is_small own_faults
  numbered_close = record { is = number_is_lem table s values (Close c t) 0 index t _ refl }

  fit : {k : ℕ} → k ≡ lent_number table values false index s t → k ≡ 0 → is_unfit (table_of table) s values ≡ false
  fit lent ok = (good table s values false index t (sym lent ∙ ok)).fit

  is_open_lem : {b o : Bool} → b ≡ is_set s.clients.open c → b ≡ o → viewed ≡ o
  is_open_lem judged y = open_in_view table s values c ∙ sym judged ∙ y

  module _ {r : Done} {k : ℕ} (lent : k ≡ lent_number table values false index s t) where
    pub open_lent : k ≢ 0 → Quiet r k s → Answers opening r
    open_lent z q = refused_lent table s values [] opening numbered_open lent z q

    pub close_lent : k ≢ 0 → Quiet r k s → Answers closing r
    close_lent z q = refused_lent table s values [] closing numbered_close lent z q

    module _ (ok : k ≡ 0) where
      pub open_high : 7 < c → Quiet r 11 s → Answers opening r
      open_high h q = refused_first table s values [] opening numbered_open lent ok (too_high h) q

      pub close_high : 7 < c → Quiet r 11 s → Answers closing r
      close_high h q = refused_first table s values [] closing numbered_close lent ok (too_high h) q

      module _ (h : c ≤ 7) {b : Bool} (judged : b ≡ is_set s.clients.open c) where
        pub open_twice : b ≡ true → Quiet r 13 s → Answers opening r
        open_twice y q = refused_second table s values [] opening numbered_open lent ok (not_high h) (ap (fault 13) (is_open_lem judged y)) q

        pub close_closed : not b ≡ true → Quiet r 12 s → Answers closing r
        close_closed y q = refused_second table s values [] closing numbered_close lent ok (not_high h) (ap (λ (z : Bool). fault 12 (not z)) (is_open_lem judged (not-true b y))) q

        pub open_good : {x : Clients} → b ≡ false → Sized s.clients → x ≡ with_opened s.clients c → {u : State} → Cleared (next x) c u
            → Quiet r 0 u → Answers opening r
        unfolding event_steps
        open_good {x} y z d {u} k q =
            let low : c < 8 = omega arith in
            subst (Answers opening) (sym (q ∙ ap (quiet_done 0) k.is))
            (accepts table s values opening [] _ values []
            (not_refused table s values [] opening numbered_open lent ok (not_high h) (ap (fault 13) (is_open_lem judged y)))
            (omega arith)
            (record { leaves = opens table s values (fit lent ok) c t x d (opened_becomes s.clients z c low d) k.size low; steps = refl }))

        pub close_good : {x : Clients} → not b ≡ false → Sized s.clients → x ≡ with_closed s.clients c → Quiet r 0 (next x) → Answers closing r
        unfolding event_steps
        close_good {x} y z d q =
            subst (Answers closing) (sym q)
            (accepts table s values closing [] (quiet_done 0 (next x)) values []
            (not_refused table s values [] closing numbered_close lent ok (not_high h) (ap (λ (z : Bool). fault 12 (not z)) (is_open_lem judged (not-false b y))))
            (omega arith)
            (record { leaves = closes table s values (fit lent ok) c t x d (closed_becomes s.clients z c (omega arith) d); steps = refl }))
