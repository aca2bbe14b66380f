-- The start, one law for each way through the code: the view of a blank state is the plain node's beginning, for every table. Assumes nothing.
use Rattle.std.specs.Prelude.{Option, Some, None}
use Prim.Native.Nat.{ℕ, ◌≤◌, ◌<◌}
use native.Mathlib.Omega.{arith}
use borrow.Author.Tests.{lt-ltb, le-ltb, ne_eqb}
use mathlib.Core.Bool.{Bool, cond}
use mathlib.Core.List.{List, []}
use mathlib.Core.Logic.{◌≢◌}
use mathlib.Core.Path.{◌≡◌, refl, sym, ap, ap₂, subst, fun_ext, ◌∙◌}
use lib.Dec.{eqb}
use lib.ListN.{length, get_or, get_or-replicate}
use Rattle.ascii.specs.Numbers.{latest}
use Rattle.table.specs.Table.{Table}
use Rattle.table.specs.Layout.{read_table, or_empty, table_of}
use Rattle.table.specs.Search.{placed_from, parameters}
use Rattle.report.specs.Judge.{first_fault, table_number}
use Rattle.report.proofs.Faults.{first_fault_first}
use Rattle.counter.specs.declared.Counts.{Counts}
use Rattle.counter.specs.Counts.{no_counts}
use Rattle.plain.specs.Node.{Client, closed, initially, begin, showing, with_clients, with_counts, none_open}
use Rattle.plain.specs.Calls.{start_number, started}
use Rattle.state.specs.declared.Clients.{Clients}
use Rattle.state.specs.declared.State.{State}
use Rattle.state.specs.View.{is_set, client_at, value_at, counts_at, view}
use Rattle.state.proofs.Views.{begun_view}
use Rattle.sound.proofs.Accepted.{accepted}
use Rattle.promise.specs.declared.Done.{Done}
use Rattle.promise.specs.Promise.{blank, Begins}
use Rattle.promise.proofs.Blank.{zeros, blank_size, blank_error, blank_counts, blank_fit}
use Rattle.node.proofs.Refused.{Quiet}
use Rattle.promise.specs.Clauses.Answer.{quiet_done}

-- ## The times of a blank state

blank_time : (t p : ℕ) → p < 64 → get_or (blank t).settings.time p 0 ≡ t
unfolding blank
blank_time t p h = get_or-replicate 64 p t 0 h

blank_untimed : (p : ℕ) → get_or (blank 0).settings.time p 0 ≡ 0
unfolding blank
blank_untimed p = zeros 64 p

-- ## The view of a blank state

not_open : (s : Clients) (c : ℕ) → get_or s.open c 0 ≡ 0 → client_at s c ≡ closed
unfolding client_at is_set
not_open s c h = rw h refl

blank_closed : (t c : ℕ) → client_at (blank t).clients c ≡ closed
unfolding blank
blank_closed t c = not_open (blank t).clients c (zeros 8 c)

-- bytes that can't be read are a table of no parameters
unread_view : (table : List ℕ) → read_table table ≡ None → (s : State) (values : List ℕ) (t : ℕ) → ((c : ℕ) → client_at s.clients c ≡ closed)
    → ((c : ℕ) → counts_at s.counts c ≡ no_counts) → view table s values ≡ begin (table_of table) t
unfolding view begin table_of or_empty parameters placed_from value_at initially
unread_view table e s values t h z =
    rw e
    (ap₂ (λ (f : ℕ → Client) (g : ℕ → Counts). with_counts (with_clients (none_open (λ p. showing [] 0)) f) g) (fun_ext h) (fun_ext z))

blank_view : (table values : List ℕ) (t : ℕ) → ((p : ℕ) → p < length (parameters (table_of table)) → get_or (blank t).settings.time p 0 ≡ t)
    → view table (blank t) values ≡ begin (table_of table) t
unfolding table_of or_empty
blank_view table values t h = go (read_table table) refl
  where
    go : (o : Option Table) → read_table table ≡ o → view table (blank t) values ≡ begin (table_of table) t
    go None e = unread_view table e (blank t) values t (blank_closed t) (blank_counts t)
    go (Some w) e =
        let is : table_of table ≡ w = ap or_empty e in
        begun_view table w e (blank t) values t (blank_closed t) (λ p l. blank_size t p) (λ p l. blank_error t p) (λ p l. h p (rw is l)) (blank_counts t)
        ∙ ap (λ (x : Table). begin x t) (sym is)

-- ## Answers

module _ (table values : List ℕ) (t : ℕ) where
  refused : {r : Done} {k : ℕ} → k ≡ start_number table (length values) t → k ≢ 0 → Quiet r k (blank 0) → Begins table values t r
  unfolding started
  refused {r} {k} h z q =
      subst (Begins table values t) (sym q)
      (record {
        number = h;
        used = refl;
        writes = refl;
        steps = refl;
        state = ap (λ (b : Bool). blank (cond b t 0)) (sym (ne_eqb k 0 z));
        node = λ own. blank_view table own 0 (λ p l. blank_untimed p)
            ∙ ap (λ (b : Bool). begin (table_of table) (cond b t 0)) (sym (ne_eqb k 0 z))
            ∙ ap (λ (j : ℕ). begin (table_of table) (cond (eqb j 0) t 0)) h;
        fit = λ y. absurd (z y);
      })

  accepted_start : {r : Done} → 0 ≡ start_number table (length values) t → table_number table ≡ 0 → t ≤ latest → Quiet r 0 (blank t)
      → Begins table values t r
  unfolding started
  accepted_start h ok early q =
      subst (Begins table values t) (sym q)
      (record {
        number = h;
        used = refl;
        writes = refl;
        steps = refl;
        state = refl;
        node = λ own. blank_view table own t (λ p l. let few = (accepted table ok).few in blank_time t p (omega arith))
            ∙ ap (λ (j : ℕ). begin (table_of table) (cond (eqb j 0) t 0)) h;
        fit = λ y own. blank_fit (table_of table) own t early;
      })

  -- the state that is answered is blank
  on : {r : Done} {s z : State} {k : ℕ} → Quiet r k s → s ≡ z → Quiet r k z
  on {k = k} q e = q ∙ ap (λ (x : State). quiet_done k x) e

  module _ {k : ℕ} (says : k ≡ table_number table) where
    pub start_table : {r : Done} {s : State} → k ≢ 0 → Quiet r k s → s ≡ blank 0 → Begins table values t r
    unfolding start_number
    start_table z q e = refused (says ∙ sym (first_fault_first (table_number table) _ (λ y. z (says ∙ y)))) z (on q e)

    module _ (zeroth : k ≡ 0) where
      ok : table_number table ≡ 0
      ok = sym says ∙ zeroth

      pub start_area : {r : Done} {s : State} → length values < 16384 → Quiet r 8 s → s ≡ blank 0 → Begins table values t r
      unfolding start_number first_fault
      start_area h q e = refused (rw (ok, lt-ltb (length values) 16384 h) refl) (λ z. absurd (omega arith)) (on q e)

      module _ (area : 16384 ≤ length values) where
        pub start_late : {r : Done} {s : State} → latest < t → Quiet r 10 s → s ≡ blank 0 → Begins table values t r
        unfolding start_number first_fault
        start_late h q e =
            refused (rw (ok, le-ltb (length values) 16384 area, lt-ltb latest t h) refl) (λ z. absurd (omega arith)) (on q e)

        pub start_good : {r : Done} {s : State} → t ≤ latest → Quiet r 0 s → s ≡ blank t → Begins table values t r
        unfolding start_number first_fault
        start_good h q e = accepted_start (rw (ok, le-ltb (length values) 16384 area, le-ltb latest t h) refl) ok h (on q e)
