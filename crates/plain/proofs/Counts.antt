-- Laws of what is counted (M-108). Assumes nothing.
use Rattle.std.specs.Prelude.{Option, Some, None}
use Prim.Native.Nat.{ℕ, ◌+◌, ◌≤◌}
use native.Mathlib.Nat.{add_assoc}
use native.Mathlib.Omega.{arith}
use borrow.Author.Tests.{ne_eqb, not-true}
use mathlib.Core.Bool.{Bool, true, false, cond, not}
use mathlib.Core.List.{List, [], ◌∷◌, ◌++◌}
use mathlib.Core.Path.{◌≡◌, refl, sym, ap, ◌∙◌}
use lib.Dec.{eqb}
use Rattle.ascii.specs.Bytes.{all}
use Rattle.ascii.proofs.Lists.{all_parts}
use Rattle.counter.specs.declared.Counts.{Counts}
use Rattle.counter.specs.Counts.{stopping, lines_counted, all_counted}
use Rattle.message.specs.Line.{Parts}
use Rattle.message.specs.Request.{Request, request}
use Rattle.message.specs.Reply.{DataReport, Reply}
use Rattle.outbox.specs.Outbox.{Record, final, update, order_change, order_command}
use Rattle.outbox.specs.Sent.{error_to, update_to, errors_sent, updates_sent}
use Rattle.table.specs.Table.{Parameter, Table}
use Rattle.table.specs.Search.{Placed, parameters}
use Rattle.plain.specs.Node.{Client, Value, Node, is_active, client_numbers, updates_to, updates_of}
use Rattle.plain.specs.Answer.{stored_at, outcome, status_of, busy_updates, activates, deactivates, sets, answer_parts}
use Rattle.plain.proofs.Outcomes.{before, reply_to, concluded, outcome_holds}

-- ## Counting twice

stopping_twice : (k m n : ℕ) → stopping (stopping k m) n ≡ stopping k (m + n)
stopping_twice k m n = omega arith

pub counted_twice : (x : Counts) (a b c d e f : ℕ) → all_counted (all_counted x a b c) d e f ≡ all_counted x (a + d) (b + e) (c + f)
counted_twice x a b c d e f =
    λ i. record {
      lines = stopping_twice x.lines a d i;
      errors = stopping_twice x.errors b e i;
      updates = stopping_twice x.updates c f i;
    }

-- a line, and what is counted before it
pub line_counted_lem : (x : Counts) (a b c : ℕ) → lines_counted (all_counted x a b c) 1 ≡ all_counted x (a + 1) b c
line_counted_lem x a b c =
    λ i. record { lines = stopping_twice x.lines a 1 i; errors = stopping x.errors b; updates = stopping x.updates c }

-- ## Records

module _ (d : ℕ) where
  pub errors_append : (rs ss : List Record) → errors_sent d (rs ++ ss) ≡ errors_sent d rs + errors_sent d ss
  unfolding errors_sent
  errors_append [] ss = omega arith
  errors_append (r ∷ rs) ss = ap (λ (k : ℕ). error_to d r + k) (errors_append rs ss) ∙ sym (add_assoc (error_to d r) (errors_sent d rs) (errors_sent d ss))

  pub updates_append : (rs ss : List Record) → updates_sent d (rs ++ ss) ≡ updates_sent d rs + updates_sent d ss
  unfolding updates_sent
  updates_append [] ss = omega arith
  updates_append (r ∷ rs) ss = ap (λ (k : ℕ). update_to d r + k) (updates_append rs ss) ∙ sym (add_assoc (update_to d r) (updates_sent d rs) (updates_sent d ss))

  -- nothing that is counted goes to client d
  pub record NoneTo (rs : List Record) : Type 0 where
    pub errors : errors_sent d rs ≡ 0
    pub updates : updates_sent d rs ≡ 0

  pub none_none : NoneTo []
  unfolding errors_sent updates_sent
  none_none = record { errors = refl; updates = refl }

  none_both : (rs ss : List Record) → NoneTo rs → NoneTo ss → NoneTo (rs ++ ss)
  none_both rs ss h k =
      record {
        errors = errors_append rs ss ∙ omega (arith, h.errors, k.errors);
        updates = updates_append rs ss ∙ omega (arith, h.updates, k.updates);
      }

  none_change : (c p : ℕ) (v : List ℕ) → NoneTo (order_change c p v ∷ [])
  unfolding errors_sent updates_sent error_to update_to
  none_change c p v = record { errors = refl; updates = refl }

  none_command : (c p : ℕ) (v : List ℕ) → NoneTo (order_command c p v ∷ [])
  unfolding errors_sent updates_sent error_to update_to
  none_command c p v = record { errors = refl; updates = refl }

  module _ (c : ℕ) (e : eqb c d ≡ false) where
    none_final : (r : Reply) → NoneTo (final c r ∷ [])
    unfolding errors_sent updates_sent error_to update_to
    none_final r = record { errors = rw e refl; updates = refl }

    none_update : (r : DataReport) → NoneTo (update c r ∷ [])
    unfolding errors_sent updates_sent error_to update_to
    none_update r = record { errors = refl; updates = rw e refl }

    none_if : (b : Bool) (r : DataReport) → NoneTo (cond b (update c r ∷ []) [])
    none_if true r = none_update r
    none_if false r = none_none

    none_of : (wanted : ℕ → Bool) (values : ℕ → Value) (k : ℕ) (ps : List (Placed Parameter)) → NoneTo (updates_of c wanted values k ps)
    unfolding updates_of
    none_of wanted values k [] = none_none
    none_of wanted values k (p ∷ ps) = none_both _ _ (none_if (wanted p.home) _) (none_of wanted values _ ps)

  none_to : (f : ℕ → Client) (i : ℕ) (r : DataReport) (cs : List ℕ) → all (λ c. not (eqb c d)) cs ≡ true → NoneTo (updates_to f i r cs)
  unfolding updates_to
  none_to f i r [] h = none_none
  none_to f i r (c ∷ cs) h =
      let p = all_parts (λ c. not (eqb c d)) c cs h in
      none_both _ _ (none_if c (not-true _ p.0) (is_active (f c) i) r) (none_to f i r cs p.1)

-- ## Above the clients' numbers

module _ (d : ℕ) (above : 8 ≤ d) where
  others : all (λ c. not (eqb c d)) client_numbers ≡ true
  unfolding all
  others =
      simp (
        ne_eqb 0 d (λ e. omega arith),
        ne_eqb 1 d (λ e. omega arith),
        ne_eqb 2 d (λ e. omega arith),
        ne_eqb 3 d (λ e. omega arith),
        ne_eqb 4 d (λ e. omega arith),
        ne_eqb 5 d (λ e. omega arith),
        ne_eqb 6 d (λ e. omega arith),
        ne_eqb 7 d (λ e. omega arith),
      )

  -- no update of a setting goes there
  pub no_updates : (f : ℕ → Client) (i : ℕ) (r : DataReport) → NoneTo d (updates_to f i r client_numbers)
  no_updates f i r = none_to d f i r client_numbers others

  -- nor of a status that is set before it
  no_busy : (f : ℕ → Client) (o : Option (ℕ × Placed Parameter)) (t : ℕ) → NoneTo d (busy_updates f o t)
  unfolding busy_updates
  no_busy f None t = none_none d
  no_busy f (Some s) t = no_updates f s.1.home _

  -- nothing that answers a client's line
  module _ (c : ℕ) (low : c ≤ 7) where
    other : eqb c d ≡ false
    other = ne_eqb c d (λ e. omega arith)

    before_none : (w : Table) (n : Node) (now : ℕ) (q : Request) → NoneTo d (before (outcome w n c now q))
    unfolding activates deactivates sets
    before_none w n now =
        outcome_holds (λ q o. NoneTo d (before o)) w n c now
        (record {
          bad = λ q x. none_none d;
          failing = λ k f t h e. none_none d;
          telling = λ q f h. none_none d;
          activating = λ m f h. none_of d c other _ n.values 0 (parameters w);
          deactivating = λ m f h. none_none d;
          setting = λ k v h.
              none_both d _ _ (none_change d c k.0 (stored_at n.values k v))
              (none_both d _ _ (no_busy n.clients (status_of w k.1) now) (no_updates n.clients k.1.home _));
          doing = λ k v h. none_command d c k.0 _;
        })

    pub no_answers : (w : Table) (n : Node) (now : ℕ) (p : Parts) → NoneTo d (answer_parts w n c now p).1
    unfolding answer_parts
    no_answers w n now p =
        let o = outcome w n c now (request p) in
        rw (concluded w n c now p o) (none_both d (before o) (final c (reply_to p o) ∷ []) (before_none w n now (request p)) (none_final d c other (reply_to p o)))
