-- Laws of a call's answer: its number is at most 18, and it uses no more bytes than it is offered. Assumes nothing.
use Rattle.std.specs.Prelude.{Option, Some, None, slice_get}
use Prim.Native.Nat.{ℕ, zero, suc, ◌+◌, ◌≤◌, ◌<◌}
use native.Mathlib.Omega.{arith}
use mathlib.Core.Bool.{Bool, true, false, cond, not}
use mathlib.Core.List.{List, [], ◌∷◌, ◌++◌}
use mathlib.Core.Path.{◌≡◌, refl}
use lib.Dec.{eqb, ltb}
use lib.ListN.{length}
use Rattle.ascii.specs.Bytes.{is_some}
use Rattle.ascii.specs.Numbers.{latest}
use Rattle.fit.specs.Fit.{is_fit}
use Rattle.table.specs.Rules.{counts_good, names_good, datainfos_good, initials_good}
use Rattle.report.specs.Report.{report}
use Rattle.table.specs.Table.{Parameter, Table}
use Rattle.table.specs.Layout.{table_of, read_table}
use Rattle.table.specs.Search.{Placed, parameters}
use Rattle.report.specs.Judge.{fault, first_fault, tree_number, number_of, table_number}
use Rattle.message.specs.Error.{Fault, fault_of}
use Rattle.plain.specs.Node.{Node, is_open}
use Rattle.plain.specs.Calls.{Event, Open, Close, Piece, Reading, Unreadable, Call}
use Rattle.plain.specs.Calls.{with_outbox, is_small, is_short, fault10, fault11, lent_faults, own_faults, reading_verdict, call_number}
use Rattle.plain.specs.Calls.{before_feed, has_feed, used_of, Effect, piece_effect, driver_effect, reading_effect, unreadable_effect, effect, call_steps, settle, step_if}
use Rattle.promise.proofs.Clients.{before_long}

abbrev Below : List ℕ → Type 0
Below [] = Unit {0}
Below (x ∷ xs) = (x ≤ 18) × Below xs

lowest_below : (xs : List ℕ) → Below xs → first_fault xs ≤ 18
unfolding first_fault
lowest_below [] h = omega arith
lowest_below (zero ∷ xs) h = lowest_below xs h.1
lowest_below (suc x ∷ xs) h = h.0

both_below : (xs ys : List ℕ) → Below xs → Below ys → Below (xs ++ ys)
both_below [] ys h l = l
both_below (x ∷ xs) ys h l = (h.0, both_below xs ys h.1 l)

below : (k : ℕ) (b : Bool) → k ≤ 18 → fault k b ≤ 18
below k true h = h
below k false h = omega arith

tree_below : (t : Table) → tree_number t ≤ 18
unfolding tree_number
tree_below t =
    lowest_below _ (
      below 2 (not (counts_good t)) (omega arith),
      (
        below 3 (not (names_good t)) (omega arith),
        (
          below 4 (not (datainfos_good t)) (omega arith),
          (below 5 (not (initials_good t)) (omega arith), (below 6 (ltb 32000 (length (report t))) (omega arith), tt)),
        ),
      ),
    )

read_below : (o : Option Table) → number_of o ≤ 18
unfolding number_of
read_below None = omega arith
read_below (Some t) = tree_below t

table_below : (xs : List ℕ) → table_number xs ≤ 18
unfolding table_number
table_below xs = read_below (read_table xs)

time_below : (t : ℕ) → fault10 t ≤ 18
time_below t = below 10 (ltb latest t) (omega arith)

client_below : (c : ℕ) → fault11 c ≤ 18
client_below c = below 11 (ltb 7 c) (omega arith)

lent_below : (table : List ℕ) (unfit : Bool) (e : Call) → Below (lent_faults table unfit e)
unfolding lent_faults
lent_below table unfit e = (
  table_below table,
  (
    below 7 (is_small e.event e.lent.outbox) (omega arith),
    (
      below 8 (ltb e.lent.area 16384) (omega arith),
      (below 18 (is_short e.lent.index) (omega arith), (below 9 unfit (omega arith), tt)),
    ),
  ),
)

own_below : (w : Table) (n : Node) (e : Event) → Below (own_faults w n e)
unfolding own_faults
own_below w n (Open c t) = (time_below t, (client_below c, (below 13 (is_open (n.clients c)) (omega arith), tt)))
own_below w n (Close c t) = (time_below t, (client_below c, (below 12 (not (is_open (n.clients c))) (omega arith), tt)))
own_below w n (Piece c bs t) = (time_below t, (client_below c, (below 12 (not (is_open (n.clients c))) (omega arith), tt)))
own_below w n (Reading p bs t) =
    let x = slice_get (parameters w) p in
    (time_below t, (below 14 (not (is_some x)) (omega arith), (below 15 (not (is_fit (reading_verdict x bs))) (omega arith), tt)))
own_below w n (Unreadable p k t) = (
  time_below t,
  (below 14 (not (is_some (slice_get (parameters w) p))) (omega arith), (below 16 (not (is_some (fault_of k))) (omega arith), tt)),
)

module _ (table : List ℕ) (unfit : Bool) (n : Node) where
  call_below : (e : Call) → call_number table unfit n e ≤ 18
  unfolding call_number
  call_below e =
      lowest_below _ (both_below (lent_faults table unfit e) (own_faults (table_of table) n e.event) (lent_below table unfit e)
      (own_below (table_of table) n e.event))

  settled_number : (k : ℕ) (e : Effect) (i : ℕ) → (settle k n e i).1.number ≡ k
  unfolding settle
  settled_number zero e i = refl
  settled_number (suc k) e i = refl

  settled_used : (k m : ℕ) (e : Effect) (i : ℕ) → e.used ≤ m → (settle k n e i).1.used ≤ m
  unfolding settle
  settled_used zero m e i h = h
  settled_used (suc k) m e i h = omega arith

  pub number_low : (e : Call) → (step_if table unfit n e).1.number ≤ 18
  unfolding step_if
  number_low e = rw (settled_number (call_number table unfit n e) (effect (table_of table) n e.event) (call_steps (table_of table) n e)) (call_below e)

  pub step_used : (e : Call) (m : ℕ) → (effect (table_of table) n e.event).used ≤ m → (step_if table unfit n e).1.used ≤ m
  unfolding step_if
  step_used e m h = settled_used (call_number table unfit n e) m (effect (table_of table) n e.event) (call_steps (table_of table) n e) h

-- ## An event uses no more bytes than it offers

reading_none : (n : Node) (k : ℕ) (x : Option (Placed Parameter)) (bs : List ℕ) (t : ℕ) → (reading_effect n k x bs t).used ≡ 0
unfolding reading_effect driver_effect
reading_none n k None bs t = refl
reading_none n k (Some p) bs t = refl

unreadable_none : (n : Node) (k : ℕ) (x : Option (Placed Parameter)) (f : Option Fault) (t : ℕ) → (unreadable_effect n k x f t).used ≡ 0
unfolding unreadable_effect driver_effect
unreadable_none n k None f t = refl
unreadable_none n k (Some p) None t = refl
unreadable_none n k (Some p) (Some f) t = refl

pub piece_used : (w : Table) (n : Node) (c : ℕ) (bs : List ℕ) (t : ℕ) → (effect w n (Piece c bs t)).used ≤ length bs
unfolding effect piece_effect used_of
piece_used w n c bs t = before_long bs

pub reading_used : (w : Table) (n : Node) (p : ℕ) (bs : List ℕ) (t m : ℕ) → (effect w n (Reading p bs t)).used ≤ m
unfolding effect
reading_used w n p bs t m = rw (reading_none n p (slice_get (parameters w) p) bs t) (omega arith)

pub unreadable_used : (w : Table) (n : Node) (p k t m : ℕ) → (effect w n (Unreadable p k t)).used ≤ m
unfolding effect
unreadable_used w n p k t m = rw (unreadable_none n p (slice_get (parameters w) p) (fault_of k) t) (omega arith)

pub open_used : (w : Table) (n : Node) (c t m : ℕ) → (effect w n (Open c t)).used ≤ m
unfolding effect
open_used w n c t m = omega arith

pub close_used : (w : Table) (n : Node) (c t m : ℕ) → (effect w n (Close c t)).used ≤ m
unfolding effect
close_used w n c t m = omega arith

-- ## A piece's call uses a byte at least, if there is one

pub used_some : (b : ℕ) (bs : List ℕ) → 1 ≤ used_of (b ∷ bs)
unfolding used_of before_feed has_feed
used_some b bs = go (eqb b 10)
  where
    go : (t : Bool) → 1 ≤ length (cond t [] (b ∷ before_feed bs)) + cond (cond t true (has_feed bs)) 1 0
    go true = omega arith
    go false = omega arith

settled_some : (n : Node) (k : ℕ) (e : Effect) (i : ℕ) → (settle k n e i).1.number ≡ 0 → (settle k n e i).1.used ≡ e.used
unfolding settle
settled_some n zero e i h = refl
settled_some n (suc k) e i h = absurd (omega arith)

pub piece_some : (table : List ℕ) (unfit : Bool) (n : Node) (c : ℕ) (bs : List ℕ) (t area outbox : ℕ) → 0 < length bs
    → (step_if table unfit n (with_outbox (Piece c bs t) area outbox)).1.number ≡ 0
    → 1 ≤ (step_if table unfit n (with_outbox (Piece c bs t) area outbox)).1.used
unfolding step_if effect piece_effect
piece_some table unfit n c [] t area outbox l h = absurd (omega arith)
piece_some table unfit n c (b ∷ bs) t area outbox l h =
    let e = with_outbox (Piece c (b ∷ bs) t) area outbox in
    let s = settled_some n (call_number table unfit n e) (effect (table_of table) n e.event) (call_steps (table_of table) n e) h in
    let u = used_some b bs in
    omega (arith, s)
