-- When a call is accepted, and that each call does what the items that it used do. Assumes nothing.
use Rattle.std.specs.Prelude.{slice_get}
use Prim.Native.Nat.{ℕ, zero, suc, ◌≤◌}
use mathlib.Core.Bool.{Bool, true, false, cond, not, ◌&&◌, So, and-eq-true_iff, false≢true}
use mathlib.Core.List.{List, [], ◌∷◌, append-nil}
use mathlib.Core.Path.{◌≡◌, refl, sym, ◌∙◌, ap, ap₂}
use mathlib.Core.Logic.{◌↔◌}
use lib.Dec.{eqb, ltb}
use native.Mathlib.Omega.{arith}
use borrow.Author.Tests.{eq-eqb, eqb-true, le-ltb, ltb-false}
use Rattle.ascii.specs.Bytes.{is_some, all}
use Rattle.ascii.specs.Numbers.{latest}
use Rattle.fit.specs.Fit.{is_fit}
use Rattle.table.specs.Table.{Table}
use Rattle.table.specs.Layout.{table_of}
use Rattle.table.specs.Search.{parameters}
use Rattle.report.specs.Judge.{fault, first_fault, table_number}
use Rattle.message.specs.Error.{fault_of}
use Rattle.outbox.specs.Outbox.{Record}
use Rattle.plain.specs.Node.{Node, put, with_client, is_open, receive, with_clients}
use Rattle.plain.specs.Answer.{answer}
use Rattle.plain.specs.Calls.{Event, Open, Close, Piece, Reading, Unreadable, Call, fault10, reading_verdict, own_faults, call_number, before_feed, has_feed, ended, piece_effect, effect, settle, settling, step_if}
use Rattle.plain.specs.History.{step, Mark, feeds, opens, closes, reads, fails, Item, byte, mark, mark_of, item_of, cons_if, own, marks, piece_items, items_of, if_accepted, InTime, Roomy, standing, after, run_node, run_sent, joined}
use Rattle.plain.proofs.Numbers.{accepted_call}
use Rattle.plain.proofs.Put.{put_at, put_same, put_put}
use Rattle.plain.proofs.Clients.{receive_more}
use Rattle.second.proofs.Items.{due, in_order}
use Rattle.second.proofs.Runs.{out_of, run}

-- ## Numbers

-- the time, and the faults after it
in_time_lem : (t : ℕ) (ks : List ℕ) → (first_fault (fault10 t ∷ ks) ≡ 0) ↔ ((t ≤ latest) × (first_fault ks ≡ 0))
unfolding first_fault
in_time_lem t ks = go (ltb latest t) refl
  where
    go : (b : Bool) → ltb latest t ≡ b → (first_fault (fault 10 b ∷ ks) ≡ 0) ↔ ((t ≤ latest) × (first_fault ks ≡ 0))
    go true e = (λ h. absurd (omega arith), λ h. absurd (false≢true (sym (le-ltb latest t h.0) ∙ e)))
    go false e = (λ h. (ltb-false latest t e, h), λ h. h.1)

-- the last two
two_faults : (j k : ℕ) (a b : Bool) → (first_fault (fault (suc j) a ∷ fault (suc k) b ∷ []) ≡ 0) ↔ So (not a && not b)
unfolding first_fault
two_faults j k true b = (λ e. absurd (omega arith), λ e. absurd (false≢true e))
two_faults j k false true = (λ e. absurd (omega arith), λ e. absurd (false≢true e))
two_faults j k false false = (λ e. refl, λ e. refl)

module _ (table : List ℕ) where
  -- a reading for a parameter that there is, with a value that fits it, or a report of such a parameter with a class that there is
  abbrev pub readable : Mark → Bool
  readable (feeds c t) = true
  readable (opens c t) = true
  readable (closes c t) = true
  readable (reads p bs t) =
      not (not (is_some (slice_get (parameters (table_of table)) p)))
      && not (not (is_fit (reading_verdict (slice_get (parameters (table_of table)) p) bs)))
  readable (fails p k t) = not (not (is_some (slice_get (parameters (table_of table)) p))) && not (not (is_some (fault_of k)))

  -- what an event needs besides its time
  abbrev pub permitted : Node → Event → Bool
  permitted n (Open c t) = due c (is_open (n.clients c)) (mark (opens c t))
  permitted n (Close c t) = due c (is_open (n.clients c)) (mark (closes c t))
  permitted n (Piece c bs t) = due c (is_open (n.clients c)) (mark (feeds c t))
  permitted n (Reading p bs t) = readable (reads p bs t)
  permitted n (Unreadable p k t) = readable (fails p k t)

  timed : (t j k : ℕ) (p q : Bool) → (first_fault (fault10 t ∷ fault (suc j) p ∷ fault (suc k) q ∷ []) ≡ 0) ↔ ((t ≤ latest) × So (not p && not q))
  timed t j k p q =
      let f = in_time_lem t (fault (suc j) p ∷ fault (suc k) q ∷ []) in
      let g = two_faults j k p q in
      (λ h. ((f.0 h).0, g.0 (f.0 h).1), λ h. f.1 (h.0, g.1 h.1))

  by_itself : (n : Node) (e : Event) → (first_fault (own_faults (table_of table) n e) ≡ 0) ↔ (InTime e × So (permitted n e))
  unfolding own_faults
  by_itself n (Open c t) = timed t 10 12 (ltb 7 c) (is_open (n.clients c))
  by_itself n (Close c t) = timed t 10 11 (ltb 7 c) (not (is_open (n.clients c)))
  by_itself n (Piece c bs t) = timed t 10 11 (ltb 7 c) (not (is_open (n.clients c)))
  by_itself n (Reading p bs t) =
      let x = slice_get (parameters (table_of table)) p in
      timed t 13 14 (not (is_some x)) (not (is_fit (reading_verdict x bs)))
  by_itself n (Unreadable p k t) = timed t 13 15 (not (is_some (slice_get (parameters (table_of table)) p))) (not (is_some (fault_of k)))

  pub accepts : table_number table ≡ 0 → (n : Node) (e : Call) → (call_number table false n e ≡ 0) ↔ (Roomy e × So (permitted n e.event))
  accepts z n e =
      let f = accepted_call table false e n in
      let g = by_itself n e.event in (
        λ h.
            let l = (f.0 h).0 in
            let o = g.0 (f.0 h).1 in
            (record { outbox = l.outbox; area = l.area; index = l.index; in_time = o.0 }, o.1),
        λ h. f.1 (record { accepted = z; outbox = h.0.outbox; area = h.0.area; index = h.0.index; fit = refl }, g.1 (h.0.in_time, h.1)),
      )

-- ## Items of an accepted call

-- an item that is a client's, or another's, before items that are in order
order_own : (d : ℕ) (b : Bool) (i : Item) (x : List Item) (q : Bool) → (So q → So (due d b i))
    → So (in_order d (standing b (i ∷ [])) x) → So (in_order d b x) → So (in_order d b (cons_if q i x))
unfolding cons_if
order_own d b i x true h k l = ap₂ ◌&&◌ (h refl) k
order_own d b i x false h k l = l

own_order : (d : ℕ) (b : Bool) (i : Item) (x : List Item) (q : Bool) → So q → So (in_order d b (cons_if q i x)) → So (due d b i)
unfolding cons_if
own_order d b i x true e h = ((and-eq-true_iff (due d b i) (in_order d (standing b (i ∷ [])) x)).0 h).0
own_order d b i x false e h = absurd (false≢true e)

module _ (c t : ℕ) where
  -- the items of a piece: none, or a first that decides
  piece_order : (d : ℕ) (b : Bool) → (So (eqb d c) → So (due d b (mark (feeds c t)))) → (bs : List ℕ)
      → So (in_order d b (own d (piece_items c t bs)))
  unfolding piece_items own item_of mark_of standing
  piece_order d b h [] = refl
  piece_order d b h (v ∷ bs) = go (eqb v 10) (piece_order d b h bs)
    where
      go : (q : Bool) → So (in_order d b (own d (piece_items c t bs)))
          → So (in_order d b (own d (cond q (mark (feeds c t) ∷ []) (byte c v ∷ piece_items c t bs))))
      go true k = order_own d b (mark (feeds c t)) [] (eqb d c) h refl refl
      go false k = order_own d b (byte c v) (own d (piece_items c t bs)) (eqb d c) h k k

  pub order_piece : (b : Bool) (v : ℕ) (bs : List ℕ) → So (in_order c b (own c (piece_items c t (v ∷ bs)))) → So (due c b (mark (feeds c t)))
  unfolding piece_items own item_of mark_of
  order_piece b v bs = go (eqb v 10)
    where
      go : (q : Bool) → So (in_order c b (own c (cond q (mark (feeds c t) ∷ []) (byte c v ∷ piece_items c t bs))))
          → So (due c b (mark (feeds c t)))
      go true h = own_order c b (mark (feeds c t)) [] (eqb c c) (eq-eqb c c refl) h
      go false h = own_order c b (byte c v) (own c (piece_items c t bs)) (eqb c c) (eq-eqb c c refl) h

  piece_reads : (table bs : List ℕ) → So (all (readable table) (marks (piece_items c t bs)))
  unfolding piece_items marks all
  piece_reads table [] = refl
  piece_reads table (v ∷ bs) = go (eqb v 10) (piece_reads table bs)
    where
      go : (q : Bool) → So (all (readable table) (marks (piece_items c t bs)))
          → So (all (readable table) (marks (cond q (mark (feeds c t) ∷ []) (byte c v ∷ piece_items c t bs))))
      go true h = refl
      go false h = h

module _ (table : List ℕ) (n : Node) where
  at_client : (i : Item) (d c : ℕ) → So (due c (is_open (n.clients c)) i) → So (eqb d c) → So (due d (is_open (n.clients d)) i)
  at_client i d c h e = ap (λ k. due k (is_open (n.clients k)) i) (eqb-true d c e) ∙ h

  call_order : (e : Event) → So (permitted table n e) → (d : ℕ) → So (in_order d (is_open (n.clients d)) (own d (items_of e)))
  unfolding items_of own item_of mark_of cons_if
  call_order (Open c t) h d =
      order_own d _ (mark (opens c t)) [] (eqb d c) (at_client (mark (opens c t)) d c h) refl refl
  call_order (Close c t) h d =
      order_own d _ (mark (closes c t)) [] (eqb d c) (at_client (mark (closes c t)) d c h) refl refl
  call_order (Piece c bs t) h d = piece_order c t d _ (at_client (mark (feeds c t)) d c h) bs
  call_order (Reading p bs t) h d = refl
  call_order (Unreadable p k t) h d = refl

  call_reads : (e : Event) → So (permitted table n e) → So (all (readable table) (marks (items_of e)))
  unfolding items_of marks all
  call_reads (Open c t) h = refl
  call_reads (Close c t) h = refl
  call_reads (Piece c bs t) h = piece_reads c t table bs
  call_reads (Reading p bs t) h = ap (◌&& true) h
  call_reads (Unreadable p k t) h = ap (◌&& true) h

  -- and back: an empty piece has no items, so that its client's due is asked for
  pub order_call : (e : Event) → ((d : ℕ) → So (in_order d (is_open (n.clients d)) (own d (items_of e))))
      → So (all (readable table) (marks (items_of e)))
      → ((c t : ℕ) → e ≡ Piece c [] t → So (due c (is_open (n.clients c)) (mark (feeds c t))))
      → So (permitted table n e)
  unfolding items_of own item_of mark_of marks all
  order_call (Open c t) h r k = own_order c _ (mark (opens c t)) [] (eqb c c) (eq-eqb c c refl) (h c)
  order_call (Close c t) h r k = own_order c _ (mark (closes c t)) [] (eqb c c) (eq-eqb c c refl) (h c)
  order_call (Piece c [] t) h r k = k c t refl
  order_call (Piece c (b ∷ bs) t) h r k = order_piece c t _ b bs (h c)
  order_call (Reading p bs t) h r k = ((and-eq-true_iff (readable table (reads p bs t)) true).0 r).0
  order_call (Unreadable p x t) h r k = ((and-eq-true_iff (readable table (fails p x t)) true).0 r).0

-- ## Effects

module _ (w : Table) (c t : ℕ) where
  -- a piece does what its items do
  piece_run : (bs : List ℕ) (n : Node)
      → ended w (with_client n c (receive (n.clients c) (before_feed bs))) c t (has_feed bs) ≡ run w n (piece_items c t bs)
  unfolding before_feed has_feed piece_items ended receive after run_node run_sent joined
  piece_run [] n = λ i. (with_clients n (put_same n.clients c i), [])
  piece_run (b ∷ bs) n = go (eqb b 10) (piece_run bs (after w n (byte c b)).0)
    where
      go : (q : Bool)
          → (let m = (after w n (byte c b)).0 in
          ended w (with_client m c (receive (m.clients c) (before_feed bs))) c t (has_feed bs) ≡ run w m (piece_items c t bs))
          → ended w (with_client n c (receive (n.clients c) (cond q [] (b ∷ before_feed bs)))) c t (cond q true (has_feed bs))
          ≡ run w n (cond q (mark (feeds c t) ∷ []) (byte c b ∷ piece_items c t bs))
      go true h =
          ap (λ f. answer w (with_clients n f) c t) (put_same n.clients c)
          ∙ λ i. ((answer w n c t).0, sym (append-nil (answer w n c t).1) i)
      go false h =
          let f = n.clients in
          let x = receive (f c) (b ∷ []) in
          ap
          (λ g. ended w (with_clients n g) c t (has_feed bs))
          (ap (put f c) (receive_more (f c) b (before_feed bs))
          ∙ sym (put_put f c x (receive x (before_feed bs)))
          ∙ ap (λ y. put (put f c x) c (receive y (before_feed bs))) (sym (put_at f c x)))
          ∙ h

effect_run : (w : Table) (n : Node) (e : Event) → out_of (effect w n e) ≡ run w n (items_of e)
unfolding effect piece_effect items_of after run_node run_sent joined
effect_run w n (Open c t) = refl
effect_run w n (Close c t) = refl
effect_run w n (Piece c bs t) = piece_run w c t bs n
effect_run w n (Reading p bs t) =
    let r = after w n (mark (reads p bs t)) in
    λ i. (r.0, sym (append-nil r.1) i)
effect_run w n (Unreadable p k t) =
    let r = after w n (mark (fails p k t)) in
    λ i. (r.0, sym (append-nil r.1) i)

-- ## Steps

-- what is to hold of the items x that were used from the node n on, with what they came to
pub record Used (table : List ℕ) (n : Node) (x : List Item) (r : Node × List Record) : Type 0 where
  pub ran : r ≡ run (table_of table) n x
  pub ordered : (d : ℕ) → So (in_order d (is_open (n.clients d)) (own d x))
  pub readings : So (all (readable table) (marks x))

pub none_used : (table : List ℕ) (n : Node) → Used table n [] (n, [])
unfolding own marks all run_node run_sent joined
none_used table n = record { ran = refl; ordered = λ d. refl; readings = refl }

module _ (table : List ℕ) (n : Node) (e : Call) where
  pub step_number : (step table n e).1.number ≡ call_number table false n e
  unfolding step step_if settle
  step_number = go (call_number table false n e)
    where
      go : (j : ℕ) → (settling table n e j).1.number ≡ j
      go zero = refl
      go (suc j) = refl

  -- Every call, accepted or not, does what the items that it used do.
  pub step_used : Used table n (if_accepted (step table n e).1.number (items_of e.event)) ((step table n e).0, (step table n e).1.records)
  unfolding step step_if settle if_accepted
  step_used = go (call_number table false n e) refl
    where
      go : (j : ℕ) → call_number table false n e ≡ j → let r = settling table n e j in
          Used table n (if_accepted r.1.number (items_of e.event)) (r.0, r.1.records)
      go zero q =
          let h = ((accepts table ((accepted_call table false e n).0 q).0.accepted n e).0 q).1 in
          record {
            ran = effect_run (table_of table) n e.event;
            ordered = call_order table n e.event h;
            readings = call_reads table n e.event h;
          }
      go (suc j) q = none_used table n
