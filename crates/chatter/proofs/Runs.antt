-- The plain node run on a history's items, and on those that stay: the same for a client that sent none of the others. Assumes nothing.
use Rattle.std.specs.Prelude.{Option, Some, None, slice_get}
use Prim.Native.Nat.{ℕ, suc, ◌+◌}
use mathlib.Core.Bool.{Bool, true, false, cond, not, ◌&&◌, and-eq-true_iff, false≢true}
use mathlib.Core.List.{List, [], ◌∷◌, ◌++◌, append_assoc}
use mathlib.Core.Path.{◌≡◌, refl, sym, ◌∙◌, ap, ap₂, subst}
use lib.Dec.{eqb}
use native.Mathlib.Omega.{arith}
use borrow.Author.Tests.{eqb-true, eq-eqb}
use Rattle.counter.specs.Counts.{no_counts}
use Rattle.table.specs.Table.{Parameter, Table}
use Rattle.table.specs.Search.{Placed, parameters}
use Rattle.fit.specs.Fit.{stored_form}
use Rattle.message.specs.Error.{Fault, fault_of}
use Rattle.message.specs.Line.{Line, Parts, whole, content, parts_of}
use Rattle.message.specs.Request.{request}
use Rattle.message.specs.Reply.{Held, valued, failed, DataReport, Reply, changed}
use Rattle.outbox.specs.Outbox.{Record, final}
use Rattle.plain.specs.Node.{Client, closed, Node, put, with_client, counting, Setting, setting_value, fresh, line_of, receive, emptied, report_of, client_numbers, updates_to}
use Rattle.plain.specs.Answer.{Outcome, outcome, answer_parts, answer}
use Rattle.plain.specs.Calls.{Effect, driver_effect, reading_effect, unreadable_effect}
use Rattle.plain.specs.History.{Mark, feeds, opens, closes, reads, fails, Item, byte, mark, mark_of, item_of, cons_if, own, after, run_node, run_sent, joined}
use Rattle.rule.specs.Records.{replies_for}
use Rattle.rule.proofs.Laws.{NoFinal, replies_append, no_final_replies, updates_to_no_final}
use Rattle.plain.proofs.Outcomes.{node_after, before, reply_to, concluded}
use Rattle.rule.proofs.Calls.{quiet, idle}
use Rattle.second.proofs.Runs.{out_of, run}
use Rattle.chatter.specs.Without.{Choice, one_more, is_ended, without, sent_to, orders, orders_less}
use Rattle.chatter.proofs.Records.{sent_append, to_updates, none_ordered, sent_to_lem}
use Rattle.chatter.proofs.Near.{Beside, beside_emptied, beside_left, beside_byte, beside_byte_left, Near, near_out, near_settings, near_counted, near_counted_left, near_count, near_line, near_count_left, near_put, near_by, near_left, Told, told_append, final_same, told_final, told_final_left}
use Rattle.chatter.proofs.Lines.{agree, aside}

-- ## Replies that are still to come

-- no chosen line is answered by `changed` among these records, where each client e had k e replies before
abbrev pub Fine : Choice → (ℕ → ℕ) → List Record → Type 0
Fine f k rs = (e i : ℕ) (r : DataReport) → slice_get (replies_for e rs) i ≡ Some (changed r) → f e (k e + i) ≡ false

fine_append : (f : Choice) (k : ℕ → ℕ) (x y : List Record) → NoFinal x → Fine f k (x ++ y) → Fine f k y
fine_append f k x y q h e i r s =
    h e i r (ap (λ l. slice_get l i) (replies_append e x y ∙ ap (◌++ replies_for e y) (no_final_replies e x q)) ∙ s)

module _ (f : Choice) (k : ℕ → ℕ) (d : ℕ) (r : Reply) (y : List Record) (h : Fine f k (final d r ∷ y)) where
  fine_now : (x : DataReport) → r ≡ changed x → f d (k d) ≡ false
  unfolding replies_for
  fine_now x s =
      let z : k d ≡ k d + 0 = omega arith in
      ap (f d) z ∙ h d 0 x (ap (λ q. slice_get (cond q (r ∷ []) [] ++ replies_for d y) 0) (eq-eqb d d refl) ∙ ap Some s)

  fine_later : Fine f (one_more k d) y
  unfolding replies_for put
  fine_later e i x s = go (eqb e d) refl
    where
      go : (q : Bool) → eqb e d ≡ q → f e (cond q (suc (k d)) (k e) + i) ≡ false
      go true t =
          let u : e ≡ d = eqb-true e d t in
          let v : k e ≡ k d = ap k u in
          let z : suc (k d) + i ≡ k e + suc i = omega arith in
          ap (f e) z ∙ h e (suc i) x (ap (λ q. slice_get (cond q (r ∷ []) [] ++ replies_for e y) (suc i)) t ∙ s)
      go false t = h e i x (ap (λ q. slice_get (cond q (r ∷ []) [] ++ replies_for e y) i) t ∙ s)

-- ## Lines that are left out

-- whether the line that client d is within before the items x is left out
abbrev pub going : Choice → (ℕ → ℕ) → List Item → ℕ → Bool
going f k x d = is_ended (own d x) && f d (k d)

module _ (f : Choice) (k : ℕ → ℕ) (d : ℕ) (x : List Item) where
  going_byte : (b e : ℕ) → going f k (byte d b ∷ x) e ≡ going f k x e
  unfolding own item_of cons_if is_ended
  going_byte b e = go (eqb e d)
    where
      go : (q : Bool) → (is_ended (cons_if q (byte d b) (own e x)) && f e (k e)) ≡ (is_ended (own e x) && f e (k e))
      go true = refl
      go false = refl

  -- a mark of client d's is none of others'
  going_mark : (m : Mark) (e : ℕ) → mark_of e m ≡ false → going f k (mark m ∷ x) e ≡ going f k x e
  unfolding own item_of cons_if
  going_mark m e s = ap (λ q. is_ended (cons_if q (mark m) (own e x)) && f e (k e)) s

  going_feed : (t : ℕ) → going f k (mark (feeds d t) ∷ x) d ≡ f d (k d)
  unfolding own item_of mark_of cons_if is_ended
  going_feed t = ap (λ q. is_ended (cons_if q (mark (feeds d t)) (own d x)) && f d (k d)) (eq-eqb d d refl)

  going_more : (e : ℕ) → eqb e d ≡ false → going f k x e ≡ going f (one_more k d) x e
  unfolding put
  going_more e s = ap (λ q. is_ended (own e x) && f e (cond q (suc (k d)) (k e))) (sym s)

-- ## Items

module _ (w : Table) (c : ℕ) (f : Choice) (mine : (i : ℕ) → f c i ≡ false) where
  -- a client with a line that is chosen is another
  another : (d i : ℕ) → f d i ≡ true → eqb c d ≡ false
  another d i s = go (eqb c d) refl
    where
      go : (q : Bool) → eqb c d ≡ q → q ≡ false
      go true e = absurd (false≢true (sym (mine i) ∙ ap (λ j. f j i) (eqb-true c d e) ∙ s))
      go false e = refl

  -- what is claimed of all items from the nodes m and n on
  abbrev pub Claim : (ℕ → ℕ) → List Item → Type 0
  Claim k x = (m n : Node) → Near c (going f k x) m n → Fine f k (run w m x).1
      → Told c f (λ d. false) k (run w m x) (run w n (without f k x))

  claim_byte : (d b : ℕ) (k : ℕ → ℕ) (x : List Item) → Claim k x → Claim k (byte d b ∷ x)
  unfolding without cons_if after run_node run_sent joined
  claim_byte d b k x claim m n h g = go (going f k x d) refl
    where
      near : Near c (going f k x) m n
      near = near_out c _ _ m n (going_byte f k d x b) h

      go : (q : Bool) → going f k x d ≡ q
          → Told c f (λ e. false) k (run w m (byte d b ∷ x)) (run w n (cons_if (not q) (byte d b) (without f k x)))
      go true s =
          let r = (and-eq-true_iff (is_ended (own d x)) (f d (k d))).0 s in
          claim _ n
          (near_left c _ _ m n d near (λ e t. refl) (receive (m.clients d) (b ∷ [])) (another d (k d) r.1)
          (beside_byte_left (going f k x d) b _ _ s (near.each d)))
          g
      go false s =
          claim _ _
          (near_by c _ _ m n d near (λ e t. refl) (λ z. receive z (b ∷ [])) (beside_byte (going f k x d) b _ _ s (near.each d)))
          g

  -- an open or a close: a client that has nothing of before
  near_new : (i : Mark) (d : ℕ) (z : Client) (k : ℕ → ℕ) (x : List Item) → ((e : ℕ) → mark_of e i ≡ eqb e d) → line_of z ≡ whole []
      → (m n : Node) → Near c (going f k (mark i ∷ x)) m n → Near c (going f k x) (with_client m d z) (with_client n d z)
  near_new i d z k x own s m n h =
      near_put c _ _ m n d h (λ e t. going_mark f k d x i e (own e ∙ t)) z z (λ e. refl) (record { opened = refl; line = go (going f k x d) })
    where
      go : (q : Bool) → line_of z ≡ cond q (whole []) (line_of z)
      go true = s
      go false = refl

  -- what a driver tells
  abbrev ClaimEffect : (ℕ → ℕ) → List Item → (Node → Effect) → Type 0
  ClaimEffect k x e = (m n : Node) → Near c (going f k x) m n
      → let a = out_of (e m) in
      let b = out_of (e n) in
      Fine f k (a.1 ++ (run w a.0 x).1)
      → Told c f (λ d. false) k ((run w a.0 x).0, a.1 ++ (run w a.0 x).1) ((run w b.0 (without f k x)).0, b.1 ++ (run w b.0 (without f k x)).1)

  claim_driver : (p : ℕ) (y : Placed Parameter) (z : Held) (t : ℕ) (k : ℕ → ℕ) (x : List Item) → Claim k x
      → ClaimEffect k x (λ m. driver_effect m p y z t)
  unfolding driver_effect
  claim_driver p y z t k x claim m n h g =
      let s : Setting = record { parameter = p; held = z; time = t } in
      let r = report_of y (setting_value s) in
      let q = updates_to_no_final m.clients y.home r client_numbers in
      let e = sent_to_lem c m.clients n.clients h.client y.home r client_numbers in
      let a = near_counted c _ _ _ (near_settings c _ m n (s ∷ []) h) _ _ e in
      told_append c f (λ d. false) (going f k x) k _ _ _ _ q
      (record {
        nodes = a;
        sends = e;
        ordered = none_ordered f k _ _ (to_updates m.clients y.home r client_numbers) (to_updates n.clients y.home r client_numbers);
      })
      (claim _ _ a (fine_append f k (updates_to m.clients y.home r client_numbers) _ q g))

  claim_reading : (p : ℕ) (bs : List ℕ) (t : ℕ) (k : ℕ → ℕ) (x : List Item) → Claim k x → (o : Option (Placed Parameter))
      → ClaimEffect k x (λ m. reading_effect m p o bs t)
  unfolding reading_effect
  claim_reading p bs t k x claim None = claim
  claim_reading p bs t k x claim (Some y) = claim_driver p y (valued (stored_form y.it.datainfo bs)) t k x claim

  claim_unreadable : (p t : ℕ) (k : ℕ → ℕ) (x : List Item) → Claim k x → (o : Option (Placed Parameter)) (z : Option Fault)
      → ClaimEffect k x (λ m. unreadable_effect m p o z t)
  unfolding unreadable_effect
  claim_unreadable p t k x claim None z = claim
  claim_unreadable p t k x claim (Some y) None = claim
  claim_unreadable p t k x claim (Some y) (Some z) = claim_driver p y (failed z) t k x claim

  -- ## Lines

  module _ (d t : ℕ) where
    -- what client d's line comes to, and the items after it
    abbrev Of : Node → Parts → Outcome
    Of m p = outcome w (idle m d) d t (request p)

    -- what it sends, and the node that it leaves
    abbrev sent_by : Node → Parts → List Record
    sent_by m p = before (Of m p) ++ (final d (reply_to p (Of m p)) ∷ [])

    abbrev left_by : Node → Parts → Node
    left_by m p = counting (node_after (idle m d) (Of m p)) (sent_by m p)

    abbrev line_then : Node → Parts → List Item → Node × List Record
    line_then m p x =
        let a = run w (left_by m p) x in
        (a.0, before (Of m p) ++ (final d (reply_to p (Of m p)) ∷ a.1))

    run_line : (m : Node) (l : Line) (x : List Item) → line_of (m.clients d) ≡ l
        → run w m (mark (feeds d t) ∷ x) ≡ line_then m (parts_of (content l)) x
    unfolding answer answer_parts after run_node run_sent joined
    run_line m l x e =
        let p = parts_of (content l) in
        ap
        (λ (a : Node × List Record). ((run w a.0 x).0, a.1 ++ (run w a.0 x).1))
        (ap
        (λ (r : Node × List Record). (counting r.0 r.1, r.1))
        (ap (λ z. answer_parts w (idle m d) d t (parts_of (content z))) e ∙ concluded w (idle m d) d t p (Of m p)))
        ∙ λ i. (
          (run w (left_by m p) x).0,
          append_assoc (before (Of m p)) (final d (reply_to p (Of m p)) ∷ []) (run w (left_by m p) x).1 i,
        )

    -- what is sent, the reply among it
    sent_same : (a b : List Record) (r s : Reply) → sent_to c b ≡ sent_to c a → (eqb c d ≡ true → s ≡ r)
        → sent_to c (b ++ (final d s ∷ [])) ≡ sent_to c (a ++ (final d r ∷ []))
    unfolding sent_to
    sent_same a b r s e i =
        sent_append c b (final d s ∷ [])
        ∙ ap₂ ◌++◌ e (ap (◌++ []) (final_same c d r s i (eqb c d) refl))
        ∙ sym (sent_append c a (final d r ∷ []))

    sent_left : (a : List Record) (r : Reply) → eqb c d ≡ false → sent_to c [] ≡ sent_to c a → sent_to c (a ++ (final d r ∷ [])) ≡ []
    unfolding sent_to
    sent_left a r e i =
        sent_append c a (final d r ∷ []) ∙ ap₂ (λ x q. x ++ (cond q (final d r ∷ []) [] ++ [])) (sym i) e

    module _ (k : ℕ → ℕ) (x : List Item) (claim : Claim (one_more k d) x) (m n : Node) (h : Near c (going f k (mark (feeds d t) ∷ x)) m n)
        (g : Fine f k (run w m (mark (feeds d t) ∷ x)).1) where
      -- the line, what it comes to at the first, and whose lines go on to be left out
      abbrev p : Parts
      p = parts_of (content (line_of (m.clients d)))

      abbrev out : ℕ → Bool
      out = going f (one_more k d) x

      others : (e : ℕ) → eqb e d ≡ false → going f k (mark (feeds d t) ∷ x) e ≡ going f (one_more k d) x e
      unfolding mark_of
      others e s = going_mark f k d x (feeds d t) e s ∙ going_more f k d x e s

      beside : (q : Bool) → f d (k d) ≡ q → Beside q (m.clients d) (n.clients d)
      beside q s = subst (λ b. Beside b (m.clients d) (n.clients d)) (going_feed f k d x t ∙ s) (h.each d)

      still : NoFinal (before (Of m p))
      still = quiet w (idle m d) d t (request p)

      fine : Fine f k (final d (reply_to p (Of m p)) ∷ (run w (left_by m p) x).1)
      fine =
          fine_append f k (before (Of m p)) _ still
          (subst (λ (a : Node × List Record). Fine f k a.1) (run_line m (line_of (m.clients d)) x refl) g)

      feed_left : f d (k d) ≡ true
          → Told c f (λ e. false) k (run w m (mark (feeds d t) ∷ x)) (run w n (without f (one_more k d) x))
      feed_left s =
          let e = another d (k d) s in
          let near : Near c out (idle m d) n =
          near_count_left c _ _ _ (near_left c _ out m n d h others (emptied (m.clients d)) e (beside_left (out d) _ _ (beside true s))) d _ e in
          let a =
          aside c f out k w d t p (idle m d) n near e s (request p) (λ y v. false≢true (sym (fine_now f k d _ _ fine y v) ∙ s)) in
          let u = near_counted_left c _ _ _ a.nodes (sent_by m p) (sent_left (before (Of m p)) (reply_to p (Of m p)) e a.sends) in
          let b = claim (left_by m p) n u (fine_later f k d _ _ fine) in
          subst
          (λ z. Told c f (λ e. false) k z (run w n (without f (one_more k d) x)))
          (sym (run_line m (line_of (m.clients d)) x refl))
          (told_append c f (λ e. false) out k _ _ _ _ still a (told_final_left c f (λ e. false) k d _ _ b (reply_to p (Of m p)) e))

      feed_kept : f d (k d) ≡ false
          → Told c f (λ e. false) k (run w m (mark (feeds d t) ∷ x)) (run w n (mark (feeds d t) ∷ without f (one_more k d) x))
      feed_kept s =
          let near : Near c out (idle m d) (idle n d) =
          near_line c _ _ _ (near_by c _ out m n d h others emptied (beside_emptied (out d) _ _ (h.each d).opened)) d in
          let a = agree c f out k w d t p (idle m d) (idle n d) near s (request p) in
          let u =
          near_counted c _ _ _ a.told.nodes (sent_by m p) (sent_by n p)
          (sent_same (before (Of m p)) (before (Of n p)) _ _ a.told.sends a.reply) in
          let b = claim (left_by m p) (left_by n p) u (fine_later f k d _ _ fine) in
          let r =
          told_append c f (λ e. false) out k _ _ _ _ still a.told
          (told_final c f (λ e. false) k d _ _ b (reply_to p (Of m p)) (reply_to p (Of n p)) a.reply) in
          subst
          (λ z. Told c f (λ e. false) k z (run w n (mark (feeds d t) ∷ without f (one_more k d) x)))
          (sym (run_line m (line_of (m.clients d)) x refl))
          (subst
          (λ z. Told c f (λ e. false) k (line_then m p x) z)
          (sym (run_line n (line_of (m.clients d)) (without f (one_more k d) x) (beside false s).line))
          r)

      claim_feed : Told c f (λ e. false) k (run w m (mark (feeds d t) ∷ x)) (run w n (without f k (mark (feeds d t) ∷ x)))
      unfolding without cons_if
      claim_feed = go (f d (k d)) refl
        where
          go : (q : Bool) → f d (k d) ≡ q
              → Told c f (λ e. false) k (run w m (mark (feeds d t) ∷ x))
              (run w n (cons_if (not q) (mark (feeds d t)) (without f (one_more k d) x)))
          go true s = feed_left s
          go false s = feed_kept s

  -- ## All items

  pub claims : (x : List Item) (k : ℕ → ℕ) → Claim k x
  unfolding without own is_ended mark_of line_of sent_to orders orders_less after run_node run_sent joined
  claims [] k m n h g = record { nodes = near_out c _ _ m n (λ d. refl) h; sends = refl; ordered = refl }
  claims (byte d b ∷ x) k m n h g = claim_byte d b k x (claims x k) m n h g
  claims (mark (feeds d t) ∷ x) k m n h g = claim_feed d t k x (claims x (one_more k d)) m n h g
  claims (mark (opens d t) ∷ x) k m n h g =
      claims x k _ _ (near_count c _ _ _ (near_new (opens d t) d fresh k x (λ e. refl) refl m n h) d no_counts no_counts (λ e. (refl, refl))) g
  claims (mark (closes d t) ∷ x) k m n h g = claims x k _ _ (near_new (closes d t) d closed k x (λ e. refl) refl m n h) g
  claims (mark (reads i bs t) ∷ x) k m n h g =
      claim_reading i bs t k x (claims x k) (slice_get (parameters w) i) m n
      (near_out c _ _ m n (λ e. going_mark f k 0 x (reads i bs t) e refl) h)
      g
  claims (mark (fails i j t) ∷ x) k m n h g =
      claim_unreadable i t k x (claims x k) (slice_get (parameters w) i) (fault_of j) m n
      (near_out c _ _ m n (λ e. going_mark f k 0 x (fails i j t) e refl) h)
      g
