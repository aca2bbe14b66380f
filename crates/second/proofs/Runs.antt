-- The plain node run on items, and why it depends on each client's own items and on the marks alone. Assumes nothing.
use Rattle.std.specs.Prelude.{Option, Some, None, slice_get}
use Prim.Native.Nat.{ℕ}
use mathlib.Core.Bool.{Bool, true, false, cond}
use mathlib.Core.List.{List, [], ◌∷◌, ◌++◌, tail, append_assoc}
use mathlib.Core.Path.{◌≡◌, refl, sym, ◌∙◌, ap, ap₂, fun_ext}
use lib.Dec.{eqb}
use borrow.Author.Tests.{eq-eqb}
use Rattle.table.specs.Table.{Parameter, Table}
use Rattle.table.specs.Search.{Placed, parameters}
use Rattle.fit.specs.Fit.{stored_form}
use Rattle.message.specs.Line.{Line, whole, with_byte, content, parts_of}
use Rattle.message.specs.Error.{Fault, fault_of}
use Rattle.message.specs.Reply.{Held, valued, failed}
use Rattle.outbox.specs.Outbox.{Record}
use Rattle.counter.specs.Counts.{no_counts, lines_counted}
use Rattle.plain.specs.Node.{Client, closed, connected, Node, put, with_client, with_value, fresh, is_open, line_of, receive, emptied, report_of, client_numbers, holding, with_clients}
use Rattle.plain.specs.Node.{with_count, opened, line_taken, counting}
use Rattle.plain.specs.Answer.{answer_parts, answer}
use Rattle.plain.specs.Calls.{Effect, driver_effect, reading_effect, unreadable_effect}
use Rattle.plain.specs.History.{Mark, feeds, opens, closes, reads, fails, Item, byte, mark, mark_of, item_of, cons_if, own, marks, standing, after, run_node, run_sent, joined}
use Rattle.plain.proofs.Put.{put_cases, put_same}
use Rattle.plain.proofs.Clients.{receive_open, emptied_open}
use Rattle.second.proofs.Items.{own_append, standing_append}
use Rattle.second.proofs.Lines.{relined, weave, weave_put, updates_woven, answered, answered_open}

-- an effect's node and records
abbrev pub out_of : Effect → Node × List Record
out_of e = (e.next, e.records)

-- the lines that stand first
abbrev first_line : List Line → Line
first_line [] = whole []
first_line (l ∷ ls) = l

-- one client's line before each of its own marks, and at the end
abbrev seen : Line → List Item → List Line
seen l [] = l ∷ []
seen l (byte c b ∷ x) = seen (with_byte l b) x
seen l (mark m ∷ x) = l ∷ seen (whole []) x

abbrev lines : (ℕ → Line) → List Item → ℕ → List Line
lines s x d = seen (s d) (own d x)

-- a mark leaves its client no line
abbrev reset : (ℕ → Line) → Mark → ℕ → Line
reset s m d = cond (mark_of d m) (whole []) (s d)

abbrev pop : (ℕ → List Line) → Mark → ℕ → List Line
pop f m d = cond (mark_of d m) (tail (f d)) (f d)

module _ (w : Table) where
  -- the node that items leave, and all that is sent at them
  abbrev pub run : Node → List Item → Node × List Record
  run n x = (run_node w n x, joined (run_sent w n x))

  pub run_append : (x y : List Item) (n : Node) → run n (x ++ y) ≡ ((run (run n x).0 y).0, (run n x).1 ++ (run (run n x).0 y).1)
  unfolding run_node run_sent joined
  run_append [] y n = refl
  run_append (i ∷ x) y n =
      let r = run_append x y (after w n i).0 in
      λ j. ((r j).0, (ap (λ q. (after w n i).1 ++ q.1) r ∙ sym (append_assoc (after w n i).1 (run (after w n i).0 x).1 _)) j)

  -- a line is counted; so is what is sent
  abbrev with_line : Node → ℕ → Node
  with_line n c = with_count n c (lines_counted (n.counts c) 1)

  abbrev told : Node × List Record → Node × List Record
  told r = (counting r.0 r.1, r.1)

  -- the same by marks alone, at a node whose lines are not looked at, where each client's lines are given
  abbrev after_mark : Node → (ℕ → Line) → Mark → Node × List Record
  after_mark n s (feeds c t) = told (answer_parts w (with_line n c) c t (parts_of (content (line_of (relined (n.clients c) (s c))))))
  after_mark n s (opens c t) = (opened n c, [])
  after_mark n s (closes c t) = (with_client n c closed, [])
  after_mark n s (reads p bs t) = out_of (reading_effect n p (slice_get (parameters w) p) bs t)
  after_mark n s (fails p k t) = out_of (unreadable_effect n p (slice_get (parameters w) p) (fault_of k) t)

  abbrev run_by : Node → (ℕ → List Line) → List Mark → Node × List Record
  run_by n f [] = (weave n (λ d. first_line (f d)), [])
  run_by n f (m ∷ ms) =
      let a = after_mark n (λ d. first_line (f d)) m in
      ((run_by a.0 (pop f m) ms).0, a.1 ++ (run_by a.0 (pop f m) ms).1)

  -- what an item does to a node with other lines
  weave_line : (n : Node) (s : ℕ → Line) (c : ℕ) (l : Line) → with_client (weave n s) c (relined (n.clients c) l) ≡ weave n (put s c l)
  weave_line n s c l =
      weave_put n s c (n.clients c) l
      ∙ ap (λ f. weave (with_clients n f) (put s c l)) (put_same n.clients c)

  after_byte : (n : Node) (s : ℕ → Line) (c b : ℕ) → (after w (weave n s) (byte c b)).0 ≡ weave n (put s c (with_byte (s c) b))
  unfolding after receive
  after_byte n s c b = ap (with_client (weave n s) c) (go (n.clients c) (s c)) ∙ weave_line n s c (with_byte (s c) b)
    where
      go : (x : Client) (l : Line) → receive (relined x l) (b ∷ []) ≡ relined x (with_byte l b)
      go closed l = refl
      go (connected k a) l = refl

  -- what a driver tells, of parameter p, which is q
  after_driver : (n : Node) (s : ℕ → Line) (p : ℕ) (q : Placed Parameter) (h : Held) (t : ℕ)
      → out_of (driver_effect (weave n s) p q h t) ≡ (weave (driver_effect n p q h t).next s, (driver_effect n p q h t).records)
  unfolding driver_effect
  after_driver n s p q h t =
      let e = updates_woven n.clients s q.home (report_of q (holding h t)) client_numbers in
      ap (λ (rs : List Record). (weave (counting (with_value n p (holding h t)) rs) s, rs)) e

  after_mark_lem : (n : Node) (s : ℕ → Line) (m : Mark)
      → after w (weave n s) (mark m) ≡ (weave (after_mark n s m).0 (reset s m), (after_mark n s m).1)
  unfolding after answer emptied reading_effect unreadable_effect put mark_of
  after_mark_lem n s (feeds c t) =
      let p = parts_of (content (line_of (relined (n.clients c) (s c)))) in
      ap (λ m. told (answer_parts w (with_line m c) c t p)) (ap (with_client (weave n s) c) (go (n.clients c) (s c)) ∙ weave_line n s c (whole []))
      ∙ ap told (answered w c t p (with_line n c) (put s c (whole [])))
    where
      go : (x : Client) (l : Line) → emptied (relined x l) ≡ relined x (whole [])
      go closed l = refl
      go (connected k a) l = refl
  after_mark_lem n s (opens c t) = ap (λ (m : Node). (with_count m c no_counts, [])) (weave_put n s c fresh (whole []))
  after_mark_lem n s (closes c t) = λ i. (weave_put n s c closed (whole []) i, [])
  after_mark_lem n s (reads p bs t) = go (slice_get (parameters w) p)
    where
      go : (o : Option (Placed Parameter)) → out_of (reading_effect (weave n s) p o bs t)
          ≡ (weave (reading_effect n p o bs t).next s, (reading_effect n p o bs t).records)
      go None = refl
      go (Some q) = after_driver n s p q (valued (stored_form q.it.datainfo bs)) t
  after_mark_lem n s (fails p k t) = go (slice_get (parameters w) p) (fault_of k)
    where
      go : (o : Option (Placed Parameter)) (x : Option Fault) → out_of (unreadable_effect (weave n s) p o x t)
          ≡ (weave (unreadable_effect n p o x t).next s, (unreadable_effect n p o x t).records)
      go None x = refl
      go (Some q) None = refl
      go (Some q) (Some f) = after_driver n s p q (failed f) t

  -- the lines that are seen
  lines_byte : (s : ℕ → Line) (c b : ℕ) (x : List Item) → lines (put s c (with_byte (s c) b)) x ≡ lines s (byte c b ∷ x)
  unfolding own cons_if item_of
  lines_byte s c b x =
      fun_ext
      (put_cases
      (λ d l. seen l (own d x) ≡ seen (s d) (cons_if (eqb d c) (byte c b) (own d x)))
      s
      c
      (with_byte (s c) b)
      (ap (λ q. seen (s c) (cons_if q (byte c b) (own c x))) (sym (eq-eqb c c refl)))
      (λ d e. ap (λ q. seen (s d) (cons_if q (byte c b) (own d x))) (sym e)))

  lines_mark : (s : ℕ → Line) (m : Mark) (x : List Item) → lines (reset s m) x ≡ pop (lines s (mark m ∷ x)) m
  unfolding own cons_if item_of
  lines_mark s m x = fun_ext (λ d. go d (mark_of d m))
    where
      go : (d : ℕ) (q : Bool) → seen (cond q (whole []) (s d)) (own d x)
          ≡ cond q (tail (seen (s d) (cons_if q (mark m) (own d x)))) (seen (s d) (cons_if q (mark m) (own d x)))
      go d true = refl
      go d false = refl

  mark_lines : (n : Node) (s : ℕ → Line) (m : Mark) (x : List Item)
      → after_mark n s m ≡ after_mark n (λ d. first_line (lines s (mark m ∷ x) d)) m
  unfolding own cons_if item_of mark_of
  mark_lines n s (feeds c t) x =
      ap (λ q. told (answer_parts w (with_line n c) c t (parts_of (content (line_of (relined (n.clients c) (first_line (seen (s c) (cons_if q (mark (feeds c t)) (own c x))))))))))
      (sym (eq-eqb c c refl))
  mark_lines n s (opens c t) x = refl
  mark_lines n s (closes c t) x = refl
  mark_lines n s (reads p bs t) x = refl
  mark_lines n s (fails p k t) x = refl

  run_by_lem : (x : List Item) (n : Node) (s : ℕ → Line) → run (weave n s) x ≡ run_by n (lines s x) (marks x)
  unfolding marks own run_node run_sent joined after
  run_by_lem [] n s = refl
  run_by_lem (byte c b ∷ x) n s =
      ap (λ m. run m x) (after_byte n s c b)
      ∙ run_by_lem x n (put s c (with_byte (s c) b))
      ∙ ap (λ f. run_by n f (marks x)) (lines_byte s c b x)
  run_by_lem (mark m ∷ x) n s =
      ap (λ a. ((run a.0 x).0, a.1 ++ (run a.0 x).1)) (after_mark_lem n s m)
      ∙ ap (λ r. (r.0, (after_mark n s m).1 ++ r.1))
      (run_by_lem x (after_mark n s m).0 (reset s m) ∙ ap (λ f. run_by (after_mark n s m).0 f (marks x)) (lines_mark s m x))
      ∙ ap (λ a. ((run_by a.0 (pop (lines s (mark m ∷ x)) m) (marks x)).0, a.1 ++ (run_by a.0 (pop (lines s (mark m ∷ x)) m) (marks x)).1))
      (mark_lines n s m x)

  -- The law: with the same own items and the same marks, the same is sent and the node ends the same.
  pub same_run : (n : Node) (x y : List Item) → ((c : ℕ) → own c x ≡ own c y) → marks x ≡ marks y → run n x ≡ run n y
  unfolding line_of
  same_run n x y p q =
      by x ∙ ap₂ (λ f m. run_by n f m) (fun_ext (λ d. ap (seen (line_of (n.clients d))) (p d))) q ∙ sym (by y)
    where
      same : (z : Client) → z ≡ relined z (line_of z)
      same closed = refl
      same (connected l a) = refl

      by : (z : List Item) → run n z ≡ run_by n (lines (λ d. line_of (n.clients d)) z) (marks z)
      by z =
          ap (λ m. run m z) (λ i. with_clients n (fun_ext (λ d. same (n.clients d)) i))
          ∙ run_by_lem z n (λ d. line_of (n.clients d))

  -- Who is open after these items.
  put_open : (n : Node) (c : ℕ) (x : Client) (i : Item) → is_open x ≡ standing (is_open (n.clients c)) (i ∷ [])
      → (d : ℕ) → is_open (put n.clients c x d) ≡ standing (is_open (n.clients d)) (cons_if (eqb d c) i [])
  unfolding standing cons_if
  put_open n c x i h =
      put_cases
      (λ d y. is_open y ≡ standing (is_open (n.clients d)) (cons_if (eqb d c) i []))
      n.clients
      c
      x
      (h ∙ ap (λ q. standing (is_open (n.clients c)) (cons_if q i [])) (sym (eq-eqb c c refl)))
      (λ d e. ap (λ q. standing (is_open (n.clients d)) (cons_if q i [])) (sym e))

  after_open : (n : Node) (i : Item) (d : ℕ) → is_open ((after w n i).0.clients d) ≡ standing (is_open (n.clients d)) (own d (i ∷ []))
  unfolding own cons_if item_of mark_of standing after answer driver_effect reading_effect unreadable_effect is_open
  after_open n (byte c b) d =
      put_open n c (receive (n.clients c) (b ∷ [])) (byte c b) (receive_open (n.clients c) (b ∷ [])) d
  after_open n (mark (feeds c t)) d =
      answered_open w c t _ (line_taken n c) d
      ∙ put_open n c (emptied (n.clients c)) (mark (feeds c t)) (emptied_open (n.clients c)) d
  after_open n (mark (opens c t)) d = put_open n c fresh (mark (opens c t)) refl d
  after_open n (mark (closes c t)) d = put_open n c closed (mark (closes c t)) refl d
  after_open n (mark (reads p bs t)) d = go (slice_get (parameters w) p)
    where
      go : (o : Option (Placed Parameter)) → is_open ((reading_effect n p o bs t).next.clients d) ≡ is_open (n.clients d)
      go None = refl
      go (Some q) = refl
  after_open n (mark (fails p k t)) d = go (slice_get (parameters w) p) (fault_of k)
    where
      go : (o : Option (Placed Parameter)) (x : Option Fault) → is_open ((unreadable_effect n p o x t).next.clients d) ≡ is_open (n.clients d)
      go None x = refl
      go (Some q) None = refl
      go (Some q) (Some f) = refl

  pub run_open : (x : List Item) (n : Node) (d : ℕ) → is_open ((run n x).0.clients d) ≡ standing (is_open (n.clients d)) (own d x)
  unfolding own standing run_node
  run_open [] n d = refl
  run_open (i ∷ x) n d =
      run_open x (after w n i).0 d
      ∙ ap (λ b. standing b (own d x)) (after_open n i d)
      ∙ sym (standing_append (is_open (n.clients d)) (own d (i ∷ [])) (own d x))
      ∙ ap (standing (is_open (n.clients d))) (sym (own_append d (i ∷ []) x))
