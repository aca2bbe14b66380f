-- Counts are true: item by item, and so of every history. Assumes nothing.
use Rattle.std.specs.Prelude.{Option, Some, None, slice_get}
use Prim.Native.Nat.{ℕ, ◌+◌, min}
use native.Mathlib.Nat.{zero-add, add-zero, add_assoc}
use mathlib.Core.Bool.{Bool, true, false, cond, ◌||◌}
use mathlib.Core.List.{List, [], ◌∷◌}
use mathlib.Core.Path.{◌≡◌, refl, sym, ap, ◌∙◌}
use lib.Dec.{eqb}
use borrow.Author.Tests.{eqb-true}
use Rattle.ascii.proofs.Lists.{neither}
use Rattle.counter.specs.declared.Counts.{Counts}
use Rattle.counter.specs.Counts.{highest, no_counts, lines_counted, all_counted}
use Rattle.message.specs.Line.{Parts, content, parts_of}
use Rattle.message.specs.Request.{Request, request}
use Rattle.message.specs.Error.{Fault, fault_of}
use Rattle.message.specs.Reply.{Held, valued, failed}
use Rattle.fit.specs.Fit.{stored_form}
use Rattle.outbox.specs.Outbox.{Record}
use Rattle.outbox.specs.Sent.{errors_sent, updates_sent}
use Rattle.table.specs.Table.{Parameter, Table}
use Rattle.table.specs.Layout.{table_of}
use Rattle.table.specs.Search.{Placed, parameters}
use Rattle.plain.specs.Node.{Node, put, begin, line_of, line_taken, counting}
use Rattle.plain.specs.Answer.{activates, deactivates, sets, outcome, answer_parts, answer}
use Rattle.plain.specs.Calls.{Open, Lent, Call, call_number, driver_effect, reading_effect, unreadable_effect, effect, settle, step_if}
use Rattle.plain.specs.History.{step, feeds, opens, closes, reads, fails, Item, byte, mark, taken, after, run_node, run_sent, joined}
use Rattle.plain.proofs.Put.{put_at}
use Rattle.plain.proofs.Counts.{counted_twice, line_counted_lem, errors_append, updates_append}
use Rattle.plain.proofs.Outcomes.{node_after, concluded, outcome_holds}
use Rattle.second.specs.Counts.{feeds_in, opens_in, Counted, CountsAreTrue}
use Rattle.second.proofs.Calls.{step_number}
use Rattle.second.proofs.Second.{all_used}

-- ## A request alters no counts

outcome_counts : (w : Table) (n : Node) (c now : ℕ) (q : Request) → (node_after n (outcome w n c now q)).counts ≡ n.counts
unfolding activates deactivates sets
outcome_counts w n c now =
    outcome_holds (λ q o. (node_after n o).counts ≡ n.counts) w n c now
    (record {
      bad = λ q x. refl;
      failing = λ k f t h e. refl;
      telling = λ q f h. refl;
      activating = λ m f h. refl;
      deactivating = λ m f h. refl;
      setting = λ k v h. refl;
      doing = λ k v h. refl;
    })

parts_counts : (w : Table) (n : Node) (c now : ℕ) (p : Parts) → (answer_parts w n c now p).0.counts ≡ n.counts
unfolding answer_parts
parts_counts w n c now p =
    let o = outcome w n c now (request p) in
    ap (λ (r : Node × List Record). r.0.counts) (concluded w n c now p o) ∙ outcome_counts w n c now (request p)

-- ## Items

equal : {i j k l m n : ℕ} → i ≡ l → j ≡ m → k ≡ n → all_counted no_counts i j k ≡ all_counted no_counts l m n
equal p q r = λ h. all_counted no_counts (p h) (q h) (r h)

module _ (w : Table) (d : ℕ) where
  -- client d has counted so much since it had no counts
  abbrev Has : Node → ℕ → ℕ → ℕ → Type 0
  Has n l e u = n.counts d ≡ all_counted no_counts l e u

  -- and these records besides
  also : (n : Node) (rs : List Record) (l e u : ℕ) → Has n l e u → Has (counting n rs) (l + 0) (e + errors_sent d rs) (u + updates_sent d rs)
  also n rs l e u h = ap (λ (x : Counts). all_counted x 0 (errors_sent d rs) (updates_sent d rs)) h ∙ counted_twice no_counts l e u 0 (errors_sent d rs) (updates_sent d rs)

  -- nothing besides
  same : (n : Node) (l e u : ℕ) → Has n l e u → Has n (l + 0) (e + errors_sent d []) (u + updates_sent d [])
  unfolding errors_sent updates_sent
  same n l e u h = h ∙ equal (sym (add-zero l)) (sym (add-zero e)) (sym (add-zero u))

  -- a line of client c
  line_taken_lem : (n : Node) (c l e u : ℕ) → Has n l e u → (q : Bool) → eqb d c ≡ q → put n.counts c (lines_counted (n.counts c) 1) d ≡ all_counted no_counts (l + cond q 1 0) e u
  unfolding put
  line_taken_lem n c l e u h true i =
      ap (λ (b : Bool). cond b (lines_counted (n.counts c) 1) (n.counts d)) i
      ∙ ap (λ (k : ℕ). lines_counted (n.counts k) 1) (sym (eqb-true d c i))
      ∙ ap (λ (x : Counts). lines_counted x 1) h
      ∙ line_counted_lem no_counts l e u
  line_taken_lem n c l e u h false i =
      ap (λ (b : Bool). cond b (lines_counted (n.counts c) 1) (n.counts d)) i ∙ h ∙ equal (sym (add-zero l)) refl refl

  driver_has : (n : Node) (k : ℕ) (p : Placed Parameter) (x : Held) (t l e u : ℕ) → Has n l e u
      → Has (driver_effect n k p x t).next (l + 0) (e + errors_sent d (driver_effect n k p x t).records) (u + updates_sent d (driver_effect n k p x t).records)
  unfolding driver_effect
  driver_has n k p x t l e u h = also n _ l e u h

  after_has : (n : Node) (i : Item) (l e u : ℕ) → opens_in d (i ∷ []) ≡ false → Has n l e u
      → Has (after w n i).0 (l + feeds_in d (i ∷ [])) (e + errors_sent d (after w n i).1) (u + updates_sent d (after w n i).1)
  unfolding after answer feeds_in opens_in reading_effect unreadable_effect put
  after_has n (byte c b) l e u o h = same n l e u h
  after_has n (mark (feeds c t)) l e u o h =
      let p = parts_of (content (line_of (n.clients c))) in
      let r = answer_parts w (line_taken n c) c t p in
      let taken : Has r.0 (l + cond (eqb d c) 1 0) e u =
      ap (λ (f : ℕ → Counts). f d) (parts_counts w (line_taken n c) c t p) ∙ line_taken_lem n c l e u h (eqb d c) refl in
      also r.0 r.1 (l + cond (eqb d c) 1 0) e u taken ∙ equal (add_assoc l (cond (eqb d c) 1 0) 0) refl refl
  after_has n (mark (opens c t)) l e u o h =
      ap (λ (b : Bool). cond b no_counts (n.counts d)) (neither (eqb d c) false o).0 ∙ same n l e u h
  after_has n (mark (closes c t)) l e u o h = same n l e u h
  after_has n (mark (reads p bs t)) l e u o h = go (slice_get (parameters w) p)
    where
      go : (x : Option (Placed Parameter)) → let r = reading_effect n p x bs t in
          Has r.next (l + 0) (e + errors_sent d r.records) (u + updates_sent d r.records)
      go None = same n l e u h
      go (Some q) = driver_has n p q (valued (stored_form q.it.datainfo bs)) t l e u h
  after_has n (mark (fails p k t)) l e u o h = go (slice_get (parameters w) p) (fault_of k)
    where
      go : (x : Option (Placed Parameter)) (y : Option Fault) → let r = unreadable_effect n p x y t in
          Has r.next (l + 0) (e + errors_sent d r.records) (u + updates_sent d r.records)
      go None y = same n l e u h
      go (Some q) None = same n l e u h
      go (Some q) (Some f) = driver_has n p q (failed f) t l e u h

  -- one item, and then the others
  feeds_cons : (i : Item) (x : List Item) → feeds_in d (i ∷ x) ≡ feeds_in d (i ∷ []) + feeds_in d x
  unfolding feeds_in
  feeds_cons (byte c b) x = sym (zero-add _)
  feeds_cons (mark (feeds c t)) x = ap (λ (k : ℕ). k + feeds_in d x) (sym (add-zero (cond (eqb d c) 1 0)))
  feeds_cons (mark (opens c t)) x = sym (zero-add _)
  feeds_cons (mark (closes c t)) x = sym (zero-add _)
  feeds_cons (mark (reads p bs t)) x = sym (zero-add _)
  feeds_cons (mark (fails p k t)) x = sym (zero-add _)

  opens_cons : (i : Item) (x : List Item) → opens_in d (i ∷ x) ≡ false → (opens_in d (i ∷ []) ≡ false) × (opens_in d x ≡ false)
  unfolding opens_in
  opens_cons (byte c b) x o = (refl, o)
  opens_cons (mark (feeds c t)) x o = (refl, o)
  opens_cons (mark (opens c t)) x o = let n = neither (eqb d c) (opens_in d x) o in (ap (λ (b : Bool). b || false) n.0, n.1)
  opens_cons (mark (closes c t)) x o = (refl, o)
  opens_cons (mark (reads p bs t)) x o = (refl, o)
  opens_cons (mark (fails p k t)) x o = (refl, o)

  run_has : (x : List Item) (n : Node) (l e u : ℕ) → opens_in d x ≡ false → Has n l e u
      → Has (run_node w n x) (l + feeds_in d x) (e + errors_sent d (joined (run_sent w n x))) (u + updates_sent d (joined (run_sent w n x)))
  unfolding run_node run_sent joined feeds_in
  run_has [] n l e u o h = same n l e u h
  run_has (i ∷ x) n l e u o h =
      let q = opens_cons i x o in
      let r = after w n i in
      run_has x r.0 _ _ _ q.1 (after_has n i l e u q.0 h)
      ∙ equal
      (add_assoc l (feeds_in d (i ∷ [])) (feeds_in d x) ∙ ap (λ (k : ℕ). l + k) (sym (feeds_cons i x)))
      (add_assoc e (errors_sent d r.1) _ ∙ ap (λ (k : ℕ). e + k) (sym (errors_append d r.1 _)))
      (add_assoc u (updates_sent d r.1) _ ∙ ap (λ (k : ℕ). u + k) (sym (updates_append d r.1 _)))

-- ## Histories

counted : (table : List ℕ) (n : Node) (d : ℕ) (h : List Call) → n.counts d ≡ no_counts → opens_in d (taken table n h) ≡ false → Counted table n d h
counted table n d h z o =
    let r = (all_used table h n).ran in
    let k = run_has (table_of table) d (taken table n h) n 0 0 0 o z in
    let rs = ap (λ (x : Node × List Record). x.1) r in
    let is = ap (λ (x : Node × List Record). x.0.counts d) r ∙ k in
    record {
      lines = ap (λ (x : Counts). x.lines) is ∙ plain _;
      errors = ap (λ (x : Counts). x.errors) is ∙ plain _ ∙ ap (λ (l : List Record). min (errors_sent d l) highest) (sym rs);
      updates = ap (λ (x : Counts). x.updates) is ∙ plain _ ∙ ap (λ (l : List Record). min (updates_sent d l) highest) (sym rs);
    }
  where
    plain : (k : ℕ) → min (0 + (0 + k)) highest ≡ min k highest
    plain k = ap (λ (j : ℕ). min j highest) (zero-add (0 + k) ∙ zero-add k)

opened_counts : (table : List ℕ) (n : Node) (d t : ℕ) (lent : Lent) → let r = step table n (record { event = Open d t; lent = lent }) in
    r.1.number ≡ 0 → r.0.counts d ≡ no_counts
unfolding step step_if settle effect
opened_counts table n d t lent z =
    let e : Call = record { event = Open d t; lent = lent } in
    let k : call_number table false n e ≡ 0 = sym (step_number table n e) ∙ z in
    rw k (put_at n.counts d no_counts)

pub counts_are_true : CountsAreTrue
unfolding begin
counts_are_true =
    record {
      since_open = λ table n d t lent z h o. counted table _ d h (opened_counts table n d t lent z) o;
      since_start = λ table area time z d h o. counted table (begin (table_of table) time) d h refl o;
    }
