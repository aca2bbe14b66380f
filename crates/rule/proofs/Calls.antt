-- What a call does: it writes nothing, or it is an accepted reading or report of an unreadable parameter, or it has a line carried out. Assumes
-- nothing.
use Rattle.std.specs.Prelude.{Option, Some, None, slice_get}
use Prim.Native.Nat.{ℕ, zero, suc}
use mathlib.Core.Bool.{Bool, true, false, not, false≢true}
use mathlib.Core.List.Memᴰ
use mathlib.Core.List.{List, [], ◌∷◌, ◌++◌, Memᴰ}
use mathlib.Core.Logic.{◌⊎◌, inl, inr, ⊎_elim}
use mathlib.Core.Path.{◌≡◌, refl, sym, ◌∙◌, ap, ap₂, subst}
use native.Mathlib.Omega.{arith}
use borrow.Author.Tests.{not-false}
use Rattle.ascii.specs.Bytes.{is_some}
use Rattle.fit.specs.Fit.{Verdict, fits, rangeError, wrongType, badJSON, severity, is_fit, verdict, stored_form}
use Rattle.table.specs.Table.{Parameter, Table}
use Rattle.table.specs.Layout.{table_of}
use Rattle.table.specs.Search.{Placed, parameters}
use Rattle.report.specs.Judge.{first_fault}
use Rattle.report.proofs.Faults.{no_fault, first_fault_none}
use Rattle.message.specs.Line.{content, parts_of}
use Rattle.message.specs.Request.{Request}
use Rattle.message.specs.Error.{Fault, fault_of}
use Rattle.message.specs.Reply.{failed, Reply}
use Rattle.outbox.specs.Outbox.{Record, final}
use Rattle.counter.specs.Counts.{lines_counted}
use Rattle.plain.specs.Node as Node
use Rattle.plain.specs.Node.{Client, closed, Value, Node, put, with_client, with_value, with_count, is_open, line_of, receive, emptied, line_taken, counting, report_of}
use Rattle.plain.specs.Node.{client_numbers, updates_to, holding, showing, with_clients}
use Rattle.plain.specs.Answer.{Outcome, outcome, stored_at, status_of, activates, deactivates, sets, answer_parts, answer}
use Rattle.plain.specs.Calls.{Event, Open, Close, Piece, Reading, Unreadable, Call, own_faults, call_number, reading_verdict, before_feed, has_feed, ended, piece_effect, driver_effect, reading_effect, unreadable_effect, effect, settle, settling, step_if}
use Rattle.plain.specs.History.{step}
use Rattle.plain.proofs.Numbers as Numbers
use Rattle.plain.proofs.Put.{put_at, put_put}
use Rattle.plain.proofs.Clients.{emptied_received}
use Rattle.plain.proofs.Outcomes.{node_after, before, reply_to, concluded, outcome_holds}
use Rattle.rule.specs.Theorems.{parts_at, request_of, Refused, RefusalsAlterNothing}
use Rattle.rule.proofs.Laws.{NoFinal, final_not_in, updates_to_no_final, busy_no_final, updates_of_no_final}

-- ## Outcomes

-- there is no final reply before the reply
pub quiet : (w : Table) (n : Node) (c now : ℕ) (r : Request) → NoFinal (before (outcome w n c now r))
unfolding activates deactivates sets
quiet w n c now =
    outcome_holds (λ q o. NoFinal (before o)) w n c now
    (record {
      bad = λ q x. tt;
      failing = λ k f t h e. tt;
      telling = λ q f h. tt;
      activating = λ m f h. updates_of_no_final c _ n.values 0 (parameters w);
      deactivating = λ m f h. tt;
      setting = λ k v h.
          (tt, busy_no_final n.clients (status_of w k.1) now k.1.home (report_of k.1 (showing (stored_at n.values k v) now)));
      doing = λ k v h. (tt, tt);
    })

-- ## Lines

-- n with client c's line emptied, and counted
abbrev pub idle : Node → ℕ → Node
idle n c = line_taken n c

abbrev pub outcome_at : Table → Node → ℕ → List ℕ → ℕ → Outcome
outcome_at w n c bs t = outcome w (idle n c) c t (request_of n c bs)

-- a line of client c was carried out, and left the node m and the records rs
pub record Answered (w : Table) (n : Node) (c : ℕ) (bs : List ℕ) (t : ℕ) (m : Node) (rs : List Record) : Type 0 where
  pub is_open : is_open (n.clients c) ≡ true
  pub node : m ≡ counting (node_after (idle n c) (outcome_at w n c bs t)) rs
  pub records : rs ≡ before (outcome_at w n c bs t) ++ (final c (reply_to (parts_at n c bs) (outcome_at w n c bs t)) ∷ [])

-- what is sent where parameter k, which is p, is set to v by its driver, and the node that this leaves
abbrev pub told : Node → Placed Parameter → Value → List Record
told n p v = updates_to n.clients p.home (report_of p v) client_numbers

abbrev pub told_node : Node → ℕ → Placed Parameter → Value → Node
told_node n k p v = counting (with_value n k v) (told n p v)

-- what an accepted event does
pub data Did (w : Table) (n : Node) : Event → Node → List Record → Type 0 where
  opened : {c t : ℕ} → Did w n (Open c t) (Node.opened n c) []
  shut : {c t : ℕ} → Did w n (Close c t) (with_client n c closed) []
  received : {c : ℕ} {bs : List ℕ} {t : ℕ} → has_feed bs ≡ false → Did w n (Piece c bs t) (with_client n c (receive (n.clients c) (before_feed bs))) []
  read : {k : ℕ} {bs : List ℕ} {t : ℕ} (p : Placed Parameter) → slice_get (parameters w) k ≡ Some p
      → verdict p.it.datainfo bs ≡ fits
      → Did w n (Reading k bs t) (told_node n k p (showing (stored_form p.it.datainfo bs) t)) (told n p (showing (stored_form p.it.datainfo bs) t))
  unread : {k class t : ℕ} (p : Placed Parameter) (f : Fault) → slice_get (parameters w) k ≡ Some p → fault_of class ≡ Some f
      → Did w n (Unreadable k class t) (told_node n k p (holding (failed f) t)) (told n p (holding (failed f) t))
  line : {c : ℕ} {bs : List ℕ} {t : ℕ} {m : Node} {rs : List Record} → has_feed bs ≡ true → Answered w n c bs t m rs
      → Did w n (Piece c bs t) m rs

-- what is sent is counted
abbrev counted : Node × List Record → Node × List Record
counted r = (counting r.0 r.1, r.1)

answer_is : (w : Table) (n : Node) (c : ℕ) (x : Client) (t : ℕ) → emptied x ≡ emptied (n.clients c)
    → answer w (with_client n c x) c t ≡ counted (answer_parts w (idle n c) c t (parts_of (content (line_of x))))
unfolding answer
answer_is w n c x t e =
    ap₂
    (λ (m : Node) (y : Client). counted (answer_parts w (with_count m c (lines_counted (n.counts c) 1)) c t (parts_of (content (line_of y)))))
    (ap (with_clients n)
    (put_put n.clients c x (emptied (put n.clients c x c)) ∙ ap (put n.clients c) (ap emptied (put_at n.clients c x) ∙ e)))
    (put_at n.clients c x)

answered : (w : Table) (n : Node) (c : ℕ) (bs : List ℕ) (t : ℕ) → is_open (n.clients c) ≡ true
    → let r = answer w (with_client n c (receive (n.clients c) (before_feed bs))) c t in Answered w n c bs t r.0 r.1
unfolding answer_parts request_of
answered w n c bs t h =
    let e =
    answer_is w n c (receive (n.clients c) (before_feed bs)) t (emptied_received (n.clients c) (before_feed bs))
    ∙ ap counted (concluded w (idle n c) c t (parts_at n c bs) (outcome_at w n c bs t)) in
    let r = ap (λ (x : Node × List Record). x.1) e in
    record {
      is_open = h;
      node = ap (λ (x : Node × List Record). x.0) e ∙ ap (counting (node_after (idle n c) (outcome_at w n c bs t))) (sym r);
      records = r;
    }

-- ## Numbers of accepted calls

-- an accepted piece's client is open
piece_open : (table : List ℕ) (n : Node) (c : ℕ) (bs : List ℕ) (t : ℕ)
    → first_fault (own_faults (table_of table) n (Piece c bs t)) ≡ 0 → is_open (n.clients c) ≡ true
unfolding own_faults
piece_open table n c bs t e = not-false (is_open (n.clients c)) (no_fault 11 (not (is_open (n.clients c))) (first_fault_none _ e 2))

-- an accepted reading's parameter is there, and its value fits
fit_is : (v : Verdict) → is_fit v ≡ true → v ≡ fits
unfolding is_fit severity
fit_is fits e = refl
fit_is rangeError e = absurd (false≢true e)
fit_is wrongType e = absurd (false≢true e)
fit_is badJSON e = absurd (false≢true e)

there_is : {A : Type 0} (x : Option A) → is_some x ≡ true → (p : A) × (x ≡ Some p)
there_is None e = absurd (false≢true e)
there_is (Some p) e = (p, refl)

did_reading : (w : Table) (n : Node) (k : ℕ) (bs : List ℕ) (t : ℕ) (x : Option (Placed Parameter)) (p : Placed Parameter)
    → slice_get (parameters w) k ≡ x → x ≡ Some p → reading_verdict x bs ≡ fits
    → let r = reading_effect n k x bs t in Did w n (Reading k bs t) r.next r.records
unfolding reading_effect driver_effect reading_verdict
did_reading w n k bs t None p q h v = let z : ◌≡◌ {A = ℕ} 0 1 = cc in absurd (omega arith)
did_reading w n k bs t (Some y) p q h v = read y q v

did_unreadable : (w : Table) (n : Node) (k class t : ℕ) (x : Option (Placed Parameter)) (y : Option Fault) (p : Placed Parameter) (f : Fault)
    → slice_get (parameters w) k ≡ x → fault_of class ≡ y → x ≡ Some p → y ≡ Some f
    → let r = unreadable_effect n k x y t in Did w n (Unreadable k class t) r.next r.records
unfolding unreadable_effect driver_effect
did_unreadable w n k class t None y p f q i h j = let z : ◌≡◌ {A = ℕ} 0 1 = cc in absurd (omega arith)
did_unreadable w n k class t (Some x) None p f q i h j = let z : ◌≡◌ {A = ℕ} 0 1 = cc in absurd (omega arith)
did_unreadable w n k class t (Some x) (Some y) p f q i h j = unread x y q i

did_piece : (w : Table) (n : Node) (c : ℕ) (bs : List ℕ) (t : ℕ) (q : Bool) → has_feed bs ≡ q → is_open (n.clients c) ≡ true
    → let r = ended w (with_client n c (receive (n.clients c) (before_feed bs))) c t q in Did w n (Piece c bs t) r.0 r.1
unfolding ended
did_piece w n c bs t true f h = line f (answered w n c bs t h)
did_piece w n c bs t false f h = received f

did : (table : List ℕ) (n : Node) (e : Event) → first_fault (own_faults (table_of table) n e) ≡ 0
    → let r = effect (table_of table) n e in Did (table_of table) n e r.next r.records
unfolding effect piece_effect own_faults
did table n (Open c t) h = opened
did table n (Close c t) h = shut
did table n (Piece c bs t) h = did_piece (table_of table) n c bs t (has_feed bs) refl (piece_open table n c bs t h)
did table n (Reading k bs t) h =
    let x = slice_get (parameters (table_of table)) k in
    let b = is_fit (reading_verdict x bs) in
    let p = there_is x (not-false (is_some x) (no_fault 13 (not (is_some x)) (first_fault_none _ h 1))) in
    did_reading (table_of table) n k bs t x p.0 refl p.1
    (fit_is (reading_verdict x bs) (not-false b (no_fault 14 (not b) (first_fault_none _ h 2))))
did table n (Unreadable k class t) h =
    let x = slice_get (parameters (table_of table)) k in
    let y = fault_of class in
    let p = there_is x (not-false (is_some x) (no_fault 13 (not (is_some x)) (first_fault_none _ h 1))) in
    let f = there_is y (not-false (is_some y) (no_fault 15 (not (is_some y)) (first_fault_none _ h 2))) in
    did_unreadable (table_of table) n k class t x y p.0 f.0 refl refl p.1 f.1

-- ## Steps

settled : (table : List ℕ) (n : Node) (e : Call) (j : ℕ) → call_number table false n e ≡ j
    → let s = settling table n e j in
    Refused n s.0 s.1 ⊎ Did (table_of table) n e.event s.0 s.1.records
unfolding settle
settled table n e zero h = inr (did table n e.event ((Numbers.accepted_call table false e n).0 h).1)
settled table n e (suc j) h = inl (record { node = refl; used = refl; records = refl; steps = refl })

-- every call is refused and alters nothing, or it does what an accepted call does
pub every_call : (table : List ℕ) (n : Node) (e : Call)
    → Refused n (step table n e).0 (step table n e).1 ⊎ Did (table_of table) n e.event (step table n e).0 (step table n e).1.records
unfolding step step_if
every_call table n e = settled table n e (call_number table false n e) refl

pub accepted_call : (table : List ℕ) (n : Node) (e : Call) → (step table n e).1.number ≡ 0
    → Did (table_of table) n e.event (step table n e).0 (step table n e).1.records
unfolding step step_if settle
accepted_call table n e h = go (call_number table false n e) refl h
  where
    go : (j : ℕ) → call_number table false n e ≡ j → (settling table n e j).1.number ≡ 0
        → let s = settling table n e j in Did (table_of table) n e.event s.0 s.1.records
    go zero q z = did table n e.event ((Numbers.accepted_call table false e n).0 q).1
    go (suc j) q z = absurd (omega arith)

pub refusals_alter_nothing : RefusalsAlterNothing
unfolding step step_if settle
refusals_alter_nothing table n e k h = go (call_number table false n e) refl h
  where
    go : (j : ℕ) → call_number table false n e ≡ j → (settling table n e j).1.number ≡ suc k
        → let s = settling table n e j in Refused n s.0 s.1
    go zero q z = absurd (omega arith)
    go (suc j) q z = record { node = refl; used = refl; records = refl; steps = refl }

-- ## Final replies

the_final : (rs : List Record) (c d : ℕ) (r x : Reply) → NoFinal rs → Memᴰ (final d x) (rs ++ (final c r ∷ [])) → (d ≡ c) × (x ≡ r)
the_final rs c d r x h m =
    ⊎_elim
    (λ l. absurd (final_not_in rs d x h l))
    (λ l. let e : final d x ≡ final c r = Memᴰ.eq_of_singleton l in (cc, cc))
    (Memᴰ.append_cases rs m)

-- the line that a final reply among the records of a call answers
pub data Line-of (w : Table) (n m : Node) (rs : List Record) (c : ℕ) (r : Reply) : Event → Type 0 where
  line_of_lem : {bs : List ℕ} {t : ℕ} → Answered w n c bs t m rs → r ≡ reply_to (parts_at n c bs) (outcome_at w n c bs t)
      → Line-of w n m rs c r (Piece c bs t)

line_in : (w : Table) (n : Node) (m : Node) (rs : List Record) (c d : ℕ) (r : Reply) (bs : List ℕ) (t : ℕ) → Answered w n c bs t m rs
    → Memᴰ (final d r) rs → Line-of w n m rs d r (Piece c bs t)
line_in w n m rs c d r bs t h l =
    let x : Outcome = outcome_at w n c bs t in
    let q = the_final (before x) c d (reply_to (parts_at n c bs) x) r (quiet w (idle n c) c t (request_of n c bs))
    (subst (Memᴰ (final d r)) h.records l) in
    subst (λ y. Line-of w n m rs y r (Piece c bs t)) (sym q.0) (line_of_lem h q.1)

final_in : {w : Table} {n : Node} {e : Event} {m : Node} {rs : List Record} → Did w n e m rs → (c : ℕ) (r : Reply)
    → Memᴰ (final c r) rs → Line-of w n m rs c r e
final_in opened c r l = absurd (Memᴰ.not-nil l)
final_in shut c r l = absurd (Memᴰ.not-nil l)
final_in (received f) c r l = absurd (Memᴰ.not-nil l)
final_in {n = n} (read p q f) c r l = absurd (final_not_in _ c r (updates_to_no_final n.clients p.home _ client_numbers) l)
final_in {n = n} (unread p f q i) c r l = absurd (final_not_in _ c r (updates_to_no_final n.clients p.home _ client_numbers) l)
final_in {w} {n} (line {c = d} {bs = bs} {t = t} {m = m} {rs = rs} f h) c r l = line_in w n m rs d c r bs t h l

pub line_of_final : (table : List ℕ) (n : Node) (e : Call) (c : ℕ) (r : Reply) → Memᴰ (final c r) (step table n e).1.records
    → Line-of (table_of table) n (step table n e).0 (step table n e).1.records c r e.event
line_of_final table n e c r l =
    ⊎_elim
    (λ h. absurd (Memᴰ.not-nil (subst (Memᴰ (final c r)) h.records l)))
    (λ h. final_in h c r l)
    (every_call table n e)
