-- A second history's calls are accepted, the same bytes are sent and the node ends the same. Assumes nothing.
use Prim.Native.Nat.{ℕ}
use mathlib.Core.Bool.{not, ◌&&◌, So, false≢true}
use mathlib.Core.List.{List, [], ◌∷◌, ◌++◌}
use mathlib.Core.Path.{◌≡◌, refl, sym, ◌∙◌, ap, ap₂, subst}
use lib.Dec.{ltb}
use Rattle.ascii.specs.Bytes.{all}
use Rattle.table.specs.Layout.{table_of}
use Rattle.report.specs.Judge.{table_number}
use Rattle.report.proofs.Faults.{first_fault_none}
use Rattle.outbox.specs.Outbox.{Record, encode_all}
use Rattle.plain.specs.Node.{Node, begin, is_open}
use Rattle.plain.specs.Calls.{Call, start_number}
use Rattle.plain.specs.History.{step, answers, finish, sent, sent_bytes, AllAccepted, Item, own, marks, standing, items_of, items, if_accepted, taken, AllRoomy, EmptiesOpen, IsSecond, Alike}
use Rattle.second.specs.Theorems.{HistoriesAreTheirItems, SecondHistoriesAreAlike}
use Rattle.second.proofs.Items.{own_append, standing_append, in_order, own_both, marks_both, order_small}
use Rattle.second.proofs.Runs.{run, run_append, same_run, run_open}
use Rattle.second.proofs.Calls.{readable, permitted, accepts, order_call, Used, none_used, step_number, step_used}

module _ (table : List ℕ) where
  -- ## Items that were used

  pub used_open : (n : Node) (x : List Item) (r : Node × List Record) → Used table n x r
      → (d : ℕ) → is_open (r.0.clients d) ≡ standing (is_open (n.clients d)) (own d x)
  used_open n x r u d = ap (λ (q : Node × List Record). is_open (q.0.clients d)) u.ran ∙ run_open (table_of table) x n d

  used_append : (n : Node) (x y : List Item) (r s : Node × List Record) → Used table n x r → Used table r.0 y s
      → Used table n (x ++ y) (s.0, r.1 ++ s.1)
  used_append n x y r s u v =
      record {
        ran =
            ap₂
            (λ (p q : Node × List Record). (q.0, p.1 ++ q.1))
            u.ran
            (v.ran ∙ ap (λ (q : Node × List Record). run (table_of table) q.0 y) u.ran)
            ∙ sym (run_append (table_of table) x y n);
        ordered =
            λ d.
            (own_both d (is_open (n.clients d)) x y).1 (u.ordered d, ap (λ b. in_order d b (own d y)) (sym (used_open n x r u d)) ∙ v.ordered d);
        readings = (marks_both (readable table) x y).1 (u.readings, v.readings);
      }

  -- whether a client is open after one more call
  pub standing_then : (n m : Node) (e : Call) (c : ℕ) → is_open (m.clients c) ≡ standing (is_open (n.clients c)) (own c (items_of e.event))
      → (l : List Call) → standing (is_open (m.clients c)) (own c (items l)) ≡ standing (is_open (n.clients c)) (own c (items (e ∷ l)))
  unfolding items
  standing_then n m e c h l =
      ap (λ b. standing b (own c (items l))) h
      ∙ sym (standing_append (is_open (n.clients c)) (own c (items_of e.event)) (own c (items l)))
      ∙ ap (standing (is_open (n.clients c))) (sym (own_append c (items_of e.event) (items l)))

  pub all_used : (h : List Call) (n : Node) → Used table n (taken table n h) (finish table n h, sent (answers table n h))
  unfolding taken finish answers sent
  all_used [] n = none_used table n
  all_used (e ∷ h) n = used_append n _ _ _ _ (step_used table n e) (all_used h (step table n e).0)

  module _ (z : table_number table ≡ 0) where
    -- ## The second history

    -- its calls are accepted, and use all their items, where only clients with small numbers are open
    pub wholly : (k : List Call) (n : Node) → ((d : ℕ) → So (is_open (n.clients d)) → So (not (ltb 7 d))) → AllRoomy k
        → ((d : ℕ) → So (in_order d (is_open (n.clients d)) (own d (items k))))
        → So (all (readable table) (marks (items k))) → EmptiesOpen n k
        → AllAccepted (answers table n k) × (taken table n k ≡ items k)
    unfolding taken answers items if_accepted
    wholly [] n small room ok rd asked = (tt, refl)
    wholly (e ∷ k) n small room ok rd asked =
        let x = items_of e.event in
        let y = items k in
        let m = (step table n e).0 in
        let f : (d : ℕ) → So (in_order d (is_open (n.clients d)) (own d x)) × So (in_order d (standing (is_open (n.clients d)) (own d x)) (own d y)) =
        λ d. (own_both d (is_open (n.clients d)) x y).0 (ok d) in
        let g = (marks_both (readable table) x y).0 rd in
        let p : So (permitted table n e.event) =
        order_call table n e.event (λ d. (f d).0) g.0
        (λ c t q.
        let s : So (is_open (n.clients c)) = unfold own standing in asked [] c t e.lent k (ap (λ v. record { event = v; lent = e.lent } ∷ k) q) in
        ap₂ (λ a b. a && not (not b)) (small c s) s) in
        let a : (step table n e).1.number ≡ 0 = step_number table n e ∙ (accepts table z n e).1 (room.0, p) in
        let u : (d : ℕ) → is_open (m.clients d) ≡ standing (is_open (n.clients d)) (own d x) =
        used_open n x (m, (step table n e).1.records) (subst (λ j. Used table n (if_accepted j x) (m, (step table n e).1.records)) a (step_used table n e)) in
        let r =
        wholly
        k
        m
        (λ d q. order_small d (is_open (n.clients d)) (own d x) (f d).0 (small d) (sym (u d) ∙ q))
        room.1
        (λ d. ap (λ b. in_order d b (own d y)) (u d) ∙ (f d).1)
        g.1
        (λ l c t lent r q. standing_then n m e c (u c) l ∙ asked (e ∷ l) c t lent r (ap (e ∷◌) q)) in
        ((a, r.0), ap₂ (λ j l. if_accepted j x ++ l) a r.1)

    alike : (n : Node) → ((d : ℕ) → So (is_open (n.clients d)) → So (not (ltb 7 d))) → (h k : List Call)
        → IsSecond table n h k → Alike table n h k
    unfolding sent_bytes
    alike n small h k s =
        let u = all_used h n in
        let v = wholly k n small s.roomy
        (λ d. ap (in_order d (is_open (n.clients d))) (sym (s.clients d)) ∙ u.ordered d)
        (ap (all (readable table)) (sym s.common) ∙ u.readings)
        s.empties in
        let p : ◌≡◌ {A = Node × List Record} (finish table n k, sent (answers table n k)) (finish table n h, sent (answers table n h)) =
        (all_used k n).ran
        ∙ ap (run (table_of table) n) v.1
        ∙ sym (same_run (table_of table) n (taken table n h) (items k) s.clients s.common)
        ∙ sym u.ran in
        record {
          accepted = v.0;
          same_records = ap (λ (q : Node × List Record). q.1) p;
          same_bytes = ap (λ (q : Node × List Record). encode_all q.1) p;
          same_end = ap (λ (q : Node × List Record). q.0) p;
        }

pub histories_are_their_items : HistoriesAreTheirItems
histories_are_their_items table n h =
    let u = (all_used table h n).ran in
    record { node = ap (λ (q : Node × List Record). q.0) u; records = ap (λ (q : Node × List Record). q.1) u }

-- ## From the start

pub good_table : (table : List ℕ) (area time : ℕ) → start_number table area time ≡ 0 → table_number table ≡ 0
unfolding start_number
good_table table area time e = first_fault_none _ e 0

pub second_histories_are_alike : SecondHistoriesAreAlike
unfolding begin is_open
second_histories_are_alike table area time e h k s =
    alike table (good_table table area time e) (begin (table_of table) time) (λ d q. absurd (false≢true q)) h k s
