-- A history with its refused calls left out is a second history of it. Assumes nothing.
use Prim.Native.Nat.{ℕ, zero, suc}
use mathlib.Core.Bool.{not, So, and-eq-true_iff}
use mathlib.Core.List.{List, [], ◌∷◌, ◌++◌}
use mathlib.Core.Path.{◌≡◌, refl, sym, ◌∙◌, ap, subst}
use lib.Dec.{ltb}
use borrow.Author.Tests.{not-true, not-false}
use Rattle.table.specs.Layout.{table_of}
use Rattle.report.specs.Judge.{table_number}
use Rattle.plain.specs.Node.{Node, begin, is_open}
use Rattle.plain.specs.Calls.{Call, Piece}
use Rattle.plain.specs.History.{step, own, marks, standing, items_of, items, if_accepted, taken, Roomy, AllRoomy, EmptiesOpen}
use Rattle.second.specs.Theorems.{keep_call, accepted_calls, AcceptedCallsAreSecond}
use Rattle.second.proofs.Calls.{permitted, accepts, step_number, step_used}
use Rattle.second.proofs.Second.{used_open, standing_then, good_table}

module _ (table : List ℕ) where
  kept_items : (h : List Call) (n : Node) → items (accepted_calls table n h) ≡ taken table n h
  unfolding accepted_calls taken items keep_call if_accepted
  kept_items [] n = refl
  kept_items (e ∷ h) n =
      go (step table n e).1.number (accepted_calls table (step table n e).0 h)
      ∙ ap (if_accepted (step table n e).1.number (items_of e.event) ++◌) (kept_items h (step table n e).0)
    where
      go : (j : ℕ) (l : List Call) → items (keep_call j e l) ≡ if_accepted j (items_of e.event) ++ items l
      go zero l = refl
      go (suc j) l = refl

  -- one call, kept or not, before calls whose empty pieces come from open clients
  asked_kept : (n m : Node) (e : Call) (k : List Call) (j : ℕ) → (j ≡ 0 → So (permitted table n e.event))
      → ((d : ℕ) → is_open (m.clients d) ≡ standing (is_open (n.clients d)) (own d (if_accepted j (items_of e.event))))
      → EmptiesOpen m k → EmptiesOpen n (keep_call j e k)
  unfolding keep_call if_accepted own standing items
  asked_kept n m e k (suc j) f u h l c t lent r q = ap (λ b. standing b (own c (items l))) (sym (u c)) ∙ h l c t lent r q
  asked_kept n m e k zero f u h [] c t lent r q =
      let p : e.event ≡ Piece c [] t = cc in
      let g = (and-eq-true_iff (not (ltb 7 c)) (not (not (is_open (n.clients c))))).0 (subst (λ v. So (permitted table n v)) p (f refl)) in
      not-false _ (not-true _ g.1)
  asked_kept n m e k zero f u h (d ∷ l) c t lent r q =
      let p : d ≡ e = cc in
      let s : k ≡ l ++ (record { event = Piece c [] t; lent = lent } ∷ r) = cc in
      ap (λ i. standing (is_open (n.clients c)) (own c (items (i ∷ l)))) p
      ∙ sym (standing_then table n m e c (u c) l)
      ∙ h l c t lent r s

  module _ (z : table_number table ≡ 0) where
    -- a call of the number 0
    zero_call : (n : Node) (e : Call) → (step table n e).1.number ≡ 0 → Roomy e × So (permitted table n e.event)
    zero_call n e q = (accepts table z n e).0 (sym (step_number table n e) ∙ q)

    all_roomy : (h : List Call) (n : Node) → AllRoomy (accepted_calls table n h)
    unfolding accepted_calls keep_call
    all_roomy [] n = tt
    all_roomy (e ∷ h) n = go (step table n e).1.number _ (λ q. (zero_call n e q).0) (all_roomy h (step table n e).0)
      where
        go : (j : ℕ) (l : List Call) → (j ≡ 0 → Roomy e) → AllRoomy l → AllRoomy (keep_call j e l)
        go zero l f r = (f refl, r)
        go (suc j) l f r = r

    all_asked : (h : List Call) (n : Node) → EmptiesOpen n (accepted_calls table n h)
    unfolding accepted_calls
    all_asked [] n [] c t lent r q = cc
    all_asked [] n (d ∷ l) c t lent r q = cc
    all_asked (e ∷ h) n l c t lent r q =
        let m = (step table n e).0 in
        asked_kept
        n
        m
        e
        (accepted_calls table m h)
        (step table n e).1.number
        (λ s. (zero_call n e s).1)
        (used_open table n _ (m, (step table n e).1.records) (step_used table n e))
        (all_asked h m)
        l
        c
        t
        lent
        r
        q

pub accepted_calls_are_second : AcceptedCallsAreSecond
accepted_calls_are_second table area time e h =
    let n : Node = begin (table_of table) time in
    let z = good_table table area time e in
    record {
      roomy = all_roomy table z h n;
      clients = λ c. ap (own c) (sym (kept_items table h n));
      common = ap marks (sym (kept_items table h n));
      empties = all_asked table z h n;
    }
