-- A history, and one without the chosen lines, are the same for a client that sent none of them. Assumes nothing.
use Rattle.std.specs.Prelude.{slice_get}
use Prim.Native.Nat.{ℕ, ◌+◌}
use mathlib.Core.Bool.{Bool, true, false, cond}
use mathlib.Core.List.{List, []}
use mathlib.Core.Path.{◌≡◌, refl, sym, ◌∙◌, ap, subst}
use native.Mathlib.Omega.{arith}
use Rattle.table.specs.Table.{Table}
use Rattle.table.specs.Layout.{table_of}
use Rattle.message.specs.Line.{whole}
use Rattle.outbox.specs.Outbox.{Record}
use Rattle.plain.specs.Node.{Node, begin, is_open, line_of}
use Rattle.plain.specs.Calls.{Call}
use Rattle.plain.specs.History.{answers, finish, sent, AllAccepted, taken, Alike}
use Rattle.rule.specs.Records.{replies_for}
use Rattle.second.proofs.Runs.{run}
use Rattle.second.proofs.Second.{all_used, good_table, second_histories_are_alike}
use Rattle.chatter.specs.Without.{Choice, without, less_lines}
use Rattle.chatter.specs.Theorems.{Unreached, ChatterDoesNotReach}
use Rattle.chatter.proofs.Near.{Near, Told}
use Rattle.chatter.proofs.Runs.{claims}
use Rattle.chatter.proofs.Singles.{stays_taken}

near_begin : (c : ℕ) (out : ℕ → Bool) (w : Table) (t : ℕ) → Near c out (begin w t) (begin w t)
unfolding begin is_open line_of
near_begin c out w t =
    record { values = refl; client = refl; counts = refl; stopped = refl; each = λ d. record { opened = refl; line = go (out d) } }
  where
    go : (q : Bool) → whole [] ≡ cond q (whole []) (whole [])
    go true = refl
    go false = refl

unreached : (table : List ℕ) (n : Node) (c : ℕ) (f : Choice) (h k : List Call) → AllAccepted (answers table n k)
    → Told c f (λ d. false) (λ d. 0) (finish table n h, sent (answers table n h)) (finish table n k, sent (answers table n k))
    → Unreached table n c f h k
unreached table n c f h k a t =
    record {
      accepted = a;
      same_records = t.sends;
      same_values = t.nodes.values;
      same_counts = t.nodes.counts;
      same_client = t.nodes.client;
      same_open = λ d. (t.nodes.each d).opened;
      same_lines = λ d. (t.nodes.each d).line;
      same_orders = t.ordered;
    }

pub chatter_does_not_reach : ChatterDoesNotReach
chatter_does_not_reach table area time e h k c f may is =
    let n : Node = begin (table_of table) time in
    let w = table_of table in
    let x = taken table n h in
    let l : Alike table n (less_lines table n f h) k = second_histories_are_alike table area time e (less_lines table n f h) k is in
    let u : ◌≡◌ {A = Node × List Record} (finish table n h, sent (answers table n h)) (run w n x) = (all_used table h n).ran in
    let v : ◌≡◌ {A = Node × List Record} (finish table n k, sent (answers table n k)) (run w n (without f (λ d. 0) x)) =
    (λ i. (l.same_end i, l.same_records i))
    ∙ (all_used table (less_lines table n f h) n).ran
    ∙ ap (run w n) (stays_taken table (good_table table area time e) time f h) in
    let t = claims w c f may.others x (λ d. 0) n n (near_begin c _ w time)
    (λ d i r q.
    let z : 0 + i ≡ i = omega arith in
    ap (f d) z ∙ may.unchanged d i r (ap (λ (a : Node × List Record). slice_get (replies_for d a.1) i) u ∙ q)) in
    unreached table n c f h k l.accepted
    (subst
    (λ a. Told c f (λ d. false) (λ d. 0) a (finish table n k, sent (answers table n k)))
    (sym u)
    (subst (Told c f (λ d. false) (λ d. 0) (run w n x)) (sym v) t))
