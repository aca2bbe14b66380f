-- One final reply for each line feed that is used. Assumes nothing.
use Rattle.std.specs.Prelude.{Option, Some, None, slice_get}
use Prim.Native.Nat.{ℕ, zero, suc, ◌+◌}
use mathlib.Core.Bool.{Bool, true, false, cond}
use mathlib.Core.List.{List, [], ◌∷◌, ◌++◌}
use mathlib.Core.Path.{◌≡◌, refl, sym, ◌∙◌, ap}
use lib.Dec.{eqb}
use lib.ListN.{length, take}
use native.Mathlib.Omega.{arith}
use Rattle.fit.specs.Fit.{stored_form}
use Rattle.table.specs.Table.{Parameter, Table}
use Rattle.table.specs.Layout.{table_of}
use Rattle.table.specs.Search.{Placed, parameters}
use Rattle.message.specs.Line.{Parts, content, parts_of}
use Rattle.message.specs.Request.{request}
use Rattle.message.specs.Error.{Fault, fault_of}
use Rattle.message.specs.Reply.{Held, valued, failed, DataReport, Reply}
use Rattle.outbox.specs.Outbox.{Record, final}
use Rattle.plain.specs.Node.{Node, line_of, report_of, client_numbers, updates_to, holding}
use Rattle.plain.specs.Answer.{Outcome, outcome, answer_parts, answer}
use Rattle.plain.specs.Calls.{Event, Open, Close, Piece, Reading, Unreadable, call_number, before_feed, has_feed, used_of, ended, piece_effect, driver_effect, reading_effect, unreadable_effect, effect, settle, call_steps, step_if}
use Rattle.plain.specs.History.{step}
use Rattle.plain.proofs.Outcomes.{before, reply_to, concluded}
use Rattle.rule.specs.Records.{replies_for, feed_count, feeds_used}
use Rattle.rule.specs.Theorems.{OneReplyForEachLine}
use Rattle.rule.proofs.Laws.{replies_append, no_final_replies, updates_to_no_final}
use Rattle.rule.proofs.Calls.{quiet, idle}

one_final : (d c : ℕ) (r : Reply) → length (replies_for d (final c r ∷ [])) ≡ cond (eqb d c) 1 0
unfolding replies_for
one_final d c r = go (eqb d c)
  where
    go : (q : Bool) → length (cond q (r ∷ []) [] ++ []) ≡ cond q 1 0
    go true = refl
    go false = refl

answer_replies : (w : Table) (n : Node) (c now d : ℕ) → length (replies_for d (answer w n c now).1) ≡ cond (eqb d c) 1 0
unfolding answer answer_parts
answer_replies w n c now d =
    let p : Parts = parts_of (content (line_of (n.clients c))) in
    let o : Outcome = outcome w (idle n c) c now (request p) in
    ap (λ (x : Node × List Record). length (replies_for d x.1)) (concluded w (idle n c) c now p o)
    ∙ ap length (replies_append d (before o) (final c (reply_to p o) ∷ []))
    ∙ ap
    (λ (l : List Reply). length (l ++ replies_for d (final c (reply_to p o) ∷ [])))
    (no_final_replies d (before o) (quiet w (idle n c) c now (request p)))
    ∙ one_final d c (reply_to p o)

-- a choice between the same
either_way : (q : Bool) (k : ℕ) → k ≡ cond q k k
either_way true k = refl
either_way false k = refl

feeds_used_lem : (bs : List ℕ) → feed_count (take (used_of bs) bs) ≡ cond (has_feed bs) 1 0
unfolding feed_count used_of before_feed has_feed
feeds_used_lem [] = refl
feeds_used_lem (b ∷ bs) = go (eqb b 10) refl (feeds_used_lem bs)
  where
    go : (q : Bool) → eqb b 10 ≡ q → feed_count (take (used_of bs) bs) ≡ cond (has_feed bs) 1 0
        → feed_count (take (length (cond q [] (b ∷ before_feed bs)) + cond (cond q true (has_feed bs)) 1 0) (b ∷ bs))
        ≡ cond (cond q true (has_feed bs)) 1 0
    go true e h = ap (λ q. cond q 1 0 + 0) e
    go false e h =
        let p : suc (length (before_feed bs)) + cond (has_feed bs) 1 0 ≡ suc (used_of bs) = omega arith in
        ap (λ k. feed_count (take k (b ∷ bs))) p
        ∙ ap (λ q. cond q 1 0 + feed_count (take (used_of bs) bs)) e
        ∙ omega (arith, h)

ended_replies : (w : Table) (n : Node) (c t d : ℕ) (q : Bool)
    → length (replies_for d (ended w n c t q).1) ≡ cond (eqb d c) (cond q 1 0) 0
unfolding ended replies_for
ended_replies w n c t d true = answer_replies w n c t d
ended_replies w n c t d false = either_way (eqb d c) 0

driver_replies : (n : Node) (k : ℕ) (p : Placed Parameter) (h : Held) (t d : ℕ) → length (replies_for d (driver_effect n k p h t).records) ≡ 0
unfolding driver_effect replies_for
driver_replies n k p h t d =
    let r : DataReport = report_of p (holding h t) in
    ap
    length
    (no_final_replies
    d
    (updates_to n.clients p.home r client_numbers)
    (updates_to_no_final n.clients p.home r client_numbers))

reading_replies : (n : Node) (k : ℕ) (o : Option (Placed Parameter)) (bs : List ℕ) (t d : ℕ)
    → length (replies_for d (reading_effect n k o bs t).records) ≡ 0
unfolding reading_effect replies_for
reading_replies n k None bs t d = refl
reading_replies n k (Some p) bs t d = driver_replies n k p (valued (stored_form p.it.datainfo bs)) t d

unreadable_replies : (n : Node) (k : ℕ) (o : Option (Placed Parameter)) (x : Option Fault) (t d : ℕ)
    → length (replies_for d (unreadable_effect n k o x t).records) ≡ 0
unfolding unreadable_effect replies_for
unreadable_replies n k None x t d = refl
unreadable_replies n k (Some p) None t d = refl
unreadable_replies n k (Some p) (Some f) t d = driver_replies n k p (failed f) t d

one_reply : (w : Table) (n : Node) (steps : ℕ) (e : Event) (d j : ℕ)
    → length (replies_for d (settle j n (effect w n e) steps).1.records) ≡ feeds_used d e (settle j n (effect w n e) steps).1
unfolding settle effect feeds_used replies_for piece_effect feed_count
one_reply w n steps (Open c t) d zero = refl
one_reply w n steps (Open c t) d (suc j) = refl
one_reply w n steps (Close c t) d zero = refl
one_reply w n steps (Close c t) d (suc j) = refl
one_reply w n steps (Piece c bs t) d zero =
    ended_replies w _ c t d (has_feed bs) ∙ ap (λ k. cond (eqb d c) k 0) (sym (feeds_used_lem bs))
one_reply w n steps (Piece c bs t) d (suc j) = either_way (eqb d c) 0
one_reply w n steps (Reading p bs t) d zero = reading_replies n p (slice_get (parameters w) p) bs t d
one_reply w n steps (Reading p bs t) d (suc j) = refl
one_reply w n steps (Unreadable p k t) d zero = unreadable_replies n p (slice_get (parameters w) p) (fault_of k) t d
one_reply w n steps (Unreadable p k t) d (suc j) = refl

pub one_reply_for_each_line : OneReplyForEachLine
unfolding step step_if
one_reply_for_each_line table n e d = one_reply (table_of table) n (call_steps (table_of table) n e) e.event d (call_number table false n e)
