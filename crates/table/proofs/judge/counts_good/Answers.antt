-- `table::judge::counts_good` meets its contract. Assumes nothing.
use Rattle.std.proofs.Common.{◌≡◌, ◌∙◌, ◌&&◌, ℕ, refl, rules, tests}
use Rattle.std.specs.Ordering.{nat_cmp, is_le}
use lib.Dec.{leb}
use Rattle.table.proofs.Whole.{untold, counts_bad, counts_all}
use Rattle.table.proofs.judge.counts_good.Goals as goal

le_is : (a b : ℕ) → is_le (nat_cmp a b) ≡ leb a b
le_is a b = search (rules, tests)

pub returns-in_default : goal.returns-in_default
returns-in_default c = λ t w. search untold

pub returns-then-contains : goal.returns-then-contains
returns-then-contains c = λ t e.
    let n = c.count-n.result in
    let v : c.contains.result ≡ (leb 1 n && leb n 16) = c.contains.ensures.value
    ∙ rw (c.new.ensures.start, c.new.ensures.end, c.new.ensures.exhausted, le_is 1 n, le_is n 16) refl in
    counts_all _ _ c.head_at.ensures t e _ c.in-Some.is _ c.count-n.ensures _ v _ c.if-contains.true c.accessibles_are_few.ensures

pub returns-else-contains : goal.returns-else-contains
returns-else-contains c = λ t e.
    let n = c.count-n.result in
    let v : c.contains.result ≡ (leb 1 n && leb n 16) = c.contains.ensures.value
    ∙ rw (c.new.ensures.start, c.new.ensures.end, c.new.ensures.exhausted, le_is 1 n, le_is n 16) refl in
    counts_bad _ _ c.head_at.ensures t e _ c.in-Some.is _ c.count-n.ensures _ v c.if-contains.false
