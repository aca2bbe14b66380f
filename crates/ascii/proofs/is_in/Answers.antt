-- `ascii::is_in` meets its contract: what a range contains is told by two comparisons. Assumes nothing.
use Rattle.std.proofs.Common.{◌∙◌, rules, tests, ℕ, ◌≡◌, refl}
use Rattle.std.specs.Ordering.{nat_cmp, is_le}
use lib.Dec.{leb}
use Rattle.ascii.specs.Bytes.{is_in}
use Rattle.ascii.proofs.is_in.Goals as goal

le_is : (a b : ℕ) → is_le (nat_cmp a b) ≡ leb a b
le_is a b = search (rules, tests)

pub returns : goal.returns
unfolding is_in
returns c = c.contains.ensures.value
    ∙ rw (c.new.ensures.start, c.new.ensures.end, c.new.ensures.exhausted, le_is c.args.lo c.args.b, le_is c.args.b c.args.hi) refl
