-- `decimal::compare::lies_between` meets its contract. Assumes nothing.
-- the value that was read
-- it is compared with lo
use Rattle.std.specs.Prelude.{Some}
use mathlib.Core.Path.{◌≡◌, refl}
use mathlib.Core.Bool.{true, false, not}
use borrow.Author.Rules.{rules}
use Rattle.decimal.specs.Decimal.{at_most}
use Rattle.decimal.specs.Clauses.Exact.{decimal, decimal_of, Is}
use Rattle.decimal.proofs.Integers.{compared}
use Rattle.decimal.proofs.Limits.{limit_same}
use Rattle.decimal.proofs.Values.{room_in, beyond, not_above, above}
use Rattle.decimal.proofs.compare.lies_between.Goals as goal

pub returns-in_default : goal.returns-in_default
returns-in_default c = search beyond

pub exact_at_most-requires : goal.exact_at_most-requires
exact_at_most-requires c = let is-of : c.args.v ≡ Some c.in-Some.value = search rules in
    let has_room : Is c.in-Some.value (decimal_of c.in-Some.value) = room_in _ _ (is-of) c.requires in
    (c.limit.ensures.room, (has_room).room)

pub returns-else-exact_at_most : goal.returns-else-exact_at_most
returns-else-exact_at_most c = let is-of : c.args.v ≡ Some c.in-Some.value = search rules in
    let has_room : Is c.in-Some.value (decimal_of c.in-Some.value) = room_in _ _ (is-of) c.requires in
    let lower : c.exact_at_most.result ≡ at_most (decimal c.args.lo c.args.lo_power) (decimal_of c.in-Some.value) = compared (limit_same _ c.args.lo c.args.lo_power c.ranges.lo c.ranges.lo_power c.limit.ensures)
    (has_room)
    c.exact_at_most.ensures in
    let n : not c.exact_at_most.result ≡ true = rw c.if-exact_at_most.false refl in rw c.if-exact_at_most.false (not_above _ _ _ _ (is-of) (lower) n)

pub exact_at_most-requires-then-exact_at_most : goal.exact_at_most-requires-then-exact_at_most
exact_at_most-requires-then-exact_at_most c = let is-of : c.args.v ≡ Some c.in-Some.value = search rules in
    let has_room : Is c.in-Some.value (decimal_of c.in-Some.value) = room_in _ _ (is-of) c.requires in
    ((has_room).room, c.limit-then-exact_at_most.ensures.room)

pub returns-then-exact_at_most : goal.returns-then-exact_at_most
returns-then-exact_at_most c = let is-of : c.args.v ≡ Some c.in-Some.value = search rules in
    let has_room : Is c.in-Some.value (decimal_of c.in-Some.value) = room_in _ _ (is-of) c.requires in
    let lower : c.exact_at_most.result ≡ at_most (decimal c.args.lo c.args.lo_power) (decimal_of c.in-Some.value) = compared (limit_same _ c.args.lo c.args.lo_power c.ranges.lo c.ranges.lo_power c.limit.ensures)
    (has_room)
    c.exact_at_most.ensures in
    let n : not c.exact_at_most.result ≡ false = rw c.if-exact_at_most.true refl in above _ _ _ _ (is-of) (lower) n
    (compared (has_room)
    (limit_same _ c.args.hi c.args.hi_power c.ranges.hi c.ranges.hi_power c.limit-then-exact_at_most.ensures)
    c.exact_at_most-then-exact_at_most.ensures)
