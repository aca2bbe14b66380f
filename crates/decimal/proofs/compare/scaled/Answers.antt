use Prim.Native.Nat.{◌+◌, ◌-◌, ◌≤◌, ◌<◌}
use native.Mathlib.Omega.{arith}
use mathlib.Core.Path.{◌≡◌}
use mathlib.Core.Path.{refl}
use borrow.Author.Rules.{rules}
use Rattle.decimal.proofs.Naturals.{has_room, one_time, stays_above, is_scaled}
use Rattle.decimal.proofs.compare.scaled.Goals as goal

pub loop-init : goal.loop-init
loop-init c = let z : c.args.times - 0 ≡ c.args.times = omega arith in (search rules, rw z refl)

pub returns-then-not-natural_at_most : goal.returns-then-not-natural_at_most
returns-then-not-natural_at_most c = let h : 0 < c.args.times - c.loop.counter = omega arith in search stays_above

pub appended-m-requires : goal.appended-m-requires
appended-m-requires c = (search has_room, search rules)

pub loop-preserved : goal.loop-preserved
loop-preserved c = let h : 0 < c.args.times - c.loop.counter = omega arith in let e : c.args.times - (c.loop.counter + 1) ≡ c.args.times - c.loop.counter - 1 = omega arith in (c.appended-m.ensures.low, rw e (search one_time))

pub returns : goal.returns
returns c = let z : c.args.times - c.loop.counter ≤ 0 = omega arith in search is_scaled
