-- `decimal::compare::scaled` meets its contract. The loop's invariant: what m still lacks is ten, left times; so where m is above b,
-- or nothing is left, it compares with b as the product does. Assumes nothing.
use Prim.Native.Nat.{◌-◌, ◌*◌, ◌^◌, ◌<◌}
use mathlib.Core.Path.{◌≡◌}
use Rattle.decimal.specs.Clauses.Exact.{value}
use Rattle.decimal.proofs.compare.scaled.Given as goal

abbrev pub invariant-loop : goal.invariant-loop
invariant-loop l = (l.m.low < 10 ^ 16) × (value l.m * 10 ^ (l.times - l.counter) ≡ value l.initial.m * 10 ^ l.times)
