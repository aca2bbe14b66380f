-- `ascii::numbers::big_endian` meets its contract. The loop's invariant: n is the number of the bytes so far, and below 256 to their number.
-- Assumes nothing.
use Prim.Native.Nat.{◌<◌, ◌*◌, ◌^◌}
use mathlib.Core.Path.{◌≡◌}
use lib.ListN.{take}
use Rattle.ascii.specs.Numbers.{big_endian}
use Rattle.ascii.proofs.numbers.big_endian.Given as goal

abbrev pub invariant-loop-b : goal.invariant-loop-b
invariant-loop-b l = record { is : l.n ≡ big_endian (take l.b-index l.bytes); low : l.n < 2 ^ (8 * l.b-index) }
