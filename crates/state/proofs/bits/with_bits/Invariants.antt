-- `state::bits::with_bits` meets its contract. The loop's invariant: the first i bits are set, and all others are as they were. Assumes nothing.
use Prim.Native.Nat.{ℕ}
use mathlib.Core.Path.{◌≡◌}
use mathlib.Core.Bool.{◌||◌}
use lib.Dec.{ltb}
use Rattle.state.specs.View.{bit}
use Rattle.state.proofs.bits.with_bits.Given as goal

abbrev pub invariant-loop-i : goal.invariant-loop-i
invariant-loop-i l = (j : ℕ) → bit l.all j ≡ bit l.mask j || ltb j l.i
