-- `decimal::token::past_digits` meets its contract: past the digits from `i` on is past those from `at` on. Assumes nothing.
use Prim.Native.Nat.{◌≤◌, ◌-◌}
use mathlib.Core.Path.{◌≡◌}
use lib.ListN.{length, drop}
use Rattle.ascii.specs.Bytes.{drop_while, is_digit}
use Rattle.decimal.proofs.token.past_digits.Given as goal

abbrev pub invariant-loop-i : goal.invariant-loop-i
invariant-loop-i l = (l.i ≤ length l.s) × (drop_while is_digit (drop l.at l.s) ≡ drop_while is_digit (drop l.i l.s))

abbrev pub decreases-loop-i : goal.decreases-loop-i
decreases-loop-i l = length l.s - l.i
