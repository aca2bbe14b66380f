use Prim.Native.Nat.{◌≤◌}
use native.Mathlib.Omega.{arith}
use Rattle.base64_text.proofs.Sizes.{whole_fits, whole_less, sized_none, sized_more, sized_bad, sized_of, last_low}
use Rattle.base64_text.proofs.blob_size.Goals as goal

pub loop-i-init : goal.loop-i-init
loop-i-init c = (omega arith, omega arith, search sized_none)

pub loop-i-smaller : goal.loop-i-smaller
loop-i-smaller c = search whole_less

pub loop-i-preserved : goal.loop-i-preserved
loop-i-preserved c = (search whole_fits, omega arith, search sized_more)

pub returns-in_err-last_size : goal.returns-in_err-last_size
returns-in_err-last_size c = rw c.from_residual.ensures (search (sized_bad, c.in_err-last_size.was))

pub overflow_add-result : goal.overflow_add-result
overflow_add-result c = let h : c.in_ok-last_size.field-0 ≤ 2 = search (last_low, c.in_ok-last_size.was) in omega arith

pub returns : goal.returns
returns c = search (sized_of, c.in_ok-last_size.was)
