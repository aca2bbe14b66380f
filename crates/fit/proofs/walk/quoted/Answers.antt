-- `fit::walk::quoted` meets its contract: a string ends behind its closing quote. Assumes nothing.
use lib.ListN.{length}
use Rattle.ascii.proofs.Bytes.{ended_within}
use Prim.Native.Nat.{◌+◌, ◌≤◌}
use native.Mathlib.Omega.{arith}
use Rattle.fit.proofs.Walks.{quoted_none, quoted_bad, quoted_room, quoted_all}
use Rattle.fit.proofs.walk.quoted.Goals as goal

pub returns-then-byte-ne34 : goal.returns-then-byte-ne34
returns-then-byte-ne34 c = search quoted_none

pub returns-in_default : goal.returns-in_default
returns-in_default c = search quoted_bad

pub overflow_sub-to : goal.overflow_sub-to
overflow_sub-to c = let h : c.args.p + 2 ≤ c.in-Some.e = search quoted_room in omega arith

pub slice_bounds-result-count-2 : goal.slice_bounds-result-count-2
slice_bounds-result-count-2 c = let h : c.args.p + 2 ≤ c.in-Some.e = search quoted_room in omega arith

pub slice_bounds-result-start-2 : goal.slice_bounds-result-start-2
slice_bounds-result-start-2 c = let h : c.args.p + 2 ≤ c.in-Some.e = search quoted_room in omega arith

pub slice_bounds-result-end-2 : goal.slice_bounds-result-end-2
slice_bounds-result-end-2 c = let h : c.args.p + 2 ≤ c.in-Some.e = search quoted_room in let g : c.in-Some.e ≤ length c.args.v.now = search ended_within in omega arith

pub returns : goal.returns
returns c = search quoted_all
