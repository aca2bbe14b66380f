-- `form::write::put_scalar` meets its contract. Assumes nothing.
use Prim.Native.Nat.{◌≤◌}
use native.Mathlib.Omega.{arith}
use Rattle.form.proofs.Scalars.{scalar_room, scalar_copied}
use Rattle.form.proofs.write.put_scalar.Goals as goal

pub slice_bounds-emit-count : goal.slice_bounds-emit-count
slice_bounds-emit-count c = search scalar_room

pub slice_bounds-emit-start : goal.slice_bounds-emit-start
slice_bounds-emit-start c = let h : c.args.p ≤ c.in-Some.e = search scalar_room in omega arith

pub returns : goal.returns
returns c = search scalar_copied
