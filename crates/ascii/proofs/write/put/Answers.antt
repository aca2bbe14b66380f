use borrow.Author.Rules.{rules}
use Prim.Native.Nat.{◌+◌, ◌<◌}
use native.Mathlib.Numerals.{add-one}
use native.Mathlib.Omega.{arith}
use mathlib.Core.Path.{◌≡◌, refl, ◌∙◌}
use lib.ListN.{length, length-set}
use lib.Seq.{paste-zero, paste-suc, sets-eq, take-length}
use Rattle.ascii.proofs.write.put.Goals as goal

pub loop-i-init : goal.loop-i-init
loop-i-init c = (paste-zero c.args.out.now c.args.at c.args.src.now, (search rules, refl))

pub loop-i-preserved : goal.loop-i-preserved
loop-i-preserved c = let start = c.args in
    let at = c.loop-i in
    let room : start.at + at.i < length start.out.now = omega arith in (
      rw (add-one, at.invariant.0) (paste-suc _ _ start.src.now at.i 0 room c.loop-i-test.true),
      (omega arith, simp length-set at.invariant.1.1),
    )

pub returns : goal.returns
returns c = let at = c.loop-i in
    let src = c.args.src.now in
    let end : at.i ≡ length src = omega arith in
    record { is = at.invariant.0 ∙ rw (end, take-length, sets-eq src _ _ c.requires); ends = omega arith }
