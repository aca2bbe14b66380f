-- What was read joins what stands at the front. Assumes nothing.
use Rattle.std.proofs.Common.{◌+◌, ◌-◌, length, take, ◌++◌, rules, arith, ap, sym, ◌∙◌, subst, le_refl}
use Rattle.std.proofs.lemmas.Slice.{take-put_mid_below}
use Rattle.std.specs.Io.KnownBytes.{Consumes}
use Rattle.std.proofs.KnownBytes.{Consumes-trans}
use borrow.Rule.Slice.PartMut.{put_mid}
use Rattle.input.proofs.Fronts.{front_in_parts, part_written}
use Rattle.input.proofs.read_full.Goals as goal

pub loop-done-preserved : goal.loop-done-preserved
loop-done-preserved g c =
    let from = c.loop-done.done in
    let room = length c.loop-done.space - from in
    let within = c.loop-done.invariant.1 in
    let part = part_written from room c.in_ok-n.n c.loop-done.space c.read.new.buf within c.in_ok-n.ensures.bound.0 in
    let after = put_mid from room c.loop-done.space c.read.new.buf in
    let joined = front_in_parts from (from + c.in_ok-n.n) c.loop-done.space after (omega arith) (take-put_mid_below _ _ _ _ _ (le_refl _) within) in (
      search rules,
      search rules,
      subst (Consumes _ _) (ap (λ l. take from c.loop-done.space ++ l) (sym part) ∙ joined)
          (Consumes-trans _ _ _ _ _ c.loop-done.invariant.2 c.in_ok-n.ensures.bytes.0),
    )
