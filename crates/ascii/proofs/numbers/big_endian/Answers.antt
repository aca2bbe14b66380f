-- One more byte, which fits. Assumes nothing.
use Rattle.std.proofs.Common.{refl, arith, rules}
use Rattle.ascii.specs.Numbers.{big_endian, big_endian_from}
use Rattle.ascii.proofs.Endian.{endian_more, low_more, low_fits}
use Rattle.ascii.proofs.numbers.big_endian.Goals as goal

pub loop-b-init : goal.loop-b-init
unfolding big_endian big_endian_from
loop-b-init c = record { is = refl; low = search rules }

pub overflow_mul-n : goal.overflow_mul-n
overflow_mul-n c = omega (arith, low_fits c.loop-b.n c.loop-b.b-index 7 c.loop-b.invariant.low (omega arith))

pub overflow_add-n : goal.overflow_add-n
overflow_add-n c = omega (arith, c.from.type_inv, low_fits c.loop-b.n c.loop-b.b-index 7 c.loop-b.invariant.low (omega arith))

pub loop-b-preserved : goal.loop-b-preserved
loop-b-preserved c = let bytes = c.args.bytes.now in let i = c.loop-b.b-index in
    rw c.from.ensures record {
      is = endian_more bytes i c.loop-b.n c.loop-b.invariant.is c.loop-b-test.true;
      low = low_more bytes i c.loop-b.n c.loop-b.invariant.low (omega (arith, c.type_inv.bytes i));
    }
