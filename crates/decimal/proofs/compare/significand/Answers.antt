-- `decimal::compare::significand` meets its contract: it is what stands before an 'e'. Assumes nothing.
use native.Mathlib.Omega.{arith}
use mathlib.Core.Path.{sym}
use lib.Seq.{length-take-le}
use Rattle.decimal.specs.Decimal.{significand}
use Rattle.decimal.proofs.Values.{other, run_within, before_is}
use Rattle.decimal.proofs.compare.significand.Goals as goal

pub slice_bounds-result-end : goal.slice_bounds-result-end
slice_bounds-result-end c = let s = c.args.t.now in sym (length-take-le c.until-e.result s (omega (arith, run_within (other 101 69) s)))

pub returns : goal.returns
unfolding significand
returns c = before_is (other 101 69) c.args.t.now _ c.until-e.ensures
