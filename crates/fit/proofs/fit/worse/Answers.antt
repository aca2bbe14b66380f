-- `fit::fit::worse` meets its contract: the order of `Misfit` is that of severities.
use Rattle.std.specs.Prelude.{◌≡◌, Result, Ok, Err}
use Rattle.std.specs.Ordering.{ord_max}
use Rattle.std.specs.Result.{result_cmp}
use Rattle.std.specs.contracts.prelude.UnitOrd.TheImpl as OfUnit
use mathlib.Core.Path.{refl}
use Rattle.fit.specs.contracts.MisfitOrd.TheImpl as OfMisfit
use Rattle.fit.specs.declared.Misfit.{Misfit}
use Rattle.fit.specs.declared.Misfit.TheVariants.{RangeError, WrongType, BadJson}
use Rattle.fit.specs.Fit as Fit
use Rattle.fit.specs.Clauses.Verdict.{meaning}
use Rattle.fit.proofs.fit.worse.Goals as goal

greatest : (a b : Result Unit Misfit)
    → meaning (ord_max (result_cmp OfUnit.cmp-value.it OfMisfit.cmp-value.it) a b) ≡ Fit.worse (meaning a) (meaning b)
unfolding Fit.worse Fit.severity
greatest (Ok _) (Ok _) = refl
greatest (Ok _) (Err RangeError) = refl
greatest (Ok _) (Err WrongType) = refl
greatest (Ok _) (Err BadJson) = refl
greatest (Err RangeError) (Ok _) = refl
greatest (Err RangeError) (Err RangeError) = refl
greatest (Err RangeError) (Err WrongType) = refl
greatest (Err RangeError) (Err BadJson) = refl
greatest (Err WrongType) (Ok _) = refl
greatest (Err WrongType) (Err RangeError) = refl
greatest (Err WrongType) (Err WrongType) = refl
greatest (Err WrongType) (Err BadJson) = refl
greatest (Err BadJson) (Ok _) = refl
greatest (Err BadJson) (Err RangeError) = refl
greatest (Err BadJson) (Err WrongType) = refl
greatest (Err BadJson) (Err BadJson) = refl

pub returns : goal.returns
returns c = rw c.max.ensures (greatest c.args.a c.args.b)
