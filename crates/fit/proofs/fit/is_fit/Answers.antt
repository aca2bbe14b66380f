-- `fit::fit::is_fit` meets its contract.
use Rattle.std.specs.Prelude.{◌≡◌, Result, Ok, Err, is_ok}
use mathlib.Core.Path.{refl, ◌∙◌}
use Rattle.fit.specs.declared.Misfit.{Misfit}
use Rattle.fit.specs.declared.Misfit.TheVariants.{RangeError, WrongType, BadJson}
use Rattle.fit.specs.Fit as Fit
use Rattle.fit.specs.Clauses.Verdict.{meaning}
use Rattle.fit.proofs.fit.is_fit.Goals as goal

told : (a : Result Unit Misfit) → is_ok a ≡ Fit.is_fit (meaning a)
unfolding Fit.is_fit Fit.severity
told (Ok _) = refl
told (Err RangeError) = refl
told (Err WrongType) = refl
told (Err BadJson) = refl

pub returns : goal.returns
returns c = c.is_ok.ensures.value ∙ told c.args.a
