-- `fit::one_comparison` promises that scaled is judged as int, and whole tokens of an int as those of a double. Assumes nothing.
use mathlib.Core.Path.{refl}
use Rattle.fit.specs.Fit.{expect, as_number, double_fit, whole_fit, between_integers, fit}
use Rattle.fit.specs.Theorems.{OneComparison}
use Rattle.fit.proofs.one_comparison.Goals as goal

compared : OneComparison
unfolding fit expect as_number double_fit whole_fit between_integers
compared = record { of_scaled = λ s lo hi v. refl; of_int = λ lo hi t h. rw h }

pub returns : goal.returns
returns c = (refl, compared)
