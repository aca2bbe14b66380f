-- `fitness::setting_unfit` meets its contract. Assumes nothing.
use Rattle.fitness.proofs.Unfits.{too_long, too_late, no_class_lem, never_set, is_set}
use Rattle.fitness.proofs.setting_unfit.Goals as goal

pub returns-then-size-gt-PLACE : goal.returns-then-size-gt-PLACE
returns-then-size-gt-PLACE c = search too_long

pub returns-then-times-k-gt-LATEST : goal.returns-then-times-k-gt-LATEST
returns-then-times-k-gt-LATEST c = search too_late

pub returns-then-errors-k-gt4 : goal.returns-then-errors-k-gt4
returns-then-errors-k-gt4 c = search no_class_lem

pub returns-then-size-eq0 : goal.returns-then-size-eq0
returns-then-size-eq0 c = search never_set

pub returns : goal.returns
returns c = search is_set
