-- `replay::begin` meets its contract. Assumes nothing.
use native.Mathlib.Omega.{arith}
use mathlib.Core.Path.{refl}
use Rattle.promise.proofs.Blank.{zeros}
use Rattle.replay.proofs.Choices.{none_kept}
use Rattle.replay.specs.Clauses.View.{pending_of}
use Rattle.replay.proofs.begin.Goals as goal

pub returns : goal.returns
unfolding pending_of
returns c = record {
  done = c.jihfasul_start-done.result;
  begins = c.jihfasul_start-done.ensures;
  number = refl;
  state = refl;
  progress = c.unread.ensures.0;
  left = refl;
  full = refl;
  counts = zeros 19;
  figures = none_kept c.no_figures.ensures.0;
  sound = record { begun = c.unread.ensures.1; inside = omega arith; bounded = c.no_figures.ensures.1 };
}
