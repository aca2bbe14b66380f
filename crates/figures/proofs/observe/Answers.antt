-- `figures::observe` meets its contract. Assumes nothing.
use Rattle.figures.proofs.Keeping.{observes}
use Rattle.figures.proofs.observe.Goals as goal

pub returns : goal.returns
returns c = observes c.args.f c.args.k c.args.x c.noted.result c.requires.0 c.requires.1.0 c.requires.1.1 c.noted.ensures
