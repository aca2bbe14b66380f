-- `line::locating::names_of` meets its contract. Assumes nothing.
use Rattle.line.proofs.Seeks.{named_at}
use Rattle.line.proofs.locating.names_of.Goals as goal

pub returns-in-Named : goal.returns-in-Named
returns-in-Named c = search named_at
