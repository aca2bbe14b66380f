-- `figures::mark_of` meets its contract. Assumes nothing.
use Rattle.figures.proofs.Reading.{mark_small, mark_number, mark_none}
use Rattle.figures.proofs.mark_of.Goals as goal

pub number_of-requires : goal.number_of-requires
number_of-requires c = search mark_small

pub returns-then-is_summed : goal.returns-then-is_summed
returns-then-is_summed c = search mark_number

pub returns : goal.returns
returns c = search mark_none
