use Rattle.figures.proofs.Reading.{digits_room, digits_more, digits_all}
use Rattle.figures.proofs.digits_of.Goals as goal

pub with_byte-n-requires : goal.with_byte-n-requires
with_byte-n-requires c = search digits_room

pub loop-b-preserved : goal.loop-b-preserved
loop-b-preserved c = search digits_more

pub returns : goal.returns
returns c = search digits_all
