-- `emit::emit` meets its contract. Assumes nothing.
use Rattle.emit.proofs.Pieces.{has_room, left_out_lem}
use Rattle.emit.proofs.emit.Goals as goal

pub put-requires : goal.put-requires
put-requires c = search has_room

pub returns-else-has_room : goal.returns-else-has_room
returns-else-has_room c = search left_out_lem
