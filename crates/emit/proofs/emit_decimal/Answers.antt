-- `emit::emit_decimal` meets its contract. Assumes nothing.
use Rattle.emit.proofs.Pieces.{has_room, left_out_lem}
use Rattle.emit.proofs.emit_decimal.Goals as goal

pub put_decimal-requires : goal.put_decimal-requires
put_decimal-requires c = search has_room

pub returns-else-has_room : goal.returns-else-has_room
returns-else-has_room c = search left_out_lem
