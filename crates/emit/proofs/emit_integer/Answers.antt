-- `emit::emit_integer` meets its contract. Assumes nothing.
use native.Mathlib.Omega.{arith}
use Rattle.emit.proofs.Pieces.{has_room, integer_in, integer_out}
use borrow.Author.Rules.{rules}
use Rattle.emit.proofs.emit_integer.Goals as goal

pub put_integer-requires : goal.put_integer-requires
put_integer-requires c = search has_room

pub returns-then-has_room : goal.returns-then-has_room
returns-then-has_room c = integer_in _ (omega arith) _ _ _ _ (omega arith) (search has_room) (search rules)

pub returns-else-has_room : goal.returns-else-has_room
returns-else-has_room c = search integer_out
