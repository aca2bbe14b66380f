-- `emit::has_room` meets its contract. Assumes nothing.
use mathlib.Core.Path.{◌∙◌}
use borrow.Author.Tests.{lt-leb}
use Rattle.emit.proofs.Pieces.{room_past, room_left}
use Rattle.emit.proofs.has_room.Goals as goal

pub returns-else-at-size : goal.returns-else-at-size
returns-else-at-size c = lt-leb _ _ c.if-at-size.false ∙ room_past _ _ _ c.if-at-size.false

pub returns-then-at-size : goal.returns-then-at-size
returns-then-at-size c = search room_left
