-- `replay::left_after` meets its contract. Assumes nothing.
use Rattle.replay.proofs.Answers.{no_piece, refused_piece, used_piece}
use Rattle.replay.proofs.left_after.Goals.{else-is_piece-via-then-is_piece+else-number-eq0, else-is_piece-via-else-is_piece}
use Rattle.replay.proofs.left_after.Goals as goal

pub returns-then-number-eq0 : goal.returns-then-number-eq0
returns-then-number-eq0 c = search used_piece

pub returns-else-is_piece : goal.returns-else-is_piece
returns-else-is_piece c = elim c.else-is_piece.branch [
  | else-is_piece-via-then-is_piece+else-number-eq0 w ↦ search refused_piece
  | else-is_piece-via-else-is_piece w ↦ search no_piece
]
