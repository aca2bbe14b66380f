-- `replay::is_piece` meets its contract. Assumes nothing.
use Rattle.replay.specs.Replay.{is_piece}
use Rattle.replay.proofs.Answers.{not_piece}
use Rattle.replay.proofs.is_piece.Goals as goal

pub returns-in-Piece : goal.returns-in-Piece
unfolding is_piece
returns-in-Piece c = simp c.in-Piece.is

pub returns-in_default : goal.returns-in_default
returns-in_default c = not_piece c.args.kind c.in_default.not-Piece
