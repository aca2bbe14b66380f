-- `replay::call` meets its contract. Assumes nothing.
use Rattle.replay.proofs.Singles.{opened, closed, pieced, read, unreadable}
use Rattle.replay.proofs.call.Goals as goal

pub returns-in-Opening : goal.returns-in-Opening
returns-in-Opening c = search opened

pub returns-in-Closing : goal.returns-in-Closing
returns-in-Closing c = search closed

pub returns-in-Piece : goal.returns-in-Piece
returns-in-Piece c = search pieced

pub returns-in-Reading : goal.returns-in-Reading
returns-in-Reading c = search read

pub returns-in-Unreadable : goal.returns-in-Unreadable
returns-in-Unreadable c = search unreadable
