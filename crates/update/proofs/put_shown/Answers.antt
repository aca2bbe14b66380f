-- `update::put_shown` meets its contract. Assumes nothing.
use Rattle.update.proofs.Showings.{unwanted, shown_room, shown_put}
use Rattle.update.proofs.put_shown.Goals as goal

pub returns-then-not-wants : goal.returns-then-not-wants
returns-then-not-wants c = search unwanted

pub put_update-requires : goal.put_update-requires
put_update-requires c = search shown_room

pub returns : goal.returns
returns c = search shown_put
