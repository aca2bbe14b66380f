-- `replay::settings::order_in` meets its contract. Assumes nothing.
use Rattle.replay.proofs.Noting.{order_not, order_other, order_is}
use Rattle.replay.proofs.settings.order_in.Goals.{then-byte-ne68-via-then-byte-ne68, then-byte-ne68-via-else-byte-ne68+then-byte-ne82}
use Rattle.replay.proofs.settings.order_in.Goals as goal

pub returns-then-byte-ne68 : goal.returns-then-byte-ne68
returns-then-byte-ne68 c = elim c.then-byte-ne68.branch [
  | then-byte-ne68-via-then-byte-ne68 w ↦ search order_not
  | then-byte-ne68-via-else-byte-ne68+then-byte-ne82 w ↦ search order_other
]

pub returns : goal.returns
returns c = search order_is
