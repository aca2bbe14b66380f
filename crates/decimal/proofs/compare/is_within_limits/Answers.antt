-- `decimal::compare::is_within_limits` meets its contract: the sign does not matter to a power from -99 to 99. Assumes nothing.
use lib.ListN.{length}
use borrow.Author.Tests.{lt-leb}
use Rattle.decimal.proofs.Values.{too_long, exponent_short, within_limits}
use Rattle.decimal.proofs.compare.is_within_limits.Goals as goal

pub returns-else-t-le32 : goal.returns-else-t-le32
returns-else-t-le32 c = rw (lt-leb (length c.args.t.now) 32 c.if-t-le32.false) (search too_long)

pub digits_value-requires : goal.digits_value-requires
digits_value-requires c = search exponent_short

pub returns-then-t-le32 : goal.returns-then-t-le32
returns-then-t-le32 c = search within_limits
