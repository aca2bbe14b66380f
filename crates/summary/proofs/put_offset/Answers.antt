-- `summary::put_offset` meets its contract. Assumes nothing.
use native.Mathlib.Omega.{arith}
use Rattle.ascii.proofs.Decimal.{decimal_low}
use Rattle.ascii.proofs.Puts.{puts_both}
use Rattle.summary.proofs.Texts.{offset_parts}
use borrow.Author.Rules.{rules}
use Rattle.summary.proofs.put_offset.Goals as goal

pub put_decimal-feed-requires : goal.put_decimal-feed-requires
put_decimal-feed-requires c = omega (arith, c.requires, decimal_low c.args.offset c.ranges.offset.fits)

pub put_byte-requires : goal.put_byte-requires
put_byte-requires c = omega (arith, c.requires, decimal_low c.args.offset c.ranges.offset.fits)

pub returns : goal.returns
returns c = let puts = puts_both c.put_decimal-feed.ensures c.put_byte.ensures in
    let short = decimal_low c.args.offset c.ranges.offset.fits in
    (rw (offset_parts c.args.offset) puts, omega (arith, c.put_decimal-feed.ensures.ends, c.put_byte.ensures.ends))
