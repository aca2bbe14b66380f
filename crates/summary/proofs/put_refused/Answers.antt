-- `summary::put_refused` meets its contract. Assumes nothing.
use native.Mathlib.Omega.{arith}
use Rattle.ascii.specs.Text.{bytes}
use Rattle.ascii.proofs.Puts.{puts_both}
use Rattle.summary.proofs.Texts.{not_met, refused_length, refused_parts, refused_short}
use borrow.Author.Rules.{rules}
use Rattle.summary.proofs.put_refused.Goals as goal

pub returns-then-count-eq0 : goal.returns-then-count-eq0
returns-then-count-eq0 c = (not_met _ _ c.if-count-eq0.true _ _, refused_short _ _ c.requires.0 c.ranges.count.fits)

pub put-first-requires : goal.put-first-requires
put-first-requires c = let short = refused_short c.args.number c.args.count c.requires.0 c.ranges.count.fits in
    omega (arith, c.requires.1, refused_length c.args.number c.args.count c.if-count-eq0.false)

pub put_decimal-space-requires : goal.put_decimal-space-requires
put_decimal-space-requires c = let short = refused_short c.args.number c.args.count c.requires.0 c.ranges.count.fits in
    omega (arith, c.requires.1, refused_length c.args.number c.args.count c.if-count-eq0.false)

pub put_byte-second-requires : goal.put_byte-second-requires
put_byte-second-requires c = let short = refused_short c.args.number c.args.count c.requires.0 c.ranges.count.fits in
    omega (arith, c.requires.1, refused_length c.args.number c.args.count c.if-count-eq0.false)

pub put_decimal-feed-requires : goal.put_decimal-feed-requires
put_decimal-feed-requires c = let short = refused_short c.args.number c.args.count c.requires.0 c.ranges.count.fits in
    omega (arith, c.requires.1, refused_length c.args.number c.args.count c.if-count-eq0.false)

pub put_byte-requires : goal.put_byte-requires
put_byte-requires c = let short = refused_short c.args.number c.args.count c.requires.0 c.ranges.count.fits in
    omega (arith, c.requires.1, refused_length c.args.number c.args.count c.if-count-eq0.false)

pub returns : goal.returns
unfolding bytes
returns c = let front = puts_both (puts_both c.put-first.ensures c.put_decimal-space.ensures) c.put_byte-second.ensures in
    let puts = puts_both (puts_both front c.put_decimal-feed.ensures) c.put_byte.ensures in (
      rw (refused_parts c.args.number c.args.count c.if-count-eq0.false)
          puts,
      refused_short c.args.number c.args.count c.requires.0 c.ranges.count.fits,
    )
