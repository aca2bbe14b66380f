-- `summary::put_end` meets its contract. Assumes nothing.
use native.Mathlib.Omega.{arith}
use Rattle.ascii.specs.Text.{bytes}
use Rattle.trace.proofs.Taking.{held_sized}
use Rattle.summary.proofs.Texts.{ends_wrong, ends_half, ends_clean}
use borrow.Author.Rules.{rules}
use Rattle.summary.proofs.put_end.Goals as goal

pub returns-then-reader : goal.returns-then-reader
unfolding bytes
returns-then-reader c = let offset = c.put_offset.ensures in (
  ends_wrong c.args.reader _ _ _ _ _ _ c.if-reader.true c.put-first.ensures c.put_offset.ensures.0,
  omega (arith, c.put_offset.ensures.1, c.put-first.ensures.ends),
)

pub returns-then-reader-eq0 : goal.returns-then-reader-eq0
returns-then-reader-eq0 c = (search ends_clean, omega arith)

pub returns : goal.returns
unfolding bytes
returns c = let offset = c.put_offset-2.ensures in
    let full = held_sized c.args.reader c.well_formed.1.1.0 in (
      ends_half c.args.reader _ _ _ _ _ _ c.if-reader.false c.if-reader-eq0.false full c.put-first-2.ensures c.put_offset-2.ensures.0,
      omega (arith, c.put_offset-2.ensures.1, c.put-first-2.ensures.ends),
    )
