-- `summary::put_start` meets its contract. Assumes nothing.
use native.Mathlib.Omega.{arith}
use Rattle.ascii.specs.Text.{bytes}
use Rattle.summary.proofs.Texts.{starts}
use borrow.Author.Rules.{rules}
use Rattle.summary.proofs.put_start.Goals as goal

pub returns : goal.returns
unfolding bytes
returns c = let word = c.put-first.ensures in
    let offset = c.put_offset.ensures in
    (starts _ _ _ _ _ _ word c.put_offset.ensures.0, omega (arith, c.put_offset.ensures.1, c.put-first.ensures.ends))
