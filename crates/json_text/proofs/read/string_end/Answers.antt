use Rattle.std.proofs.Common.{rules, arith}
use Rattle.json_text.proofs.Strings.{string_start, chars_none, chars_end, chars_bad, chars_more}
use Rattle.json_text.proofs.read.string_end.Goals as goal

pub loop-init : goal.loop-init
loop-init c = (omega arith, search string_start)

pub returns-then-byte-eq34 : goal.returns-then-byte-eq34
returns-then-byte-eq34 c = chars_end _ _ _ _ c.loop.invariant.1 _ c.byte.ensures (omega arith) c.if-byte-eq34.true

pub returns-in_err-i : goal.returns-in_err-i
returns-in_err-i c = rw c.from_residual.ensures (search (rules, chars_bad, c.in_err-i.was))

pub loop-preserved : goal.loop-preserved
loop-preserved c = (search (rules, c.in_ok-i.ensures), search (rules, chars_more, c.in_ok-i.was))

pub returns : goal.returns
returns c = search (rules, chars_none)
