use borrow.Author.Rules.{rules}
use native.Mathlib.Omega.{arith}
use Rattle.datainfo.proofs.Keys.{repeated_none, repeated_found, repeated_more}
use Rattle.datainfo.proofs.rules.is_repeated.Goals as goal

pub same_key-requires : goal.same_key-requires
same_key-requires c = (search rules, c.requires.1 _)

pub returns-then-same_key : goal.returns-then-same_key
returns-then-same_key c = search repeated_found

pub loop-at-preserved : goal.loop-at-preserved
loop-at-preserved c = (omega arith, search repeated_more)

pub returns : goal.returns
returns c = search repeated_none
