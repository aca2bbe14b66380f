-- `line::named::named` meets its contract. Assumes nothing.
use borrow.Author.Rules.{rules}
use Rattle.report.proofs.Faults.{accepted_readable}
use Rattle.line.proofs.Sought.{built, unbuilt, located_built}
use Rattle.line.proofs.named.named.Goals as goal

pub is_built-requires : goal.is_built-requires
is_built-requires c = search accepted_readable

pub returns-then-not-is_built : goal.returns-then-not-is_built
returns-then-not-is_built c = search unbuilt

pub located-requires : goal.located-requires
located-requires c = (search rules, (search rules, (search built, (search rules, search located_built))))
