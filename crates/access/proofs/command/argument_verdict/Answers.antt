-- `access::command::argument_verdict` meets its contract. Assumes nothing.
use Rattle.table.proofs.Tests.{argument_readable}
use Rattle.access.proofs.Arguments.{judged, judged_null}
use Rattle.access.proofs.command.argument_verdict.Goals as goal

pub verdict-requires : goal.verdict-requires
verdict-requires c = search argument_readable

pub returns-then-argument : goal.returns-then-argument
returns-then-argument c = search judged

pub returns-else-argument : goal.returns-else-argument
returns-else-argument c = search judged_null
