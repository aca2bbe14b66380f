-- `line::named::located` meets its contract. Assumes nothing.
use Rattle.line.proofs.Sought.{located_parameter, located_command, located_nowhere, located_nothing}
use borrow.Author.Rules.{rules}
use Rattle.line.proofs.named.located.Goals as goal

pub at_parameter-requires : goal.at_parameter-requires
at_parameter-requires c = (search rules, (search rules, (search located_parameter, search rules)))

pub at_command-requires : goal.at_command-requires
at_command-requires c = (search rules, (search rules, (search located_command, search rules)))

pub returns-in-NoModule : goal.returns-in-NoModule
returns-in-NoModule c = search located_nowhere

pub returns-in-Nothing : goal.returns-in-Nothing
returns-in-Nothing c = search located_nothing

pub returns-in-Command : goal.returns-in-Command
returns-in-Command c = c.at_command.ensures _ _
