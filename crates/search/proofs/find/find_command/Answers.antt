use Rattle.search.proofs.Finds.{counted_commands, sought_start, command_missing, command_is, command_on}
use Rattle.search.proofs.find.find_command.Goals as goal

pub loop-q-init : goal.loop-q-init
loop-q-init c = search (sought_start, counted_commands)

pub returns-then-are_named : goal.returns-then-are_named
returns-then-are_named c = search command_is

pub loop-q-preserved : goal.loop-q-preserved
loop-q-preserved c = search command_on

pub returns : goal.returns
returns c = search command_missing
