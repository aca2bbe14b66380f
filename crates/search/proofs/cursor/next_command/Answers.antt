use Rattle.search.proofs.Walks.{picks_commands, command_found, past_parameter, into_module, walk_end}
use Rattle.search.proofs.cursor.next_command.Goals as goal

pub returns-in-Command : goal.returns-in-Command
returns-in-Command c = search command_found

pub returns-in-End : goal.returns-in-End
returns-in-End c = search (walk_end, picks_commands)

pub loop-q-preserved-in-Parameter : goal.loop-q-preserved-in-Parameter
loop-q-preserved-in-Parameter c = search past_parameter

pub loop-q-preserved : goal.loop-q-preserved
loop-q-preserved c = search (into_module, picks_commands)
