use Rattle.search.proofs.Walks.{picks_parameters, parameter_found, past_command, into_module, walk_end}
use Rattle.search.proofs.cursor.next_parameter.Goals as goal

pub returns-in-Parameter : goal.returns-in-Parameter
returns-in-Parameter c = search parameter_found

pub returns-in-End : goal.returns-in-End
returns-in-End c = search (walk_end, picks_parameters)

pub loop-q-preserved-in-Command : goal.loop-q-preserved-in-Command
loop-q-preserved-in-Command c = search past_command

pub loop-q-preserved : goal.loop-q-preserved
loop-q-preserved c = search (into_module, picks_parameters)
