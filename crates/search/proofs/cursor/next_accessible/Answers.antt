use Rattle.search.proofs.Walks.{picks_accessibles, module_less, one_parameter, one_command, into_module, walk_end}
use Rattle.search.proofs.cursor.next_accessible.Goals as goal

pub returns-in-Parameter : goal.returns-in-Parameter
returns-in-Parameter c = search one_parameter

pub returns-in-Command : goal.returns-in-Command
returns-in-Command c = search one_command

pub loop-q-smaller : goal.loop-q-smaller
loop-q-smaller c = search module_less

pub loop-q-preserved : goal.loop-q-preserved
loop-q-preserved c = search (into_module, picks_accessibles)

pub returns-in-End : goal.returns-in-End
returns-in-End c = search (walk_end, picks_accessibles)
