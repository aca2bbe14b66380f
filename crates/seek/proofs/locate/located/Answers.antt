-- `seek::locate::located` meets its contract. Assumes nothing.
use Rattle.seek.proofs.Locating.{some_home, some_parameter, some_command, as_parameter, as_command}
use Rattle.seek.proofs.locate.located.Goals as goal

pub overflow_sub-home : goal.overflow_sub-home
overflow_sub-home c = search some_home

pub overflow_sub-result : goal.overflow_sub-result
overflow_sub-result c = search some_parameter

pub overflow_sub-result-in-Command : goal.overflow_sub-result-in-Command
overflow_sub-result-in-Command c = search some_command

pub returns-in-Parameter : goal.returns-in-Parameter
returns-in-Parameter c = search as_parameter

pub returns-in-Command : goal.returns-in-Command
returns-in-Command c = search as_command
