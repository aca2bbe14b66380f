-- `seek::walk::advance` meets its contract. Assumes nothing.
use Rattle.seek.proofs.Walking.{step_end, step_parameter, step_command}
use Rattle.seek.proofs.walk.advance.Goals as goal

pub returns-in_err-a : goal.returns-in_err-a
returns-in_err-a c = rw c.from_residual.ensures (search (step_end, c.in_err-a.was))

pub returns-in-Parameter : goal.returns-in-Parameter
returns-in-Parameter c = search (step_parameter, c.in_ok-a.was)

pub returns-in-Command : goal.returns-in-Command
returns-in-Command c = search (step_command, c.in_ok-a.was)
