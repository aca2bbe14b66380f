-- `table::judge::accessible_name_at` meets its contract. Assumes nothing.
use Rattle.table.proofs.Named.{named_parameter, named_command, named_bad}
use Rattle.std.specs.Prelude.{Some}
use mathlib.Core.Path.{ap, ◌∙◌}
use Rattle.table.proofs.judge.accessible_name_at.Goals as goal

pub returns-in_err-q : goal.returns-in_err-q
returns-in_err-q c = rw c.from_residual.ensures (search (named_bad, c.in_err-q.was))

pub returns-in-Parameter : goal.returns-in-Parameter
returns-in-Parameter c = search (named_parameter, c.in_ok-q.was ∙ ap Some c.in-Parameter.is)

pub returns-in-Command : goal.returns-in-Command
returns-in-Command c = search (named_command, c.in_ok-q.was ∙ ap Some c.in-Command.is)
