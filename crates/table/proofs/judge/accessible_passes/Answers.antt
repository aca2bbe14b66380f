-- `table::judge::accessible_passes` meets its contract. Assumes nothing.
use Rattle.std.specs.Prelude.{Some}
use mathlib.Core.Path.{ap, ◌∙◌}
use Rattle.table.proofs.Tests.{parameter_passes, command_passes, bad_passes}
use Rattle.table.proofs.judge.accessible_passes.Goals as goal

pub returns-in-Some-Parameter : goal.returns-in-Some-Parameter
returns-in-Some-Parameter c = search (parameter_passes, c.in-Some-Parameter.is ∙ ap Some c.in-Some-Parameter.field-0-is)

pub returns-in-Some-Command : goal.returns-in-Some-Command
returns-in-Some-Command c = search (command_passes, c.in-Some-Command.is ∙ ap Some c.in-Some-Command.field-0-is)

pub returns-in-None : goal.returns-in-None
returns-in-None c = search bad_passes
