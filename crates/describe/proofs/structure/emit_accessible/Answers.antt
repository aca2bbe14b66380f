-- `describe::structure::emit_accessible` meets its contract. Assumes nothing.
use Rattle.std.specs.Prelude.{Some}
use mathlib.Core.Path.{ap, ◌∙◌}
use Rattle.describe.proofs.Reported.{accessible_parameter, accessible_command, accessible_bad}
use Rattle.describe.proofs.structure.emit_accessible.Goals as goal

pub returns-in-Some-Parameter : goal.returns-in-Some-Parameter
returns-in-Some-Parameter c = search (accessible_parameter, c.in-Some-Parameter.is ∙ ap Some c.in-Some-Parameter.field-0-is)

pub returns-in-Some-Command : goal.returns-in-Some-Command
returns-in-Some-Command c = search (accessible_command, c.in-Some-Command.is ∙ ap Some c.in-Some-Command.field-0-is)

pub returns-in-None : goal.returns-in-None
returns-in-None c = search accessible_bad
