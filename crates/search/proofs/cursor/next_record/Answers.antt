-- `search::cursor::next_record` meets its contract. Assumes nothing.
use Rattle.std.specs.Prelude.{Some}
use mathlib.Core.Path.{ap, ◌∙◌}
use Rattle.search.proofs.Lefts.{so_next, record_parameter, record_command, record_bad}
use Rattle.search.proofs.cursor.next_record.Goals as goal

pub returns-in-Some-Parameter : goal.returns-in-Some-Parameter
returns-in-Some-Parameter c = search (record_parameter, so_next, c.in-Some-Parameter.is ∙ ap Some c.in-Some-Parameter.field-0-is)

pub returns-in-Some-Command : goal.returns-in-Some-Command
returns-in-Some-Command c = search (record_command, so_next, c.in-Some-Command.is ∙ ap Some c.in-Some-Command.field-0-is)

pub returns-in-None : goal.returns-in-None
returns-in-None c = search (record_bad, so_next)
