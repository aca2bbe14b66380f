-- `line::request::data_of` meets its contract. Assumes nothing.
use mathlib.Core.Path.{◌∙◌}
use Rattle.line.proofs.Carried.{no_data, some_data}
use Rattle.line.proofs.request.data_of.Goals as goal

pub returns-then-is_null : goal.returns-then-is_null
returns-then-is_null c = c.requires.1 ∙ no_data _ _ c.is_null.ensures c.if-is_null.true

pub returns : goal.returns
returns c = c.bytes_of.ensures ∙ some_data _ _ c.is_null.ensures c.if-is_null.false
