-- `json_text::read::is_text` meets its contract. Assumes nothing.
use mathlib.Core.Path.{◌∙◌}
use Rattle.json_text.proofs.Rest.{text_told}
use Rattle.json_text.proofs.read.is_text.Goals as goal

pub returns : goal.returns
returns c = c.eq.ensures ∙ text_told c.args.s.now c.value_end.result c.value_end.ensures
