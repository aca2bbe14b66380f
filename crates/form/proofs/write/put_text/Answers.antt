-- `form::write::put_text` meets its contract. Assumes nothing.
use mathlib.Core.Path.{◌∙◌, sym}
use mathlib.Core.Logic.{◌≢◌}
use Rattle.form.proofs.Listed.{text_short, text_ordered, text_other}
use Rattle.form.proofs.write.put_text.Goals as goal

pub returns-in_default : goal.returns-in_default
returns-in_default c = search text_short

pub returns-then-k-from : goal.returns-then-k-from
returns-then-k-from c = search (text_ordered, c.if-k-from.true ∙ c.from.ensures)

pub returns : goal.returns
returns c = let other : c.in-Some.k ≢ 11 = λ e. c.if-k-from.false (e ∙ sym c.from.ensures) in search text_other
