-- `form::verdict` meets its contract. Assumes nothing.
use Rattle.form.proofs.Texts.{verdict_bad}
use Rattle.form.proofs.verdict.Goals as goal

pub returns : goal.returns
returns c = search verdict_bad
