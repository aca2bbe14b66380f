-- `form::write::form_length` meets its contract. Assumes nothing.
use Rattle.form.proofs.Typed.{form_measured}
use Rattle.form.proofs.write.form_length.Goals as goal

pub returns : goal.returns
returns c = search form_measured
