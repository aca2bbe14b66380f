-- `form::write::put_named` meets its contract. Assumes nothing.
use Rattle.form.proofs.Scalars.{named_none}
use Rattle.form.proofs.write.put_named.Goals as goal

pub returns-in_default : goal.returns-in_default
returns-in_default c = search named_none
