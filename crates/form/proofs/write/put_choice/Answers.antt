-- `form::write::put_choice` meets its contract. Assumes nothing.
use Rattle.form.proofs.Scalars.{choice_named, choice_other}
use Rattle.form.proofs.write.put_choice.Goals as goal

pub returns-then-byte-eq34 : goal.returns-then-byte-eq34
returns-then-byte-eq34 c = λ depth. search choice_named

pub returns : goal.returns
returns c = λ depth. search choice_other
