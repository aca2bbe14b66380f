-- `form::put_form` meets its contract. Assumes nothing.
use Rattle.form.proofs.Texts.{form_put}
use Rattle.form.proofs.put_form.Goals as goal

pub returns : goal.returns
returns c = search form_put
