-- `form::write::put_field` meets its contract. Assumes nothing.
use Rattle.form.proofs.Listed.{field_absent, field_put}
use Rattle.form.proofs.write.put_field.Goals as goal

pub returns-in_default-find_key : goal.returns-in_default-find_key
returns-in_default-find_key c = search field_absent

pub returns : goal.returns
returns c = search field_put
