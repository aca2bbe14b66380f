-- `form::is_stored` meets its contract. Assumes nothing.
use Rattle.form.proofs.Texts.{fits_there, stored_fits, stored_unfit}
use Rattle.form.proofs.is_stored.Goals as goal

pub is_own_form-requires : goal.is_own_form-requires
is_own_form-requires c = search fits_there

pub returns-then-is_ok : goal.returns-then-is_ok
returns-then-is_ok c = search stored_fits

pub returns-else-is_ok : goal.returns-else-is_ok
returns-else-is_ok c = search stored_unfit
