-- `form::complete::is_left_out` meets its contract. Assumes nothing.
use Rattle.form.proofs.Merged.{left_yes, left_no}
use Rattle.form.proofs.complete.is_left_out.Goals as goal

pub returns-then-is_optional : goal.returns-then-is_optional
returns-then-is_optional c = search left_yes

pub returns-else-is_optional : goal.returns-else-is_optional
returns-else-is_optional c = search left_no
