-- The theorem of stored forms, as the promise of a function. Assumes nothing.
use Rattle.form.proofs.Stored.{stored_forms}
use mathlib.Core.Path.{refl}
use Rattle.form.proofs.stored_forms.Goals as goal

pub returns : goal.returns
returns c = (refl, stored_forms)
