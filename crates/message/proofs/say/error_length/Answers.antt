-- `message::say::error_length` meets its contract. Assumes nothing.
use native.Mathlib.Omega.{arith}
use Rattle.message.specs.Clauses.Said.{denial_of}
use Rattle.message.proofs.Said.{error_length}
use Rattle.message.proofs.say.error_length.Goals as goal

pub returns : goal.returns
returns c = omega (arith, error_length c.args.action.now c.args.specifier.now (denial_of c.args.denial))
