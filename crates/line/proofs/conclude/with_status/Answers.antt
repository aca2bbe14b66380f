-- `line::conclude::with_status` meets its contract. Assumes nothing.
use native.Mathlib.Omega.{arith}
use Rattle.line.proofs.Conclusions.{busy_low, busy_settings_lem, no_settings_lem}
use Rattle.line.proofs.conclude.with_status.Goals as goal

pub stored-requires : goal.stored-requires
stored-requires c = (search busy_low, omega arith)

pub returns-in-None : goal.returns-in-None
returns-in-None c = search no_settings_lem

pub returns-in-Some : goal.returns-in-Some
returns-in-Some c = search busy_settings_lem
