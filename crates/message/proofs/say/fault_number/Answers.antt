-- `message::say::fault_number` meets its contract. Assumes nothing.
use mathlib.Core.Path.{◌≡◌, refl}
use Prim.Native.Nat.{◌+◌}
use denote.Enum.Declared.{tag_of}
use Rattle.message.specs.Error.{fault_number}
use Rattle.message.specs.Clauses.Said.{fault_as}
use Rattle.message.specs.contracts.say.Fault.{the_type}
use Rattle.message.specs.declared.say.Fault.{Fault}
use Rattle.message.specs.declared.say.Fault.TheVariants.{HardwareError, CommunicationFailed, ReadFailed, OutOfRange}
use Rattle.message.proofs.say.fault_number.Goals as goal

numbered : (f : Fault) → tag_of the_type f + 1 ≡ fault_number (fault_as f)
unfolding fault_number
numbered HardwareError = refl
numbered CommunicationFailed = refl
numbered ReadFailed = refl
numbered OutOfRange = refl

pub returns : goal.returns
returns c = numbered c.args.fault
