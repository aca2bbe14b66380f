-- `message::say::named_length` meets its contract. Assumes nothing.
use native.Mathlib.Omega.{arith}
use Rattle.ascii.proofs.Decimal.{seconds_low}
use Rattle.message.specs.Clauses.Said.{sensor_fault, held_by}
use Rattle.message.proofs.Said.{held_short, report_length}
use Rattle.message.proofs.say.named_length.Goals as goal

pub overflow_add-result : goal.overflow_add-result
overflow_add-result c = let args = c.args in
    omega (arith, c.requires, seconds_low args.time (omega arith), held_short (sensor_fault args.sensor) args.value.now args.time, report_length args.«module».now args.accessible.now (held_by args.sensor args.value.now) args.time)
