-- `message::say::data_report_length` meets its contract. Assumes nothing.
use native.Mathlib.Omega.{arith}
use Rattle.ascii.proofs.Decimal.{seconds_low}
use Rattle.message.proofs.Said.{data_length}
use Rattle.message.proofs.say.data_report_length.Goals as goal

pub overflow_add-result : goal.overflow_add-result
overflow_add-result c = omega (arith, seconds_low c.args.time (omega arith))

pub overflow_add-result-2 : goal.overflow_add-result-2
overflow_add-result-2 c = omega (arith, seconds_low c.args.time (omega arith))

pub returns : goal.returns
returns c = omega (arith, data_length c.args.value.now c.args.time)
