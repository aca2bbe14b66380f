-- `message::say::counted_length` meets its contract. Assumes nothing.
use native.Mathlib.Omega.{arith}
use Rattle.ascii.proofs.Decimal.{seconds_low}
use Rattle.message.proofs.Said.{data_length}
use Rattle.message.proofs.Counted.{counted_length}
use Rattle.message.proofs.say.counted_length.Goals as goal

pub overflow_add-result : goal.overflow_add-result
overflow_add-result c = omega (arith, seconds_low c.args.time (omega arith), data_length c.args.text.now c.args.time)

pub returns : goal.returns
returns c = omega (arith, counted_length c.args.text.now c.args.time)
