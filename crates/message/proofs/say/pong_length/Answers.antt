-- `message::say::pong_length` meets its contract. Assumes nothing.
use native.Mathlib.Omega.{arith}
use Rattle.ascii.specs.Text.{bytes}
use Rattle.ascii.proofs.Decimal.{seconds_low}
use Rattle.message.proofs.Said.{data_length, pong_length}
use Rattle.message.proofs.say.pong_length.Goals as goal

pub overflow_add-result-2 : goal.overflow_add-result-2
unfolding bytes
overflow_add-result-2 c = omega (arith, seconds_low c.args.time (omega arith), data_length (bytes "null") c.args.time)

pub returns : goal.returns
unfolding bytes
returns c = omega (arith, pong_length c.args.token.now c.args.time)
