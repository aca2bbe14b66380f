-- `message::say::fault_report_length` meets its contract. Assumes nothing.
use native.Mathlib.Omega.{arith}
use Rattle.ascii.proofs.Decimal.{seconds_low}
use Rattle.message.specs.Clauses.Said.{fault_as}
use Rattle.message.proofs.Said.{front_short, fault_length}
use Rattle.message.proofs.say.fault_report_length.Goals as goal

pub overflow_add-result : goal.overflow_add-result
overflow_add-result c = omega (arith, seconds_low c.args.time (omega arith), front_short (fault_as c.args.fault))

pub overflow_add-result-2 : goal.overflow_add-result-2
overflow_add-result-2 c = omega (arith, seconds_low c.args.time (omega arith), front_short (fault_as c.args.fault))

pub returns : goal.returns
returns c = let f = fault_as c.args.fault in
    (omega (arith, fault_length f c.args.time), omega (arith, seconds_low c.args.time (omega arith), front_short f, fault_length f c.args.time))
