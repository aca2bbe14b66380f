-- `script::poke::poked` meets its contract. Assumes nothing.
use native.Mathlib.Omega.{arith}
use Rattle.script.proofs.Changed.{poked_counts, poked_others, poked_length, poked_time, poked_error, poked_lines, poked_client}
use Rattle.script.proofs.poke.poked.Goals as goal

pub returns-in-107 : goal.returns-in-107
returns-in-107 c = search poked_counts

pub returns-in-122 : goal.returns-in-122
returns-in-122 c = poked_others _ _ _ (λ e. omega arith) (search poked_length)

pub returns-in-116 : goal.returns-in-116
returns-in-116 c = poked_others _ _ _ (λ e. omega arith) (search poked_time)

pub returns-in-101 : goal.returns-in-101
returns-in-101 c = poked_others _ _ _ (λ e. omega arith) (search poked_error)

pub returns-in-108 : goal.returns-in-108
returns-in-108 c = poked_others _ _ _ (λ e. omega arith) (search poked_lines)

pub returns-in_default : goal.returns-in_default
returns-in_default c = search (poked_others, poked_client)
