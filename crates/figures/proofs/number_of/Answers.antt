-- `figures::number_of` meets its contract. Assumes nothing.
use native.Mathlib.Omega.{arith}
use Rattle.figures.proofs.Differences.{numeral_minus, numeral_plus}
use Rattle.figures.proofs.number_of.Goals as goal

pub returns-then-byte-eq45 : goal.returns-then-byte-eq45
returns-then-byte-eq45 c = (search numeral_minus, omega arith)

pub returns : goal.returns
returns c = (search numeral_plus, omega arith)
