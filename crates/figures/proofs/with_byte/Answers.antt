-- `figures::with_byte` meets its contract. Assumes nothing.
use Rattle.figures.proofs.Reading.{byte_other, byte_digit}
use Rattle.figures.proofs.with_byte.Goals as goal

pub returns-then-is_ascii_digit : goal.returns-then-is_ascii_digit
returns-then-is_ascii_digit c = byte_digit _ _ _ c.if-is_ascii_digit.ensures.value c.from.ensures

pub returns : goal.returns
returns c = byte_other _ _ c.if-is_ascii_digit.ensures.value
