-- `json_text::characters::with_digit` meets its contract. Assumes nothing.
use Rattle.std.proofs.Common.{◌∙◌, ap, arith}
use Rattle.json_text.specs.Characters.{hex_digit}
use Rattle.json_text.proofs.Escapes.{digit_none, digit_one}
use Rattle.json_text.proofs.characters.with_digit.Goals as goal

pub returns-in-Some : goal.returns-in-Some
returns-in-Some c = let byte = c.in-Some.ensures.lookup.3 in
    let is = c.hex_digit.ensures.0 ∙ ap hex_digit (byte.1 0) in
    (digit_one c.args.n c.hex_digit.result c.args.s.now c.args.at byte.0 is, omega (arith, c.hex_digit.ensures.1))

pub returns-in-None : goal.returns-in-None
returns-in-None c = (digit_none c.args.n c.args.s.now c.args.at c.in-None.ensures.lookup.3, omega arith)
