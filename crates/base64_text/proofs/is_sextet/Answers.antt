-- `base64::is_sextet` meets its contract. Assumes nothing.
use Rattle.base64_text.proofs.Sizes.{bits_told}
use Rattle.base64_text.proofs.is_sextet.Goals as goal

pub returns : goal.returns
returns c = rw (c.is_some.ensures, c.sextet.ensures) (bits_told c.args.b)
