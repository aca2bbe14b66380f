-- `script::poke::with_lines` meets its contract. Assumes nothing.
use Rattle.script.proofs.poke.with_lines.Goals as goal

pub returns : goal.returns
returns c = let e = c.put_within.ensures in cc
