-- `describe::structure::emit_part_key` meets its contract. Assumes nothing.
use Rattle.table.specs.Clauses.At.{bytes_of}
use borrow.Author.Rules.{rules}
use Rattle.describe.proofs.structure.emit_part_key.Goals as goal

pub returns : goal.returns
unfolding bytes_of
returns c = search rules
