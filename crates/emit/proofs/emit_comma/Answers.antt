-- `emit::emit_comma` meets its contract. Assumes nothing.
use native.Mathlib.Omega.{arith}
use Rattle.emit.proofs.Pieces.{comma_none, comma_some}
use borrow.Author.Rules.{rules}
use Rattle.emit.proofs.emit_comma.Goals as goal

pub returns-then-first : goal.returns-then-first
returns-then-first c = comma_none _ _ _ (omega arith) (search rules)

pub returns-else-first : goal.returns-else-first
returns-else-first c = search comma_some
