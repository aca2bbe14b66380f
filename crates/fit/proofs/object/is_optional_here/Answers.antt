-- `fit::object::is_optional_here` meets its contract. Assumes nothing.
use borrow.Author.Tests.{ne_eqb}
use Rattle.fit.proofs.Objects.{entry_plain, entry_optional}
use Rattle.fit.proofs.object.is_optional_here.Goals as goal

pub returns-else-byte-eq1 : goal.returns-else-byte-eq1
returns-else-byte-eq1 c = rw (ne_eqb _ _ c.if-byte-eq1.false) (search entry_plain)

pub returns-then-byte-eq1 : goal.returns-then-byte-eq1
returns-then-byte-eq1 c = search entry_optional
