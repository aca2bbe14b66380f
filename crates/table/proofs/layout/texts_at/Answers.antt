-- `table::layout::texts_at` meets its contract. Assumes nothing.
use Rattle.table.proofs.Records.{texts_unmarked, texts_none, texts_one, texts_two}
use Rattle.table.proofs.layout.texts_at.Goals as goal

pub returns-in_err-first : goal.returns-in_err-first
returns-in_err-first c = rw c.from_residual.ensures (search (texts_unmarked, c.in_err-first.was))

pub returns-in_err-name : goal.returns-in_err-name
returns-in_err-name c = rw c.from_residual-in_err-name.ensures (search (texts_none, c.in_ok-first.was, c.in_err-name.was))

pub returns-in_err-description : goal.returns-in_err-description
returns-in_err-description c = rw c.from_residual-in_err-description.ensures (search (texts_one, c.in_ok-first.was, c.in_ok-name.was, c.in_err-description.was))

pub returns : goal.returns
returns c = search (texts_two, c.in_ok-first.was, c.in_ok-name.was, c.in_ok-description.was)
