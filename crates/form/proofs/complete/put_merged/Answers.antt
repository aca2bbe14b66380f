-- `form::complete::put_merged` meets its contract. Assumes nothing.
use Rattle.form.proofs.Merged.{merged_alone, merged_rest}
use Rattle.form.proofs.complete.put_merged.Goals as goal

pub returns-then-is_none : goal.returns-then-is_none
returns-then-is_none c = search (merged_alone, c.if-is_none.ensures)

pub returns : goal.returns
returns c = search (merged_rest, c.if-is_none.ensures)
