-- `form::write::put_ordered` meets its contract. Assumes nothing.
use Rattle.form.proofs.Listed.{ordered_past, ordered_whole}
use Rattle.form.proofs.write.put_ordered.Goals as goal

pub returns-then-v-p : goal.returns-then-v-p
returns-then-v-p c = search ordered_past

pub returns : goal.returns
returns c = search ordered_whole
