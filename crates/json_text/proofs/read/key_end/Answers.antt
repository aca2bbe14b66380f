-- `json_text::read::key_end` meets its contract. Assumes nothing.
use Rattle.json_text.proofs.Values.{key_unquoted, key_bad, key_alone, key_end}
use Rattle.json_text.proofs.read.key_end.Goals as goal

pub returns-then-byte-ne34 : goal.returns-then-byte-ne34
returns-then-byte-ne34 c = search key_unquoted

pub returns-in_err-e : goal.returns-in_err-e
returns-in_err-e c = rw c.from_residual.ensures (search (key_bad, c.in_err-e.was))

pub returns-then-byte-eq58 : goal.returns-then-byte-eq58
returns-then-byte-eq58 c = search (key_end, c.in_ok-e.was)

pub returns-else-byte-eq58 : goal.returns-else-byte-eq58
returns-else-byte-eq58 c = search (key_alone, c.in_ok-e.was)
