-- `datainfo::rules::same_key` meets its contract. Assumes nothing.
use Rattle.datainfo.proofs.Keys.{key_names, key_numbers}
use Rattle.datainfo.proofs.rules.same_key.Goals as goal

pub returns-then-names : goal.returns-then-names
returns-then-names c = search key_names

pub returns : goal.returns
returns c = search key_numbers
