-- `datainfo::rules::key_good` meets its contract. Assumes nothing.
use mathlib.Core.Path.{◌≡◌, refl}
use mathlib.Core.Bool.{true, not}
use Rattle.datainfo.proofs.Keys.{key_name, key_any}
use Rattle.datainfo.proofs.rules.key_good.Goals as goal

pub returns-else-not-names : goal.returns-else-not-names
returns-else-not-names c = search key_name

pub returns-then-not-names : goal.returns-then-not-names
returns-then-not-names c = let n : not c.args.names ≡ true = rw c.if-not-names.true refl in rw n (search key_any)
