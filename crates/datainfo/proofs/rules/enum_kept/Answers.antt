-- `datainfo::rules::enum_kept` meets its contract. Assumes nothing.
use mathlib.Core.Path.{◌≡◌, refl}
use mathlib.Core.Bool.{true, false, not}
use Rattle.datainfo.proofs.Own.{enum_uncounted, enum_numbers}
use Rattle.datainfo.proofs.rules.enum_kept.Goals as goal

pub returns-else-count_kept : goal.returns-else-count_kept
returns-else-count_kept c = let n : not c.count_kept.result ≡ true = rw c.if-count_kept.false refl in rw c.if-count_kept.false (search enum_uncounted)

pub returns-then-count_kept : goal.returns-then-count_kept
returns-then-count_kept c = let n : not c.count_kept.result ≡ false = rw c.if-count_kept.true refl in search enum_numbers
