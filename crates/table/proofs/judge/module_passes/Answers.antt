-- `table::judge::module_passes` meets its contract. Assumes nothing.
use Rattle.table.proofs.Heads.{module_unread, module_headless, module_passes_lem}
use Rattle.table.proofs.judge.module_passes.Goals as goal

pub returns-in_default : goal.returns-in_default
returns-in_default c = search module_unread

pub returns-then-heading_passes : goal.returns-then-heading_passes
returns-then-heading_passes c = search module_passes_lem

pub returns-else-heading_passes : goal.returns-else-heading_passes
returns-else-heading_passes c = search module_headless
