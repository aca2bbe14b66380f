-- `table::judge::name_at` meets its contract. Assumes nothing.
use Rattle.table.proofs.Named.{name_module, name_accessible}
use Rattle.table.proofs.judge.name_at.Goals as goal

pub returns-in-Modules : goal.returns-in-Modules
returns-in-Modules c = search name_module

pub returns-in-Accessibles : goal.returns-in-Accessibles
returns-in-Accessibles c = search name_accessible
