-- `table::judge::is_next` meets its contract. Assumes nothing.
use Rattle.table.proofs.Named.{next_module, next_accessible}
use Rattle.table.proofs.judge.is_next.Goals as goal

pub returns-in-Modules : goal.returns-in-Modules
returns-in-Modules c = search next_module

pub returns-in-Accessibles : goal.returns-in-Accessibles
returns-in-Accessibles c = search next_accessible
