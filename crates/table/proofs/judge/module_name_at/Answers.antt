-- `table::judge::module_name_at` meets its contract. Assumes nothing.
use Rattle.table.proofs.Named.{named_headless, named_endless, named_module}
use Rattle.table.proofs.judge.module_name_at.Goals as goal

pub returns-in_err-m : goal.returns-in_err-m
returns-in_err-m c = rw c.from_residual.ensures (search (named_headless, c.in_err-m.was))

pub returns-in_err-e : goal.returns-in_err-e
returns-in_err-e c = rw c.from_residual-in_err-e.ensures (search (named_endless, c.in_ok-m.was, c.in_err-e.was))

pub returns : goal.returns
returns c = search (named_module, c.in_ok-m.was, c.in_ok-e.was)
