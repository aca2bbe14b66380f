-- `table::judge::value_passes` meets its contract. Assumes nothing.
use Rattle.table.proofs.Tests.{value_names, value_rules, value_initials}
use Rattle.table.proofs.judge.value_passes.Goals as goal

pub returns-in-Names : goal.returns-in-Names
returns-in-Names c = λ d x e. search value_names

pub returns-in-Rules : goal.returns-in-Rules
returns-in-Rules c = λ d x e. search value_rules

pub returns-in-Initials : goal.returns-in-Initials
returns-in-Initials c = λ d x e. let h = c.part_is_stored.ensures d x e in search value_initials
