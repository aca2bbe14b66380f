-- `table::judge::info_passes` meets its contract. Assumes nothing.
use Rattle.table.proofs.Tests.{info_names, info_rules, info_initials}
use Rattle.table.proofs.judge.info_passes.Goals as goal

pub returns-in-Names : goal.returns-in-Names
returns-in-Names c = λ d x e. let h = c.names_good.ensures d x e in search info_names

pub returns-in-Rules : goal.returns-in-Rules
returns-in-Rules c = λ d x e. let h = c.rules_kept.ensures d x e in search info_rules

pub returns-in-Initials : goal.returns-in-Initials
returns-in-Initials c = λ d x e. search info_initials
