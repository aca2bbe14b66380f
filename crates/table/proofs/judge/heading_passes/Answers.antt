-- `table::judge::heading_passes` meets its contract. Assumes nothing.
use Rattle.table.proofs.Heads.{head_names, head_rules, head_initials}
use Rattle.table.proofs.judge.heading_passes.Goals as goal

pub returns-in-Names : goal.returns-in-Names
returns-in-Names c = search head_names

pub returns-in-Rules : goal.returns-in-Rules
returns-in-Rules c = search head_rules

pub returns-in-Initials : goal.returns-in-Initials
returns-in-Initials c = search head_initials
