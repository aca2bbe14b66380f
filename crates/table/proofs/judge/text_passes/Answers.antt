-- `table::judge::text_passes` meets its contract. Assumes nothing.
use Rattle.table.proofs.Tests.{text_names, text_rules, text_initials}
use Rattle.table.proofs.judge.text_passes.Goals as goal

pub returns-in-Names : goal.returns-in-Names
returns-in-Names c = search text_names

pub returns-in-Rules : goal.returns-in-Rules
returns-in-Rules c = search text_rules

pub returns-in-Initials : goal.returns-in-Initials
returns-in-Initials c = search text_initials
