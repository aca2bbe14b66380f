-- `fitness::is_unfit` meets its contract. Assumes nothing.
use mathlib.Core.Path.{◌∙◌}
use borrow.Author.Rules.{rules}
use Rattle.report.proofs.Faults.{accepted_readable}
use Rattle.fitness.proofs.Unfits.{clients_make, settings_make, few_counted}
use Rattle.fitness.proofs.is_unfit.Goals as goal

pub module_count-requires : goal.module_count-requires
module_count-requires c = search accepted_readable

pub clients_unfit-requires : goal.clients_unfit-requires
clients_unfit-requires c = (search few_counted, search rules)

pub returns-then-clients_unfit : goal.returns-then-clients_unfit
returns-then-clients_unfit c = c.if-clients_unfit.true ∙ search clients_make

pub returns-else-clients_unfit : goal.returns-else-clients_unfit
returns-else-clients_unfit c = search settings_make
