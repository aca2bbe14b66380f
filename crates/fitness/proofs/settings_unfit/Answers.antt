use borrow.Author.Rules.{rules}
use Rattle.report.proofs.Faults.{accepted_readable}
use Rattle.fitness.proofs.Unfits.{passed_start, passed_way, passed_all, passed_end, info_readable, one_unfit, passed_on}
use Rattle.fitness.proofs.settings_unfit.Goals as goal

pub first_cursor-cursor-requires : goal.first_cursor-cursor-requires
first_cursor-cursor-requires c = search accepted_readable

pub loop-k-init : goal.loop-k-init
loop-k-init c = search passed_start

pub next_parameter-requires : goal.next_parameter-requires
next_parameter-requires c = search passed_way

pub returns-in_default : goal.returns-in_default
returns-in_default c = search passed_end

pub setting_unfit-requires : goal.setting_unfit-requires
setting_unfit-requires c = search (info_readable, rules)

pub returns-then-setting_unfit : goal.returns-then-setting_unfit
returns-then-setting_unfit c = search one_unfit

pub loop-k-preserved : goal.loop-k-preserved
loop-k-preserved c = search passed_on

pub returns : goal.returns
returns c = search passed_all
