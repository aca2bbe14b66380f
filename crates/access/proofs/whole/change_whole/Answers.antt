-- `access::whole::change_whole` meets its contract. Assumes nothing.
use Rattle.state.specs.Clauses.Bare.{unlined}
use Rattle.access.proofs.Finding.{info_known, parameter_known}
use Rattle.access.proofs.Changed.{change_denied, change_settable, change_set}
use Rattle.access.proofs.whole.change_whole.Goals as goal

pub judge_change-requires : goal.judge_change-requires
judge_change-requires c = info_known (parameter_known _ c.requires.0.lent.accepted _ _ _ _ _ c.requires.1.1)

pub set-requires : goal.set-requires
set-requires c = change_settable _ (unlined c.args.state) _ _ _ _ c.requires.0 _ _ _ _ _ _ c.requires.1.1 _ c.judge_change.ensures c.in_default.is c.requires.1.0

pub returns-in-Err : goal.returns-in-Err
returns-in-Err c = change_denied _ (unlined c.args.state) _ _ _ _ c.requires.0 _ _ _ _ _ _ c.requires.1.1 _ c.judge_change.ensures _ c.in-Err.is

pub returns : goal.returns
returns c = change_set _ (unlined c.args.state) _ _ _ _ c.requires.0 _ _ _ _ _ _ c.requires.1.1 _ c.judge_change.ensures c.in_default.is
    _ _ _ c.set.ensures
