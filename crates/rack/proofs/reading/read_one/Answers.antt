-- `rack::reading::read_one` meets its contract. Assumes nothing.
use borrow.Author.Rules.{rules}
use Rattle.rack.proofs.Readings.{readable, read_info, read_late, read_past, read_none, read_unfit, read_fits, read_taken}
use Rattle.rack.proofs.reading.read_one.Goals as goal

pub returns-then-time-gt-LATEST : goal.returns-then-time-gt-LATEST
returns-then-time-gt-LATEST c = search read_late

pub returns-then-parameter-gt-LAST_PARAMETER : goal.returns-then-parameter-gt-LAST_PARAMETER
returns-then-parameter-gt-LAST_PARAMETER c = search read_past

pub parameter_by_number-requires : goal.parameter_by_number-requires
parameter_by_number-requires c = search readable

pub returns-in_default : goal.returns-in_default
returns-in_default c = search read_none

pub verdict-requires : goal.verdict-requires
verdict-requires c = search read_info

pub returns-in_default-verdict : goal.returns-in_default-verdict
returns-in_default-verdict c = read_unfit _ _ _ _ _ _ _ (search rules) (search rules) _ c.parameter_by_number.ensures _ _ c.in-Some.is _ c.verdict.ensures
    (c.in_default-verdict.not-Ok tt) c.bare_quiet-in_default-verdict.ensures

pub take_reading-requires : goal.take_reading-requires
take_reading-requires c = search read_fits

pub returns : goal.returns
returns c = read_taken _ c.args.state _ _ _ _ _ c.requires (search rules) _ c.parameter_by_number.ensures _ _ c.in-Some.is _
    c.verdict.ensures c.in-Ok.is c.take_reading.ensures
