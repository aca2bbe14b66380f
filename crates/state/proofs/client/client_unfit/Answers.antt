-- `state::client::client_unfit` meets its contract. Assumes nothing.
use Rattle.state.proofs.Judged.{unfit_long, unfit_feed, unfit_dropped, unfit_past, unfit_closed}
use Rattle.state.proofs.client.client_unfit.Goals as goal

pub returns-then-length-gt-LINE : goal.returns-then-length-gt-LINE
returns-then-length-gt-LINE c = search unfit_long

pub returns-then-has_feed : goal.returns-then-has_feed
returns-then-has_feed c = search unfit_feed

pub returns-then-keeps_dropped : goal.returns-then-keeps_dropped
returns-then-keeps_dropped c = search unfit_dropped

pub returns-then-is_past : goal.returns-then-is_past
returns-then-is_past c = search unfit_past

pub returns : goal.returns
returns c = search unfit_closed
