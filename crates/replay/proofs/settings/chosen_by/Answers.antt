-- `replay::settings::chosen_by` meets its contract. Assumes nothing.
use Rattle.replay.proofs.Noting.{by_another, by_silence, by_order, by_reading}
use Rattle.replay.proofs.settings.chosen_by.Goals as goal

pub returns-then-written-eq0 : goal.returns-then-written-eq0
returns-then-written-eq0 c = search by_silence

pub returns-in-Opening : goal.returns-in-Opening
returns-in-Opening c = search by_another

pub returns-else-written-eq0 : goal.returns-else-written-eq0
returns-else-written-eq0 c = search by_order

pub returns-in-Reading : goal.returns-in-Reading
returns-in-Reading c = search by_reading
