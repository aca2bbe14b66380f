-- `message::say::put_counted` meets its contract. Assumes nothing.
use Rattle.ascii.specs.Text.{bytes}
use Rattle.message.proofs.Counted.{counted_1, counted_2, counted_all}
use Rattle.message.proofs.say.put_counted.Goals as goal

pub put-data-requires : goal.put-data-requires
unfolding bytes
put-data-requires c = search counted_1

pub put_data_report-requires : goal.put_data_report-requires
unfolding bytes
put_data_report-requires c = search counted_2

pub returns : goal.returns
unfolding bytes
returns c = search counted_all
