-- `message::say::put_data_report` meets its contract. Assumes nothing.
use Rattle.ascii.specs.Text.{bytes}
use Rattle.message.proofs.Said.{data_1, data_2, data_3, data_all}
use Rattle.message.proofs.say.put_data_report.Goals as goal

pub put3-stamp-requires : goal.put3-stamp-requires
unfolding bytes
put3-stamp-requires c = search data_1

pub put_seconds-close-requires : goal.put_seconds-close-requires
unfolding bytes
put_seconds-close-requires c = search data_2

pub put-requires : goal.put-requires
unfolding bytes
put-requires c = search data_3

pub returns : goal.returns
unfolding bytes
returns c = search data_all
