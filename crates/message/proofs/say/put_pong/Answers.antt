-- `message::say::put_pong` meets its contract. Assumes nothing.
use Rattle.ascii.specs.Text.{bytes}
use Rattle.message.proofs.Said.{pong_1, pong_2, pong_all}
use Rattle.message.proofs.say.put_pong.Goals as goal

pub put3-data-requires : goal.put3-data-requires
unfolding bytes
put3-data-requires c = search pong_1

pub put_data_report-requires : goal.put_data_report-requires
unfolding bytes
put_data_report-requires c = search pong_2

pub returns : goal.returns
unfolding bytes
returns c = search pong_all
