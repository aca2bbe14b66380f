-- `message::say::put_error` meets its contract. Assumes nothing.
use Rattle.ascii.specs.Text.{bytes}
use Rattle.message.proofs.Said.{error_1, error_2, error_3, error_4, error_all}
use Rattle.message.proofs.say.put_error.Goals as goal

pub put3-second-requires : goal.put3-second-requires
unfolding bytes
put3-second-requires c = search error_1

pub put-space-requires : goal.put-space-requires
unfolding bytes
put-space-requires c = search error_2

pub put_byte-report-requires : goal.put_byte-report-requires
unfolding bytes
put_byte-report-requires c = search error_3

pub put_error_report-requires : goal.put_error_report-requires
unfolding bytes
put_error_report-requires c = search error_4

pub returns : goal.returns
unfolding bytes
returns c = search error_all
