use Rattle.ascii.specs.Text.{bytes}
use Rattle.message.proofs.Requests.{is_identify, is_describe, is_ping, is_activate, is_deactivate, is_read, is_change, is_do, is_count, is_unknown, is_check}
use Rattle.message.proofs.line.action_of.Goals as goal

pub returns-then-same : goal.returns-then-same
unfolding bytes
returns-then-same c = search is_identify

pub returns-then-same-2 : goal.returns-then-same-2
unfolding bytes
returns-then-same-2 c = search is_describe

pub returns-then-same-3 : goal.returns-then-same-3
unfolding bytes
returns-then-same-3 c = search is_ping

pub returns-then-same-4 : goal.returns-then-same-4
unfolding bytes
returns-then-same-4 c = search is_activate

pub returns-then-same-5 : goal.returns-then-same-5
unfolding bytes
returns-then-same-5 c = search is_deactivate

pub returns-then-same-6 : goal.returns-then-same-6
unfolding bytes
returns-then-same-6 c = search is_read

pub returns-then-same-7 : goal.returns-then-same-7
unfolding bytes
returns-then-same-7 c = search is_change

pub returns-then-same-8 : goal.returns-then-same-8
unfolding bytes
returns-then-same-8 c = search is_do

pub returns-then-same-9 : goal.returns-then-same-9
unfolding bytes
returns-then-same-9 c = search is_check

pub returns-then-same-10 : goal.returns-then-same-10
unfolding bytes
returns-then-same-10 c = search is_count

pub returns : goal.returns
unfolding bytes
returns c = search is_unknown
