-- `message::say::sensor_of` meets its contract. Assumes nothing.
use Rattle.message.proofs.Said.{number_1, number_2, number_3, number_4, number_none}
use Rattle.message.proofs.say.sensor_of.Goals as goal

pub returns-in-1 : goal.returns-in-1
returns-in-1 c = search number_1

pub returns-in-2 : goal.returns-in-2
returns-in-2 c = search number_2

pub returns-in-3 : goal.returns-in-3
returns-in-3 c = search number_3

pub returns-in-4 : goal.returns-in-4
returns-in-4 c = search number_4

pub returns-in_default : goal.returns-in_default
returns-in_default c = search number_none
