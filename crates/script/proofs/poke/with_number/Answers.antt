-- `script::poke::with_number` meets its contract. Assumes nothing.
use Rattle.script.proofs.Changed.{number_past, number_open, number_overlong, number_active, number_length, number_other}
use Rattle.script.proofs.poke.with_number.Goals as goal

pub returns-then-client-gt-LAST_CLIENT : goal.returns-then-client-gt-LAST_CLIENT
returns-then-client-gt-LAST_CLIENT c = search number_past

pub returns-in-111 : goal.returns-in-111
returns-in-111 c = search number_open

pub returns-in-118 : goal.returns-in-118
returns-in-118 c = search number_overlong

pub returns-in-97 : goal.returns-in-97
returns-in-97 c = search number_active

pub returns-in-110 : goal.returns-in-110
returns-in-110 c = search number_length

pub returns-in_default : goal.returns-in_default
returns-in_default c = search number_other
