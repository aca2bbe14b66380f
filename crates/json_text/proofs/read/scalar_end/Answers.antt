-- `json_text::read::scalar_end` meets its contract. Assumes nothing.
use Rattle.json_text.proofs.Values.{scalar_string, scalar_null, scalar_true, scalar_false, scalar_number}
use Rattle.json_text.proofs.read.scalar_end.Goals as goal

pub returns-in-34 : goal.returns-in-34
returns-in-34 c = search scalar_string

pub returns-in-110 : goal.returns-in-110
returns-in-110 c = search scalar_null

pub returns-in-116 : goal.returns-in-116
returns-in-116 c = search scalar_true

pub returns-in-102 : goal.returns-in-102
returns-in-102 c = search scalar_false

pub returns-in_default : goal.returns-in_default
returns-in_default c = search scalar_number
