-- `json_text::characters::escaped_at` meets its contract. Assumes nothing.
use Rattle.json_text.proofs.Escapes.{escaped_u, escaped_b, escaped_f, escaped_n, escaped_r, escaped_t, escaped_other}
use Rattle.json_text.proofs.characters.escaped_at.Goals as goal

pub returns-in-117 : goal.returns-in-117
returns-in-117 c = search escaped_u

pub returns-in-98 : goal.returns-in-98
returns-in-98 c = search escaped_b

pub returns-in-102 : goal.returns-in-102
returns-in-102 c = search escaped_f

pub returns-in-110 : goal.returns-in-110
returns-in-110 c = search escaped_n

pub returns-in-114 : goal.returns-in-114
returns-in-114 c = search escaped_r

pub returns-in-116 : goal.returns-in-116
returns-in-116 c = search escaped_t

pub returns-in_default : goal.returns-in_default
returns-in_default c = rw c.from.ensures (search escaped_other)
