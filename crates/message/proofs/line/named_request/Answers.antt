-- `message::line::named_request` meets its contract. Assumes nothing.
use Rattle.message.proofs.Requests.{first_bad, second_bad, asks_accessible}
use Rattle.message.proofs.line.named_request.Goals as goal
use Rattle.message.proofs.line.named_request.Goals.{else-is_name_part-via-then-is_name_part+else-is_name_part-2, else-is_name_part-via-else-is_name_part}

pub returns-then-is_name_part-2 : goal.returns-then-is_name_part-2
returns-then-is_name_part-2 c = search asks_accessible

pub returns-else-is_name_part : goal.returns-else-is_name_part
returns-else-is_name_part c =
    elim c.else-is_name_part.branch [
      | else-is_name_part-via-then-is_name_part+else-is_name_part-2 w ↦ search second_bad
      | else-is_name_part-via-else-is_name_part w ↦ search first_bad
    ]
