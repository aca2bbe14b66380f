-- `access::telling::put_checked` meets its contract. Assumes nothing.
use Rattle.access.proofs.Checked.{checked_room, checked_put}
use Rattle.access.proofs.telling.put_checked.Goals as goal

pub put_final_report-requires : goal.put_final_report-requires
put_final_report-requires c = search checked_room

pub returns : goal.returns
returns c = search checked_put
