-- `line::locating::sought` meets its contract. Assumes nothing.
use Rattle.report.proofs.Faults.{accepted_readable}
use Rattle.line.proofs.Seeks.{module_in, name_in_lem, seeks_found, seeks_none, seeks_unbuilt}
use Rattle.line.proofs.locating.sought.Goals as goal

pub returns-in_default : goal.returns-in_default
returns-in_default c = search seeks_none

pub is_built-requires : goal.is_built-requires
is_built-requires c = search accepted_readable

pub returns-then-not-is_built : goal.returns-then-not-is_built
returns-then-not-is_built c = search seeks_unbuilt

pub bytes_of-requires : goal.bytes_of-requires
bytes_of-requires c = search module_in

pub bytes_of-requires-2 : goal.bytes_of-requires-2
bytes_of-requires-2 c = search name_in_lem

pub returns : goal.returns
returns c = search seeks_found
