use Rattle.report.proofs.Faults.{accepted_readable}
use Rattle.tables.proofs.write_length.Goals as goal

pub report_length-requires : goal.report_length-requires
report_length-requires g c = search accepted_readable
