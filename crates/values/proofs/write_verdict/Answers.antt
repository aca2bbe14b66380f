use Rattle.values.proofs.Cases.{fits_at}
use Rattle.values.proofs.write_verdict.Goals as goal

pub write_fit-requires : goal.write_fit-requires
write_fit-requires g c = search fits_at
