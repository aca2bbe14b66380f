use Rattle.values.proofs.Cases.{readable}
use Rattle.values.proofs.judge_case.Goals as goal

pub write_verdict-requires : goal.write_verdict-requires
write_verdict-requires g c = search readable
