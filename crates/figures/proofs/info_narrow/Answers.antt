-- `figures::info_narrow` meets its contract. Assumes nothing.
use Rattle.figures.proofs.Reading.{scaled_1, scaled_good, summed_short, summed_int, summed_scaled, summed_not}
use Rattle.figures.proofs.info_narrow.Goals as goal

pub returns-in_err-k : goal.returns-in_err-k
returns-in_err-k c = rw c.from_residual.ensures (search (summed_short, c.in_err-k.was))

pub returns-in-2 : goal.returns-in-2
returns-in-2 c = search (summed_int, c.in_ok-k.was)

pub returns-in_err-limits-in-9 : goal.returns-in_err-limits-in-9
returns-in_err-limits-in-9 c =
    rw c.from_residual-in_err-limits-in-9.ensures (search (summed_scaled, scaled_1, c.in_ok-k.was, c.in_err-limits-in-9.was))

pub returns-in_ok-limits-in-9 : goal.returns-in_ok-limits-in-9
returns-in_ok-limits-in-9 c = search (summed_scaled, scaled_good, c.in_ok-k.was, c.in_ok-limits-in-9.was)

pub returns-in_default : goal.returns-in_default
returns-in_default c = search (summed_not, c.in_ok-k.was)
