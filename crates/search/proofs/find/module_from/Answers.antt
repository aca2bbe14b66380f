use Rattle.search.proofs.Searches.{search_start, search_last, search_bad, search_found, search_next}
use Rattle.table.proofs.Named.{name_within, names_less, names_after}
use native.Mathlib.Omega.{arith}
use Rattle.search.proofs.find.module_from.Goals as goal

pub loop-at-init : goal.loop-at-init
loop-at-init c = ((omega arith, omega arith), search search_start)

pub returns-in_err-p : goal.returns-in_err-p
returns-in_err-p c = rw c.from_residual.ensures (search (search_bad, c.in_err-p.was))

pub returns-then-part_is : goal.returns-then-part_is
returns-then-part_is c = search (search_found, c.in_ok-p.was)

pub loop-at-smaller : goal.loop-at-smaller
loop-at-smaller c = search (names_less, c.in_ok-p.was)

pub loop-at-preserved : goal.loop-at-preserved
loop-at-preserved c = ((search (name_within, c.in_ok-p.was), search (names_after, c.in_ok-p.was)), search (search_next, c.in_ok-p.was))

pub returns : goal.returns
returns c = search search_last
