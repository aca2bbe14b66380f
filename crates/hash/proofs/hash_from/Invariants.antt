-- `hash::hash_from` meets its contract. The loop's invariant: the hash is n with the bytes from the index on. Assumes nothing.
use mathlib.Core.Path.{◌≡◌}
use lib.ListN.{drop}
use Rattle.hash.specs.Hash.{hash_from}
use Rattle.hash.proofs.hash_from.Given as goal

abbrev pub invariant-loop-b : goal.invariant-loop-b
invariant-loop-b l = hash_from l.h l.s ≡ hash_from l.n (drop l.b-index l.s)
