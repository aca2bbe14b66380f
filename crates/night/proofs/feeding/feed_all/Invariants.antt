-- The replay is under way. Assumes nothing.
use Rattle.std.proofs.Common.{length, ◌≡◌}
use Rattle.replay.specs.Theorems.{Running}
use Rattle.night.proofs.feeding.feed_all.Given as goal

abbrev pub invariant-loop : goal.invariant-loop
invariant-loop g l =
    Running l.fn.table (length l.initial.outbox) l.next l.values × (length l.outbox ≡ length l.initial.outbox)
    × (length l.values ≡ length l.initial.values)
