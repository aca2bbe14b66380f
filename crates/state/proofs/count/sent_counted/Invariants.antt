-- `state::count::sent_counted` meets its contract: of the first c clients what is sent has been counted. Assumes nothing.
use mathlib.Core.List.{List}
use mathlib.Core.Path.{◌≡◌}
use Rattle.outbox.specs.Outbox.{Record}
use Rattle.outbox.specs.Clauses.Tallied.{Holds}
use Rattle.state.specs.Clauses.Counted.{sent_counted}
use Rattle.state.proofs.count.sent_counted.Given as goal

abbrev pub invariant-loop-c : goal.invariant-loop-c
invariant-loop-c l = (rs : List Record) → Holds l.out l.written rs → l.counts ≡ sent_counted l.initial.counts rs l.c
