-- `outbox::tally::is_error` meets its contract. Assumes nothing.
use mathlib.Core.Path.{◌∙◌}
use Rattle.std.proofs.lemmas.Bool.{lt-leb}
use Rattle.ascii.specs.Text.{bytes}
use Rattle.outbox.proofs.Tallied.{error_past, error_front}
use Rattle.outbox.proofs.tally.is_error.Goals as goal

pub returns-then-at-out : goal.returns-then-at-out
unfolding bytes
returns-then-at-out c = error_front _ _ c.if-at-out.true c.starts_with.ensures.value

pub returns-else-at-out : goal.returns-else-at-out
returns-else-at-out c = lt-leb _ _ c.if-at-out.false ∙ error_past _ _ c.if-at-out.false
