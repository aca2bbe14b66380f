-- `state::client::keeps_closed` meets its contract. Assumes nothing.
use mathlib.Core.Path.{sym, ap, ◌∙◌}
use mathlib.Core.Bool.{not, false≢true}
use borrow.Author.Tests.{eqb-true, ne_eqb, not-false}
use Rattle.state.proofs.Judged.{open_keeps, keeps_bytes, keeps_overlong, keeps_active}
use Rattle.state.proofs.client.keeps_closed.Goals as goal
use Rattle.state.proofs.client.keeps_closed.Goals.{then-length-c-ne0, else-length-c-ne0}

pub returns-then-overlong-c-ne0 : goal.returns-then-overlong-c-ne0
returns-then-overlong-c-ne0 c = elim c.if-length-c-ne0.branch [
  | then-length-c-ne0 w ↦ c.if-overlong-c-ne0.true ∙ keeps_bytes _ _ c.if-open-c-eq0.true w.if-length-c-ne0.true
  | else-length-c-ne0 w ↦ c.if-overlong-c-ne0.true
      ∙ keeps_overlong _ _ c.if-open-c-eq0.true w.if-length-c-ne0.false (λ z. false≢true (rw z at (sym w.value-is ∙ c.if-overlong-c-ne0.true)))
]

pub returns-else-overlong-c-ne0 : goal.returns-else-overlong-c-ne0
returns-else-overlong-c-ne0 c = elim c.if-length-c-ne0.branch [
  | then-length-c-ne0 w ↦ absurd (false≢true (sym c.if-overlong-c-ne0.false ∙ w.value-is ∙ ap not (ne_eqb _ _ w.if-length-c-ne0.true)))
  | else-length-c-ne0 w ↦ keeps_active _ _ c.if-open-c-eq0.true w.if-length-c-ne0.false (eqb-true _ _ (not-false _ (sym w.value-is ∙ c.if-overlong-c-ne0.false)))
]

pub returns-else-open-c-eq0 : goal.returns-else-open-c-eq0
returns-else-open-c-eq0 c = ne_eqb _ _ c.if-open-c-eq0.false ∙ open_keeps _ _ c.if-open-c-eq0.false
