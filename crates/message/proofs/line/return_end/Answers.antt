-- `message::line::return_end` meets its contract. Assumes nothing.
use Rattle.std.proofs.lemmas.Bool.Decides.{Decides-eqb}
use Rattle.std.proofs.lemmas.Bool.{false≢true}
use Rattle.std.proofs.lemmas.Slice.Eq.{ends_is}
use mathlib.Core.Path.{sym, ◌∙◌}
use mathlib.Core.List.{[], ◌∷◌}
use Rattle.message.proofs.Content.{one_return, no_return}
use Rattle.message.proofs.line.return_end.Goals as goal

pub returns-then-ends_with : goal.returns-then-ends_with
returns-then-ends_with c = one_return _ ((ends_is Decides-eqb c.args.line.now (13 ∷ []) _ c.ends_with.ensures.value).0 c.if-ends_with.true)

pub returns-else-ends_with : goal.returns-else-ends_with
returns-else-ends_with c =
    no_return _
    (λ front e. false≢true (sym c.if-ends_with.false ∙ (ends_is Decides-eqb c.args.line.now (13 ∷ []) _ c.ends_with.ensures.value).1 front e))
