-- `form::value_verdict` meets its contract: the length counts only where the value fits. Assumes nothing.
use Rattle.std.proofs.lemmas.Result.{err_from_is_err_and}
use Rattle.form.proofs.Texts.{value_fits, value_unfit}
use Rattle.form.proofs.value_verdict.Goals as goal

pub returns-in_err-fit : goal.returns-in_err-fit
returns-in_err-fit c =
    let p = err_from_is_err_and c.from_residual.result c.from_residual.ensures.1 in
    rw (p.1, p.2) (search (value_unfit, c.in_err-fit.was))

pub returns : goal.returns
returns c = search (value_fits, c.in_ok-fit.was)
