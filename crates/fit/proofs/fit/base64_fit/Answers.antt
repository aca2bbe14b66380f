-- `fit::fit::base64_fit` meets its contract: no base64 is WrongType, else the size is judged. Assumes nothing.
use Rattle.std.proofs.lemmas.Result.{err_from_is_err_and}
use Rattle.fit.proofs.Asked.{was_none, was_some, was_wrong}
use Rattle.fit.proofs.Plain.{blob_bad, blob_sized}
use Rattle.fit.proofs.fit.base64_fit.Goals as goal

pub returns-in_err-n : goal.returns-in_err-n
returns-in_err-n c = let p = err_from_is_err_and c.from_residual.result c.from_residual.ensures.1 in rw (p.1, p.2, was_wrong _ c.ok_or.ensures.value c.in_err-n.was) (search (blob_bad, was_none c.ok_or.ensures.value c.in_err-n.was))

pub returns : goal.returns
returns c = search (blob_sized, was_some c.ok_or.ensures.value c.in_ok-n.was)
