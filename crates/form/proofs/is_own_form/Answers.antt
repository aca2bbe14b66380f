-- `form::is_own_form` meets its contract: what is written into 256 bytes is compared. Assumes nothing.
use Rattle.form.proofs.Texts.{own_told}
use borrow.Author.Rules.{rules}
use Rattle.form.proofs.is_own_form.Goals as goal

pub returns : goal.returns
returns c = search (own_told, rules)
