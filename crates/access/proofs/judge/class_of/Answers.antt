-- `access::judge::class_of` meets its contract.
use mathlib.Core.Path.{refl}
use Rattle.plain.specs.Answer.{let_in}
use Rattle.access.proofs.judge.class_of.Goals as goal

pub returns-in-RangeError : goal.returns-in-RangeError
unfolding let_in
returns-in-RangeError c = λ o. rw c.in-RangeError.is refl

pub returns-in-WrongType : goal.returns-in-WrongType
unfolding let_in
returns-in-WrongType c = λ o. rw c.in-WrongType.is refl

pub returns-in-BadJson : goal.returns-in-BadJson
unfolding let_in
returns-in-BadJson c = λ o. rw c.in-BadJson.is refl
