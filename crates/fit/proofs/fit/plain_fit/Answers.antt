-- `fit::fit::plain_fit` meets its contract: each type by its own function. Assumes nothing.
use Rattle.fit.proofs.Figures.{plain_bool, plain_enum, plain_string, plain_blob, plain_number}
use Rattle.fit.proofs.fit.plain_fit.Goals as goal

pub returns-then-k-eq3 : goal.returns-then-k-eq3
returns-then-k-eq3 c = λ d. plain_bool _ _ _ _ c.if-k-eq3.true (c.bool_fit.ensures d)

pub returns-then-k-eq4 : goal.returns-then-k-eq4
returns-then-k-eq4 c = λ d. plain_enum _ _ _ _ c.if-k-eq4.true (c.choice_fit.ensures d)

pub returns-then-k-eq5 : goal.returns-then-k-eq5
returns-then-k-eq5 c = λ d. plain_string _ _ _ _ c.if-k-eq5.true (c.string_fit.ensures d)

pub returns-then-k-eq10 : goal.returns-then-k-eq10
returns-then-k-eq10 c = λ d. plain_blob _ _ _ _ c.if-k-eq10.true (c.blob_fit.ensures d)

pub returns : goal.returns
returns c = λ d. plain_number _ _ _ _ c.if-k-eq3.false c.if-k-eq4.false c.if-k-eq5.false c.if-k-eq10.false (c.number_fit.ensures d)
