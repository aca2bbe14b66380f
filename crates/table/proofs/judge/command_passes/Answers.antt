-- `table::judge::command_passes` meets its contract. Assumes nothing.
use Rattle.table.proofs.Tests.{argument_readable, command_not, command_with, command_without}
use borrow.Author.Tests.{not-false}
use Rattle.table.proofs.judge.command_passes.Goals as goal

pub info_passes-requires : goal.info_passes-requires
info_passes-requires c = search (argument_readable, not-false c.args.q.argument c.if-not-q.false)

pub returns-then-not-q : goal.returns-then-not-q
returns-then-not-q c = λ a x e. search command_without

pub returns-else-not-q : goal.returns-else-not-q
returns-else-not-q c = λ a x e. search command_with

pub returns-else-text_passes : goal.returns-else-text_passes
returns-else-text_passes c = λ a x e. search command_not
