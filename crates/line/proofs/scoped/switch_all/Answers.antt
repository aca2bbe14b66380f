-- `line::scoped::switch_all` meets its contract. Assumes nothing.
use Rattle.line.proofs.scoped.switch_all.Goals as goal

pub returns-in-On : goal.returns-in-On
returns-in-On c = λ t. rw c.in-On.is (c.activate_all.ensures t)

pub returns-in-Off : goal.returns-in-Off
returns-in-Off c = λ t. rw c.in-Off.is (c.deactivate_all.ensures c.args.table.now t _ _)
