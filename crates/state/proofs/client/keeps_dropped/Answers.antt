-- `state::client::keeps_dropped` meets its contract. Assumes nothing.
use Rattle.state.proofs.Judged.{nothing_dropped, keeps_dropped}
use Rattle.state.proofs.client.keeps_dropped.Goals as goal

pub returns-then-overlong-c-ne0 : goal.returns-then-overlong-c-ne0
returns-then-overlong-c-ne0 c = search keeps_dropped

pub returns-else-overlong-c-ne0 : goal.returns-else-overlong-c-ne0
returns-else-overlong-c-ne0 c = rw c.if-overlong-c-ne0.false (search nothing_dropped)
