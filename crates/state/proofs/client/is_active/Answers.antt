-- `state::client::is_active` meets its contract. Assumes nothing.
use Rattle.state.proofs.Judged.{closed_inactive, open_active}
use Rattle.state.proofs.client.is_active.Goals as goal

pub returns-then-open-c-ne0 : goal.returns-then-open-c-ne0
returns-then-open-c-ne0 c = search open_active

pub returns-else-open-c-ne0 : goal.returns-else-open-c-ne0
returns-else-open-c-ne0 c = rw c.if-open-c-ne0.false (search closed_inactive)
