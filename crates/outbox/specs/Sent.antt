-- How many errors are replied and updates sent to a client (M-108). Assumes nothing.
use Rattle.std.specs.Prelude.{ℕ, ◌+◌, cond, ◌&&◌, List, [], ◌∷◌, eqb}
use Rattle.message.specs.Reply.{is_error}
use Rattle.outbox.specs.Outbox.{Record, final, update, order_change, order_command}

-- whether a record is one of the "errors replied" to client d: 1 or 0 [L-29]
unfoldable pub error_to : ℕ → Record → ℕ
error_to d (final c r) = cond (eqb c d && is_error r) 1 0
error_to d (update c r) = 0
error_to d (order_change c p v) = 0
error_to d (order_command c p v) = 0

-- whether it is one of the "updates sent (`error_update` included)" [L-29]
unfoldable pub update_to : ℕ → Record → ℕ
update_to d (final c r) = 0
update_to d (update c r) = cond (eqb c d) 1 0
update_to d (order_change c p v) = 0
update_to d (order_command c p v) = 0

-- how many errors are replied to client d among records [L-29]
unfoldable pub errors_sent : ℕ → List Record → ℕ
errors_sent d [] = 0
errors_sent d (r ∷ rs) = error_to d r + errors_sent d rs

-- and how many updates are sent to it [L-29]
unfoldable pub updates_sent : ℕ → List Record → ℕ
updates_sent d [] = 0
updates_sent d (r ∷ rs) = update_to d r + updates_sent d rs
