-- What the code that answers is given: a table that is accepted, a state that is fit for it, and buffers that are large enough, as a call
-- has just judged them. Assumes nothing.
use Rattle.std.specs.Prelude.{ℕ, ◌≤◌, ◌<◌, true, false, List, ◌≡◌, length}
use Rattle.table.specs.Layout.{table_of}
use Rattle.report.specs.Judge.{table_number}
use Rattle.state.specs.declared.State.{State}
use Rattle.state.specs.View.{is_set}
use Rattle.state.specs.Fit.{is_unfit}

-- an accepted table, and an outbox for client c
pub record Lent (table out : List ℕ) (c : ℕ) : Type 0 where
  pub accepted : table_number table ≡ 0
  pub room : 32768 ≤ length out
  pub low : c < 8

-- the same, with a values area and a state of which client c is open
pub record Ready (table : List ℕ) (s : State) (values out : List ℕ) (c : ℕ) : Type 0 where
  pub lent : Lent table out c
  pub area : 16384 ≤ length values
  pub fit : is_unfit (table_of table) s values ≡ false
  pub is_open : is_set s.clients.open c ≡ true
