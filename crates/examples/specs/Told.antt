-- A history with the answers that are due. Assumes nothing.
use Rattle.std.specs.Prelude.{ℕ, List, map, ◌≡◌}
use Rattle.plain.specs.Calls.{Call, start_number, started}
use Rattle.plain.specs.History.{Heard, heard, answers}

-- a start and the calls after it, with what is due
pub record History : Type 0 where
  pub table : List ℕ
  pub area : ℕ
  pub time : ℕ
  pub start : ℕ
  pub calls : List Call
  pub due : List Heard

-- what the plain node answers to a history's start, and what is heard of its calls
unfoldable pub start_of : History → ℕ
start_of h = start_number h.table h.area h.time

unfoldable pub heard_of : History → List Heard
heard_of h = map heard (answers h.table (started h.table h.area h.time) h.calls)

-- that is what is due, of all these histories
pub record AllAsDue (hs : List History) : Type 0 where
  pub starts : map start_of hs ≡ map (λ (h : History). h.start) hs
  pub calls : map heard_of hs ≡ map (λ (h : History). h.due) hs
