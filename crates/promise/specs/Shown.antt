-- What the call that shows a parameter's value, or the error in its place, promises. Assumes nothing.
use Rattle.std.specs.Prelude.{ℕ, ◌+◌, ◌≤◌, false, cond, not, List, [], ◌∷◌, ◌≡◌, eqb, length, get_or, take, drop, Option, Some, None, slice_get}
use Rattle.ascii.specs.Bytes.{is_some}
use Rattle.table.specs.Layout.{table_of}
use Rattle.table.specs.Table.{Parameter}
use Rattle.table.specs.Search.{Placed, parameters}
use Rattle.report.specs.Judge.{fault, first_fault}
use Rattle.message.specs.Error.{fault_of}
use Rattle.message.specs.Reply.{held_as}
use Rattle.plain.specs.Node.{Value}
use Rattle.state.specs.declared.Settings.{Settings}
use Rattle.state.specs.declared.State.{State}
use Rattle.state.specs.View.{place_of, view}
use Rattle.promise.specs.declared.Shown.{Shown}
use Rattle.promise.specs.Clauses.Lent.{lent_number}

-- the first number: of what every call judges (no outbox, no index and no time are lent), and 14, "no such parameter number"
unfoldable pub value_number : List ℕ → List ℕ → State → ℕ → ℕ
value_number table values s p =
    first_fault (lent_number table values false [] s 0 ∷ fault 14 (not (is_some (slice_get (parameters (table_of table)) p))) ∷ [])

-- a refusal answers its number only
abbrev pub not_shown : ℕ → Shown
not_shown k = record { number = k; stored = 0; error = 0; from = 0; size = 0; time = 0 }

-- where the value that parameter p, which is x, shows lies: its initial value's part of the table, or the part of its place in the values area
-- that is stored
unfoldable pub part_of : Settings → ℕ → Parameter → Shown
part_of s p x =
    cond
    (eqb (get_or s.length p 0) 0)
    (record { number = 0; stored = 0; error = 0; from = x.place; size = length x.initial; time = get_or s.time p 0 })
    (record { number = 0; stored = 1; error = 0; from = place_of p; size = get_or s.length p 0; time = get_or s.time p 0 })

-- where parameter p can't be read: the class in the place of a part [C-9]
abbrev pub error_of : Settings → ℕ → Shown
error_of s p = record { number = 0; stored = 0; error = get_or s.error p 0; from = 0; size = 0; time = get_or s.time p 0 }

-- the error, while there is one, or else the part [C-9]
unfoldable pub shown_of : Settings → ℕ → Parameter → Shown
shown_of s p x = cond (eqb (get_or s.error p 0) 0) (part_of s p x) (error_of s p)

unfoldable pub shown_at : Settings → ℕ → Option (Placed Parameter) → Shown
shown_at s p None = not_shown 14
shown_at s p (Some x) = shown_of s p x.it

-- the answer
unfoldable pub value_shown : List ℕ → List ℕ → State → ℕ → Shown
value_shown table values s p =
    cond
    (eqb (value_number table values s p) 0)
    (shown_at s.settings p (slice_get (parameters (table_of table)) p))
    (not_shown (value_number table values s p))

-- the buffer that the answer's part lies in: the table, or the values area where the value is a stored one
unfoldable pub held_in : List ℕ → List ℕ → Shown → List ℕ
held_in table values r = cond (eqb r.stored 0) table values

-- what parameter p holds
abbrev pub value_of : List ℕ → List ℕ → State → ℕ → Value
value_of table values s p = (view table s values).values p

-- "the value shown is then the part of the table ..": asked for parameter p, the call answers r, and what lies there is the value that the plain
-- node holds, unless it holds the error that r has; it writes nothing
pub record Shows (table values : List ℕ) (s : State) (p : ℕ) (r : Shown) : Type 0 where
  pub is : r ≡ value_shown table values s p
  pub within : r.number ≡ 0 → r.from + r.size ≤ length (held_in table values r)
  pub held : r.number ≡ 0 → held_as (fault_of r.error) (take r.size (drop r.from (held_in table values r))) ≡ (value_of table values s p).held
  pub time : r.number ≡ 0 → r.time ≡ (value_of table values s p).time
