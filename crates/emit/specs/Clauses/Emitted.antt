-- What the code that writes a text piece by piece does: each piece is written where the lent buffer has room for it, and counted
-- where not. Assumes nothing.
use Rattle.std.specs.Prelude.{ℕ, ◌+◌, ◌-◌, ◌≤◌, ◌≡◌, Bool, cond, List, [], length, Option, Some, None}
use Rattle.ascii.specs.Text.{bytes}
use Rattle.ascii.specs.Clauses.Writer.{Puts}

-- n, or the largest position, 2^64 - 1, where n is above it
abbrev pub capped : ℕ → ℕ
capped n = n - (n - 18446744073709551615)

-- the buffer held `before` and holds `after`: a text was written at a position, if it has room, and `end` is the position after the text
-- in any case; what a buffer without room for the text holds is left free
pub record Emits (before : List ℕ) (at : ℕ) (text : List ℕ) (after : List ℕ) (end : ℕ) : Type 0 where
  pub ends : end ≡ capped (at + length text)
  pub size : length after ≡ length before
  pub puts : at + length text ≤ length before → Puts before at text after end

-- the text of what was read, with what is left
abbrev pub told : {A : Type 0} → (A → List ℕ) → Option (A × List ℕ) → Option (List ℕ × List ℕ)
told f None = None
told f (Some p) = Some (f p.0, p.1)

-- the text that o has was written; where o is none, nothing is said
pub record Says (o : Option (List ℕ × List ℕ)) (before : List ℕ) (at : ℕ) (after : List ℕ) (end : ℕ) : Type 0 where
  pub is : {text left : List ℕ} → o ≡ Some (text, left) → Emits before at text after end

-- what stands before a member or an item
unfoldable pub comma : Bool → List ℕ
comma first = cond first [] (bytes ",")
