-- What the code that counts records reads off an outbox. Assumes nothing.
use Rattle.std.specs.Prelude.{ℕ, ◌+◌, ◌*◌, Bool, cond, ◌&&◌, List, ◌++◌, ◌≡◌, eqb, length, drop}
use Rattle.ascii.specs.Text.{bytes}
use Rattle.ascii.specs.Bytes.{head}
use Rattle.message.specs.Reply.{begins}
use Rattle.outbox.specs.Outbox.{Record, encode_all}
use Rattle.outbox.specs.Sent.{errors_sent, updates_sent}
use Rattle.outbox.specs.declared.tally.Tally.{Tally}

-- ## The record at a position

-- the length of its body
unfoldable pub size_at : List ℕ → ℕ → ℕ
size_at out at = 256 * head (drop (at + 3) out) + head (drop (at + 4) out)

-- whether its mark begins with the byte m, and it is to client d
unfoldable pub is_to : List ℕ → ℕ → ℕ → ℕ → Bool
is_to out at m d = eqb (head (drop at out)) m && eqb (head (drop (at + 2) out)) d

-- `RP` (82) alone begins so, and `UP` (85)
unfoldable pub error_at : List ℕ → ℕ → ℕ → ℕ
error_at out at d = cond (is_to out at 82 d && begins (bytes "error_") (drop (at + 5) out)) 1 0

unfoldable pub update_at : List ℕ → ℕ → ℕ → ℕ
update_at out at d = cond (is_to out at 85 d) 1 0

-- ## All records

-- an outbox begins with these records, which take so many bytes
pub record Holds (out : List ℕ) (written : ℕ) (rs : List Record) : Type 0 where
  pub rest : List ℕ
  pub is : out ≡ encode_all rs ++ rest
  pub ends : written ≡ length (encode_all rs)

-- what is counted of them for client d
abbrev pub tally_of : ℕ → List Record → Tally
tally_of d rs = record { errors = errors_sent d rs; updates = updates_sent d rs }
