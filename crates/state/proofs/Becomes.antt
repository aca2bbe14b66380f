-- What a change of one client means for the plain node's clients and for fitness. Assumes nothing.
use Prim.Native.Nat.{ℕ, ◌≤◌}
use mathlib.Core.Path.{◌≡◌}
use mathlib.Core.Bool.{true, false}
use mathlib.Core.List.{List}
use lib.Dec.{eqb}
use lib.ListN.{length, get_or}
use denote.Shadow.{shadow}
use mir.Val.{Val}
use Rattle.ascii.specs.Bytes.{any}
use Rattle.plain.specs.Node.{Client, put}
use Rattle.state.specs.declared.Brief.{Brief}
use Rattle.state.specs.declared.Clients.{Clients}
use Rattle.state.specs.Clauses.Bare.{with_lines}
use Rattle.state.specs.contracts.Brief as Briefs
use Rattle.state.specs.View.{is_set, client_at}
use Rattle.state.specs.Fit.{client_unfit, past_last}
use Rattle.state.specs.contracts.Clients.{the_type, the_field}

-- of the clients s, client c becomes x and no other is changed. The others stay as fit for a table of m modules as they were, and c stays
-- fit under a condition
pub record Becomes (s : Clients) (c : ℕ) (x : Client) (condition : ℕ → Type 0) (r : Clients) : Type 0 where
  pub is : (d : ℕ) → client_at r d ≡ put (client_at s) c x d
  pub others : (m d : ℕ) → eqb d c ≡ false → client_unfit m r d ≡ client_unfit m s d
  pub own : (m : ℕ) → client_unfit m s c ≡ false → condition m → client_unfit m r c ≡ false

-- no condition
abbrev pub Always : ℕ → Type 0
Always m = Unit

-- client c is open, and the bytes have no line feed
pub record Joinable (s : Clients) (c : ℕ) (bytes : List ℕ) (m : ℕ) : Type 0 where
  pub is_open : is_set s.open c ≡ true
  pub no_feed : any (λ b. eqb b 10) bytes ≡ false

-- client c is open, and no module past the last is in the mask
pub record Activatable (s : Clients) (c mask m : ℕ) : Type 0 where
  pub is_open : is_set s.open c ≡ true
  pub within : past_last mask m ≡ false

-- how many elements the arrays have, but for the lines
pub record Sized (s : Clients) : Type 0 where
  pub is_open : length s.open ≡ 8
  pub is_overlong : length s.overlong ≡ 8
  pub mask : length s.active ≡ 8
  pub size : length s.length ≡ 8

-- as the fields of a struct are handed to a proof
pub clients_sized : (s : Clients) {v : List Val} → shadow (the_field.row.own_val (the_type.to s) v) → Sized s
clients_sized s g =
    let fs = g.1.1 in
    record {
      is_open = fs.0.1.0.1;
      is_overlong = fs.1.0.1.0.1;
      mask = fs.1.1.0.1.0.1;
      size = fs.1.1.1.0.1.0.1;
    }

-- the lines
pub lines_sized : (s : Clients) {v : List Val} → shadow (the_field.row.own_val (the_type.to s) v) → length s.lines ≡ 8192
lines_sized s g = g.1.1.1.1.1.1.0.1.0.1

-- of clients without their lines, whatever lines they are given
pub brief_sized : (s : Brief) {v : List Val} → shadow ((Briefs.the_field).row.own_val ((Briefs.the_type).to s) v) → (lines : List ℕ) → Sized (with_lines s lines)
brief_sized s g lines =
    let fs = g.1.1 in
    record {
      is_open = fs.0.1.0.1;
      is_overlong = fs.1.0.1.0.1;
      mask = fs.1.1.0.1.0.1;
      size = fs.1.1.1.0.1.0.1;
    }

-- no line reaches into the next client's place
abbrev pub LinesFit : Clients → Type 0
LinesFit s = (d : ℕ) → get_or s.length d 0 ≤ 1024
