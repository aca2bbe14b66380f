-- What the values that the comparison computes with stand for. Assumes nothing.
use Rattle.std.specs.Prelude.{ℕ, ◌+◌, ◌*◌, ◌^◌, ◌<◌, ◌≡◌, Bool, true, false, cond, List, ℤ, pos, neg_ℤ, ◌-ℤ◌, leb, Option, Some, None}
use Rattle.decimal.specs.Decimal.{Decimal, exactly, is_within_limits, between}
use Rattle.decimal.specs.declared.compare.Natural.{Natural}
use Rattle.decimal.specs.declared.compare.Exact.{Exact}

-- the number of two halves, the lower of 16 digits
abbrev pub value : Natural → ℕ
value n = n.high * 10 ^ 16 + n.low

-- n, or -n
abbrev pub signed : Bool → ℕ → ℤ
signed negative n = cond negative (neg_ℤ (pos n)) (pos n)

-- m × 10 ^ p
abbrev pub decimal : ℤ → ℤ → Decimal
decimal m p = record { whole = m; power = p }

abbrev pub decimal_of : Exact → Decimal
decimal_of x = decimal (signed x.negative (value x.size)) (pos x.power -ℤ pos 130)

-- r is the number n, in two proper halves
pub record Holds (r : Natural) (n : ℕ) : Type 0 where
  pub is : value r ≡ n
  pub low : r.low < 10 ^ 16

-- two proper halves, with room for a digit more
pub record Room (r : Natural) : Type 0 where
  pub low : r.low < 10 ^ 16
  pub high : r.high < 10 ^ 18

-- r compares with b as n does
pub record Compares (b r : Natural) (n : ℕ) : Type 0 where
  pub low : r.low < 10 ^ 16
  pub below : leb (value r) (value b) ≡ leb n (value b)
  pub above : leb (value b) (value r) ≡ leb (value b) n

-- x is the decimal d
pub record Is (x : Exact) (d : Decimal) : Type 0 where
  pub is : decimal_of x ≡ d
  pub room : Room x.size

-- v is what was read of the token t
abbrev pub ValueOf : List ℕ → Option Exact → Type 0
ValueOf t (Some x) = (is_within_limits t ≡ true) × Is x (exactly t)
ValueOf t None = is_within_limits t ≡ false

-- with room for a digit more
abbrev pub Roomy : Option Exact → Type 0
Roomy (Some x) = Room x.size
Roomy None = Unit

-- from lo to hi; what is beyond a token's own limits is nowhere
unfoldable pub lies_between : Decimal → Decimal → Option Exact → Bool
lies_between lo hi (Some x) = between lo hi (decimal_of x)
lies_between lo hi None = false
