-- What the code that reads a number answers: the number with a position in the slice, which stands for the bytes from there on.
-- Assumes nothing.
use Rattle.std.specs.Prelude.{ℕ, ◌+◌, ◌-◌, ◌*◌, ◌^◌, ◌≤◌, ◌≡◌, List, length, drop, Option, Some, None}

-- h is half of the range of k bytes, from which on a signed number is negative
pub record Half (k h : ℕ) : Type 0 where
  pub is : h ≡ 2 ^ (8 * k - 1)
  pub twice : 2 ^ (8 * k) ≡ h + h
  pub low : (1 ≤ h) × (h ≤ 2 ^ 63)

-- the answer of a reader of s that reads o: `Some (v, p)` where it reads v and leaves the bytes from p on, `None` where it reads nothing
abbrev pub ReadsValue : {A : Type 0} → List ℕ → Option (A × ℕ) → Option (A × List ℕ) → Type 0
ReadsValue s (Some (v, p)) o = (o ≡ Some (v, drop p s)) × (p ≤ length s)
ReadsValue s None o = o ≡ None
