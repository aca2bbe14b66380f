-- What the count of a comparison says, in the words of M-103. Assumes nothing.
use Rattle.std.specs.Prelude.{ℕ, ◌+◌, ◌<◌, ◌≡◌, List, length, get_or}
use Rattle.ascii.specs.Bytes.{looked}

-- the pair at a place is equal
abbrev pub Equal : List ℕ → List ℕ → ℕ → Type 0
Equal xs ys i = get_or xs i 0 ≡ get_or ys i 0

-- the pair at the place i, from 0, is the first that differs
pub record FirstDiffers (xs ys : List ℕ) (i : ℕ) : Type 0 where
  pub within : i < length xs
  pub differs : Equal xs ys i → ⊥
  pub before : (j : ℕ) → j < i → Equal xs ys j

pub record Counted (xs ys : List ℕ) : Type 0 where
  -- "none where the lengths differ"
  pub none : (length xs ≡ length ys → ⊥) → looked xs ys ≡ 0
  -- "else those up to and including the first pair that differs"
  pub first : length xs ≡ length ys → (i : ℕ) → FirstDiffers xs ys i → looked xs ys ≡ i + 1
  -- "or all if none does"
  pub all : length xs ≡ length ys → ((i : ℕ) → i < length xs → Equal xs ys i) → looked xs ys ≡ length xs

abbrev pub PairsAreCounted : Type 0
PairsAreCounted = (xs ys : List ℕ) → Counted xs ys
