-- What a filled index is good for. Assumes nothing.
use Rattle.std.specs.Prelude.{ℕ, ◌≤◌, ◌<◌, Bool, true, List, ◌≡◌, eqb, length, get_or, Some, slice_get}
use Rattle.ascii.specs.Bytes.{count}
use Rattle.index.specs.Index.{is_used, around, place_from, filled}
use Rattle.index.specs.Search.{looked, searched}

-- Number k is met from the place p on, and every byte on the way is used.
pub record Met (p k : ℕ) (xs : List ℕ) : Type 0 where
  pub steps : ℕ
  pub within : steps < length xs
  pub there : get_or (around p xs) steps 255 ≡ k
  pub used : (i : ℕ) → i < steps → get_or (around p xs) i 255 ≡ 255 → ⊥

-- An index of accessibles that start from the places ps: each number stands there once and is met from its place on; all else is free.
pub record Good (ps xs : List ℕ) : Type 0 where
  pub size : length xs ≡ 128
  pub once : (k : ℕ) → k < length ps → count (eqb k) xs ≡ 1
  pub numbers : (i : ℕ) → (get_or xs i 255 ≡ 255 → ⊥) → get_or xs i 255 < length ps
  pub used : count is_used xs ≡ length ps
  pub met : (k : ℕ) → k < length ps → Met (get_or ps k 0) k xs

-- places of an index
abbrev pub Places : List ℕ → Type 0
Places ps = (i : ℕ) → i < length ps → get_or ps i 0 < 128

-- Up to 128 accessibles fill an index.
abbrev pub FilledIndexesAreGood : Type 0
FilledIndexesAreGood = (ps : List ℕ) → Places ps → length ps ≤ 128 → Good ps (filled ps)

-- As long as there are less, one more is put in the place of a free byte: no number is ever written over another.
abbrev pub FillingNeverOverflows : Type 0
FillingNeverOverflows = (ps : List ℕ) (p : ℕ) → Places ps → length ps < 128 → p < 128
    → get_or (filled ps) (place_from p (filled ps)) 0 ≡ 255

-- ## A search

module _ {A : Type 0} (p : A → Bool) (l : List A) where
  -- at most one of the accessibles is meant
  pub record Unique : Type 0 where
    pub one : (i j : ℕ) (x y : A) → slice_get l i ≡ Some x → slice_get l j ≡ Some y → p x ≡ true → p y ≡ true → i ≡ j

  -- The accessible k is found in the index, in at most as many steps as there are accessibles, and there is no walk.
  pub record Served (start : ℕ) (index : List ℕ) (k : ℕ × A) : Type 0 where
    pub found : (searched p start index l).found ≡ Some k
    pub unwalked : searched p start index l ≡ looked p l (around start index)
    pub few : (searched p start index l).steps ≤ length l
