-- A search with an index (request M-105), among accessibles l of which those that are sought pass a test p. Assumes nothing.
use Rattle.std.specs.Prelude.{ℕ, suc, ◌+◌, Bool, cond, List, [], ◌∷◌, Option, Some, None, slice_get}
use Rattle.ascii.specs.Bytes.{◌>>=◌, is_some}
use Rattle.index.specs.Index.{is_free, around}

-- what is found, with its number, and how many bytes or accessibles were looked at [I-6]
pub record Sought (A : Type 0) : Type 0 where
  pub found : Option (ℕ × A)
  pub steps : ℕ

module _ {A : Type 0} where
  abbrev pub nothing : Sought A
  nothing = record { found = None; steps = 0 }

  -- a search that ends with its first step
  abbrev pub ended : Option (ℕ × A) → Sought A
  ended o = record { found = o; steps = 1 }

  -- a search with n steps before it
  abbrev pub later : ℕ → Sought A → Sought A
  later n r = record { found = r.found; steps = n + r.steps }

  -- a search that ends with its first step if that finds something, and else goes on
  abbrev pub or_later : Option (ℕ × A) → Sought A → Sought A
  or_later None r = later 1 r
  or_later (Some k) r = ended (Some k)

  -- "Without a match" another search follows
  abbrev pub or_else : Sought A → Sought A → Sought A
  or_else r w = cond (is_some r.found) r (later r.steps w)

module _ {A : Type 0} (p : A → Bool) where
  -- the accessible of number b, if it is there and passes [I-5]
  unfoldable pub offered : List A → ℕ → Option (ℕ × A)
  offered l b = slice_get l b >>= λ x. cond (p x) (Some (b, x)) None

  -- "byte by byte, until the offered accessible's names match the table, a 255 is met or all 128 were seen" [I-5]
  unfoldable pub looked : List A → List ℕ → Sought A
  looked l [] = nothing
  looked l (b ∷ bs) = cond (is_free b) (ended None) (or_later (offered l b) (looked l bs))

  -- "walks the table's accessibles in order, up to the match or the end"; the first has the number n [I-5]
  unfoldable pub walked_from : ℕ → List A → Sought A
  walked_from n [] = nothing
  walked_from n (x ∷ xs) = cond (p x) (ended (Some (n, x))) (later 1 (walked_from (suc n) xs))

  unfoldable pub walked : List A → Sought A
  walked l = walked_from 0 l

  -- "A search looks from the same place": from the place `start` of an index on [I-5]
  unfoldable pub searched : ℕ → List ℕ → List A → Sought A
  searched start index l = or_else (looked l (around start index)) (walked l)
