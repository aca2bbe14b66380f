-- A reader after another, and what readers leave. Assumes nothing.
use Rattle.std.specs.Prelude.{Option, Some, None}
use Prim.Native.Nat.{ℕ}
use mathlib.Core.Bool.{Bool, true, false, cond}
use mathlib.Core.List.{List}
use mathlib.Core.Path.{◌≡◌, refl}
use Rattle.ascii.specs.Bytes.{◌>>=◌}
use Rattle.ascii.specs.Clauses.Reader.{rest}

module _ {A B : Type 0} where
  -- two that agree on what the first gives
  pub then_same : (o : Option A) (f g : A → Option B) → ((a : A) → o ≡ Some a → f a ≡ g a) → (o >>= f) ≡ (o >>= g)
  then_same None f g h = refl
  then_same (Some a) f g h = h a refl

module _ {A B C : Type 0} where
  pub then_then : (o : Option A) (f : A → Option B) (g : B → Option C) → ((o >>= f) >>= g) ≡ (o >>= λ a. f a >>= g)
  then_then None f g = refl
  then_then (Some a) f g = refl

pub then_some : {A : Type 0} (o : Option A) → (o >>= Some) ≡ o
then_some None = refl
then_some (Some a) = refl

-- ## What is left

-- something that is seen of a reader's answer, nothing where it reads nothing: what is left, or what a test says of what was read
module _ {A B D : Type 0} (see : Option B → Option D) (z : see None ≡ None) where
  pub seen_then : (o : Option (A × List ℕ)) (f : A × List ℕ → Option B) (g : List ℕ → Option D) → ((p : A × List ℕ) → see (f p) ≡ g p.1) → see (o >>= f) ≡ (rest o >>= g)
  seen_then None f g h = z
  seen_then (Some p) f g h = h p

module _ {A : Type 0} where
  pub rest_cond : (b : Bool) (x y : Option (A × List ℕ)) → rest (cond b x y) ≡ cond b (rest x) (rest y)
  rest_cond true x y = refl
  rest_cond false x y = refl

module _ {A B : Type 0} where
  -- what is read is kept in another value, and what is left goes on
  pub rest_then : (o : Option (A × List ℕ)) (f : A × List ℕ → Option (B × List ℕ)) (g : List ℕ → Option (List ℕ)) → ((p : A × List ℕ) → rest (f p) ≡ g p.1) → rest (o >>= f) ≡ (rest o >>= g)
  rest_then o f g h = seen_then rest refl o f g h

  pub rest_map : (o : Option (A × List ℕ)) (f : A × List ℕ → B) → rest (o >>= λ p. Some (f p, p.1)) ≡ rest o
  rest_map None f = refl
  rest_map (Some p) f = refl
