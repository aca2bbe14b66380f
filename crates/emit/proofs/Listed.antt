-- Laws of lists that are written with commas between their parts: members and items of JSON, and what is read part by part. Assumes nothing.
use Rattle.std.specs.Prelude.{Option, Some, None}
use Prim.Native.Nat.{ℕ}
use mathlib.Core.Path.{◌≡◌, refl}
use mathlib.Core.Bool.{Bool, true, false}
use mathlib.Core.List.{List, [], ◌++◌, append-nil}
use Rattle.ascii.specs.Text.{bytes}
use Rattle.ascii.specs.Bytes.{◌>>=◌}
use Rattle.json_text.specs.Json.{Json, Items, no_items, item, Members, no_members, member, quoted, compact, compact_items, more_items, compact_members, more_members}
use Rattle.emit.specs.Clauses.Emitted.{comma, told}

-- ## Members and items of JSON, with a comma before the first or not

unfoldable pub listed : Bool → Members → List ℕ
listed first no_members = []
listed first (member k v ms) = comma first ++ (quoted k ++ bytes ":" ++ compact v) ++ more_members ms

pub listed_first : (ms : Members) → listed true ms ≡ compact_members ms
unfolding listed comma compact_members
listed_first no_members = refl
listed_first (member k v ms) = refl

pub listed_more : (ms : Members) → listed false ms ≡ more_members ms
unfolding listed comma more_members bytes
listed_more no_members = refl
listed_more (member k v ms) = refl

-- a member and those after it
pub listed_member : (first : Bool) (k : List ℕ) (v : Json) (ms : Members) → listed first (member k v ms) ≡ comma first ++ compact_members (member k v no_members) ++ listed false ms
unfolding listed compact_members more_members
listed_member first k v ms = go (quoted k ++ bytes ":" ++ compact v)
  where
    go : (x : List ℕ) → comma first ++ x ++ more_members ms ≡ comma first ++ (x ++ []) ++ listed false ms
    go x = rw (append-nil x, listed_more ms)

unfoldable pub listed_items : Bool → Items → List ℕ
listed_items first no_items = []
listed_items first (item v is) = comma first ++ compact v ++ more_items is

pub items_first : (is : Items) → listed_items true is ≡ compact_items is
unfolding listed_items comma compact_items
items_first no_items = refl
items_first (item v is) = refl

pub items_more : (is : Items) → listed_items false is ≡ more_items is
unfolding listed_items comma more_items bytes
items_more no_items = refl
items_more (item v is) = refl

-- ## One part of a list and the others

-- o reads the first part and `more` the others; `others` reads the texts of these
module _ {A B : Type 0} (first : Bool) (f : A → List ℕ) (g g' : B → List ℕ) (cons : A → B → B) (same : (a : A) (b : B) → g (cons a b) ≡ comma first ++ f a ++ g' b) (more : List ℕ → Option (B × List ℕ)) (others : List ℕ → Option (List ℕ × List ℕ)) (are : (xs : List ℕ) → others xs ≡ told g' (more xs)) where
  pub list_step : (o : Option (A × List ℕ)) → (told f o >>= λ p. told (λ t. comma first ++ p.0 ++ t) (others p.1)) ≡ told g (o >>= λ a. more a.1 >>= λ b. Some (cons a.0 b.0, b.1))
  list_step None = refl
  list_step (Some a) = rw (are a.1) (go (more a.1))
    where
      go : (q : Option (B × List ℕ)) → told (λ t. comma first ++ f a.0 ++ t) (told g' q) ≡ told g (q >>= λ b. Some (cons a.0 b.0, b.1))
      go None = refl
      go (Some b) = rw (same a.0 b.0)

pub told_told : {A : Type 0} (f : List ℕ → List ℕ) (g : A → List ℕ) (o : Option (A × List ℕ)) → told f (told g o) ≡ told (λ a. f (g a)) o
told_told f g None = refl
told_told f g (Some a) = refl
