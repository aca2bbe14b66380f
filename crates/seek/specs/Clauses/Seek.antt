-- What the code that seeks an accessible answers. Assumes nothing.
use Rattle.std.specs.Prelude.{ℕ, ◌-◌, ◌<◌, ◌≡◌, List, Option, Some, None}
use Rattle.table.specs.Table.{Accessible}
use Rattle.table.specs.Search.{Placed}
use Rattle.table.specs.declared.layout.Accessible as O
use Rattle.search.specs.declared.locate.Located as L
use Rattle.search.specs.Clauses.Left.{placed}
use Rattle.index.specs.Search as Index
use Rattle.seek.specs.declared.walk.Walk.{Walk}
use Rattle.seek.specs.declared.look.Sought.{Sought}
use Rattle.seek.specs.Clauses.Walk.{There}

-- o is the accessible of which a has the positions, with its number
pub record FoundIs (s : List ℕ) (a : O.Accessible) (v : Walk) (o : Option (ℕ × Placed Accessible)) : Type 0 where
  pub number : ℕ
  pub there : There s number a v
  pub is : o ≡ Some (number, placed s v.cursor there.it)

-- what is found is o
abbrev pub Finds : List ℕ → Option (O.Accessible × Walk) → Option (ℕ × Placed Accessible) → Type 0
Finds s (Some (a, v)) o = FoundIs s a v o
Finds s None o = o ≡ None

-- what is found and the steps are those of the search o
pub record Answers (s : List ℕ) (r : Sought) (o : Index.Sought (Placed Accessible)) : Type 0 where
  pub finds : Finds s r.found o.found
  pub steps : r.steps ≡ o.steps

-- ## What is located

-- there is one of its kind, and its module
abbrev pub Counted : Option (O.Accessible × Walk) → Type 0
Counted (Some ((O.TheVariants.Parameter q), v)) = (0 < v.cursor.modules) × (0 < v.parameters)
Counted (Some ((O.TheVariants.Command q), v)) = (0 < v.cursor.modules) × (0 < v.commands)
Counted None = Unit {0}

-- what is found, with its number among its kind and its module's number
abbrev pub located_as : Option (O.Accessible × Walk) → L.Located
located_as (Some ((O.TheVariants.Parameter q), v)) = L.TheVariants.Parameter (v.parameters - 1) (v.cursor.modules - 1) q
located_as (Some ((O.TheVariants.Command q), v)) = L.TheVariants.Command (v.commands - 1) (v.cursor.modules - 1) q
located_as None = L.TheVariants.Nothing
