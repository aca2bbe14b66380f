-- The accessibles of a table: parameters and commands together, by number and by name. Assumes nothing.
use Rattle.std.specs.Prelude.{ℕ, Bool, cond, ◌&&◌, List, map, ltb, length, take, Option, Some, None}
use Rattle.ascii.specs.Bytes.{same, is_some}
use Rattle.hash.specs.Hash.{start_place}
use Rattle.table.specs.Table.{Parameter, Command, Accessible, parameter, command, Table}
use Rattle.table.specs.Rules.{accessible_name}
use Rattle.table.specs.Search.{Placed, placed_from, first, find_module}
use Rattle.index.specs.Index.{filled}
use Rattle.index.specs.Search.{Sought, walked, searched}

-- "from 0 over parameters and commands together": the number of one is its place in the list [I-2]
unfoldable pub accessibles : Table → List (Placed Accessible)
accessibles t = placed_from (λ xs. xs) 0 t.modules

-- whether an accessible has both names
abbrev pub is_named : List ℕ → List ℕ → Placed Accessible → Bool
is_named m a x = same m x.module_name && same a (accessible_name x.it)

unfoldable pub find_accessible : Table → List ℕ → List ℕ → Option (ℕ × Placed Accessible)
find_accessible t m a = first (is_named m a) (accessibles t)

-- where the place of an accessible in an index starts [I-3]
abbrev pub start_of : Placed Accessible → ℕ
start_of x = start_place x.module_name (accessible_name x.it)

-- "128 bytes of index, filled once from it": the index of a table [I-4]
unfoldable pub index_of : Table → List ℕ
index_of t = filled (map start_of (accessibles t))

-- The accessible of two names, sought with what is lent: the first 128 bytes of it are the index. Where it has fewer there is none, and the search is
-- the walk alone. [I-1, I-5]
unfoldable pub sought : Table → List ℕ → List ℕ → List ℕ → Sought (Placed Accessible)
sought t lent m a =
    cond (ltb (length lent) 128) (walked (is_named m a) (accessibles t))
    (searched (is_named m a) (start_place m a) (take 128 lent) (accessibles t))

-- "0 where no accessible is sought (only a line's `M:P` or `M:C`, its module found)" [I-6]
unfoldable pub seek_steps : Table → List ℕ → List ℕ → List ℕ → ℕ
seek_steps t lent m a = cond (is_some (find_module t m)) (sought t lent m a).steps 0

-- an accessible, as a parameter and as a command
unfoldable pub parameter_in : Accessible → Option Parameter
parameter_in (parameter p) = Some p
parameter_in (command c) = None

unfoldable pub command_in : Accessible → Option Command
command_in (parameter p) = None
command_in (command c) = Some c

-- the same of one with its module
module _ {A : Type 0} (one : Accessible → Option A) where
  abbrev pub placed_as : Placed Accessible → Option A → Option (Placed A)
  placed_as x None = None
  placed_as x (Some y) = Some (record { home = x.home; module_name = x.module_name; it = y })

  abbrev pub placed_one : Placed Accessible → Option (Placed A)
  placed_one x = placed_as x (one x.it)
