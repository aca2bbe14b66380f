-- What the code that searches a table answers: numbers and positions. Assumes nothing.
use Rattle.std.specs.Prelude.{ℕ, ◌+◌, ◌-◌, ◌≤◌, ◌<◌, ◌≡◌, Bool, true, List, [], length, drop, Option, Some, None, slice_get}
use Rattle.ascii.specs.Text.{bytes}
use Rattle.ascii.specs.Bytes.{same, after, is_some}
use Rattle.table.specs.Table.{Module}
use Rattle.table.specs.Layout.{table_of}
use Rattle.table.specs.Search.{first, parameters_of, commands_of, parameters, commands, find_module, find_parameter, find_command}
use Rattle.table.specs.Clauses.At.{parameter_of, command_of, modules_from}
use Rattle.table.specs.declared.layout.ParameterAt.{ParameterAt}
use Rattle.table.specs.declared.layout.CommandAt.{CommandAt}
use Rattle.search.specs.declared.cursor.Cursor.{Cursor}
use Rattle.search.specs.declared.locate.Located as L
use Rattle.search.specs.Clauses.Left.{placed, left_from, Fits, HomeIs, OnWay, ParameterIn, CommandIn}

-- whether a module has a name
abbrev pub is_called : List ℕ → Module → Bool
is_called name m = same name m.name

-- of the modules ms, which are followed by the bytes `left`, the first of a name has the number n, and its record begins at position i: from
-- there on the modules from number n on are read
pub record FirstModule (s name : List ℕ) (n i : ℕ) (ms : List Module) (left : List ℕ) : Type 0 where
  pub it : Module
  pub is : first (is_called name) ms ≡ Some (n, it)
  pub reads : modules_from s i ≡ Some (drop n ms, left)
  pub within : i ≤ length s

abbrev pub FindsFirst : List ℕ → List ℕ → Option (ℕ × ℕ) → List Module → List ℕ → Type 0
FindsFirst s name (Some (n, i)) ms left = FirstModule s name n i ms left
FindsFirst s name None ms left = first (is_called name) ms ≡ None

-- the module of a name has the number n, and its record begins at position i: from there on the modules from number n on are read, and the
-- end mark is left
pub record ModuleFound (s name : List ℕ) (n i : ℕ) : Type 0 where
  pub it : Module
  pub is : find_module (table_of s) name ≡ Some (n, it)
  pub left : List ℕ
  pub reads : modules_from s i ≡ Some (drop n (table_of s).modules, left)
  pub end : after (bytes "EN") left ≡ Some []
  pub within : i ≤ length s

abbrev pub FindsModule : List ℕ → List ℕ → Option (ℕ × ℕ) → Type 0
FindsModule s name (Some (n, i)) = ModuleFound s name n i
FindsModule s name None = find_module (table_of s) name ≡ None

-- the parameter a of the module m has the number k, its module has the number h, and q has its positions
pub record ParameterFound (s m a : List ℕ) (k h : ℕ) (q : ParameterAt) : Type 0 where
  pub held : ParameterIn s q
  pub is : find_parameter (table_of s) m a ≡ Some (k, record { home = h; module_name = m; it = parameter_of s q held.datainfo })

abbrev pub FindsParameter : List ℕ → List ℕ → List ℕ → Option (ℕ × ℕ × ParameterAt) → Type 0
FindsParameter s m a (Some (k, h, q)) = ParameterFound s m a k h q
FindsParameter s m a None = find_parameter (table_of s) m a ≡ None

-- the command a of the module m has the number k, its module has the number h, and q has its positions; the walk over the table comes to
-- `next` after it, in that module, where those commands are left that come after it in the table
pub record CommandFound (s m a : List ℕ) (k h : ℕ) (q : CommandAt) : Type 0 where
  pub held : CommandIn s q
  pub is : find_command (table_of s) m a ≡ Some (k, record { home = h; module_name = m; it = command_of s q held.argument })
  pub next : Cursor
  pub way : OnWay s next
  pub at : next.at ≡ q.next
  pub home : next.modules ≡ h + 1
  pub left : left_from commands_of s next ≡ Some (drop (k + 1) (commands (table_of s)))

abbrev pub FindsCommand : List ℕ → List ℕ → List ℕ → Option (ℕ × ℕ × CommandAt) → Type 0
FindsCommand s m a (Some (k, h, q)) = CommandFound s m a k h q
FindsCommand s m a None = find_command (table_of s) m a ≡ None

-- In the module of the name m, which is there, both kinds of accessibles of the name a: there is a parameter, a command, or neither.
module _ (s m a : List ℕ) where
  pub record ParameterLocated (k h : ℕ) (q : ParameterAt) : Type 0 where
    pub home : is_some (find_module (table_of s) m) ≡ true
    pub parameter : ParameterFound s m a k h q
    pub command : find_command (table_of s) m a ≡ None

  pub record CommandLocated (k h : ℕ) (q : CommandAt) : Type 0 where
    pub home : is_some (find_module (table_of s) m) ≡ true
    pub parameter : find_parameter (table_of s) m a ≡ None
    pub command : CommandFound s m a k h q

  pub record NothingLocated : Type 0 where
    pub home : is_some (find_module (table_of s) m) ≡ true
    pub parameter : find_parameter (table_of s) m a ≡ None
    pub command : find_command (table_of s) m a ≡ None

  abbrev pub Locates : L.Located → Type 0
  Locates L.TheVariants.NoModule = find_module (table_of s) m ≡ None
  Locates L.TheVariants.Nothing = NothingLocated
  Locates (L.TheVariants.Parameter k h q) = ParameterLocated k h q
  Locates (L.TheVariants.Command k h q) = CommandLocated k h q

-- the parameter of the number k, of which q has the positions, and e is the cursor after it
pub record ParameterNumbered (s : List ℕ) (k : ℕ) (q : ParameterAt) (e : Cursor) : Type 0 where
  pub fits : Fits s e
  pub begun : 0 < e.modules
  pub home : HomeIs s (e.modules - 1) e.name
  pub next : e.at ≡ q.next
  pub held : ParameterIn s q
  pub is : slice_get (parameters (table_of s)) k ≡ Some (placed s e (parameter_of s q held.datainfo))
  pub left : left_from parameters_of s e ≡ Some (drop (k + 1) (parameters (table_of s)))

abbrev pub NumberedParameter : List ℕ → ℕ → Option (ParameterAt × Cursor) → Type 0
NumberedParameter s k (Some (q, e)) = ParameterNumbered s k q e
NumberedParameter s k None = slice_get (parameters (table_of s)) k ≡ None
