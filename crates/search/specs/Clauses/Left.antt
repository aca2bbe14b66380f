-- What is left of a table's accessibles at a cursor, and what the code that walks over them answers. Assumes nothing.
use Rattle.std.specs.Prelude.{ℕ, ◌-◌, ◌≤◌, ◌<◌, ◌≡◌, Bool, false, cond, List, [], ◌∷◌, ◌++◌, map, eqb, length, drop, Option, Some, None}
use Rattle.ascii.specs.Text.{bytes}
use Rattle.ascii.specs.Bytes.{◌>>=◌, after}
use Rattle.ascii.specs.Numbers.{unsigned}
use Rattle.datainfo.specs.Datainfo.{Datainfo}
use Rattle.datainfo.specs.Layout.{datainfo_at}
use Rattle.table.specs.Table as Table
use Rattle.table.specs.Layout.{flag, argument_at, modules_at, head_at, table_of}
use Rattle.table.specs.Search.{Placed, placed_from, parameters_of, commands_of, parameters, commands}
use Rattle.table.specs.Clauses.At.{bytes_of, Inside, accessible_begins, accessibles_from, parameter_of, command_of, heading_at, ModuleIs, modules_from}
use Rattle.table.specs.declared.layout.Part.{Part}
use Rattle.table.specs.declared.layout.ModuleAt.{ModuleAt}
use Rattle.table.specs.declared.layout.ParameterAt.{ParameterAt}
use Rattle.table.specs.declared.layout.CommandAt.{CommandAt}
use Rattle.search.specs.declared.cursor.Cursor.{Cursor}
use Rattle.search.specs.declared.cursor.Record as R
use Rattle.table.specs.declared.layout.Accessible as O
use Rattle.table.specs.declared.layout.Accessible.{Accessible}

-- ## What is left

-- whether an accessible of the latest module is next; before the first module there is none
unfoldable pub follows : List ℕ → Cursor → Bool
follows s c = cond (eqb c.modules 0) false (accessible_begins (drop c.at s))

-- the latest module's accessibles that are left
unfoldable pub accessibles_left : List ℕ → Cursor → Option (List Table.Accessible × List ℕ)
accessibles_left s c = cond (eqb c.modules 0) (Some ([], drop c.at s)) (accessibles_from s c.at)

-- an accessible of the latest module
abbrev pub placed : {A : Type 0} → List ℕ → Cursor → A → Placed A
placed s c a = record { home = c.modules - 1; module_name = bytes_of s c.name; it = a }

-- those of the latest module that are left, then those of the modules that follow
unfoldable pub left_from : {A : Type 0} → (List Table.Accessible → List A) → List ℕ → Cursor → Option (List (Placed A))
left_from of s c = do
  (xs, r) ← accessibles_left s c
  (ms, e) ← modules_at (length s) (length r) r
  Some (map (placed s c) (of xs) ++ placed_from of c.modules ms)

-- a module's parameters and commands alike
abbrev pub accessibles_of : List Table.Accessible → List Table.Accessible
accessibles_of xs = xs

-- ## Positions

-- a cursor of s: each module that has begun took a byte at least
pub record Fits (s : List ℕ) (c : Cursor) : Type 0 where
  pub within : c.at ≤ length s
  pub name : Inside s c.name
  pub few : c.modules ≤ c.at

-- p is the name of the module of number n: its record begins at `begin`, from where the modules from number n on are read, and the end mark is
-- left
pub record HomeIs (s : List ℕ) (n : ℕ) (p : Part) : Type 0 where
  pub begin : ℕ
  pub left : List ℕ
  pub reads : modules_from s begin ≡ Some (drop n (table_of s).modules, left)
  pub end : after (bytes "EN") left ≡ Some []
  pub it : ModuleAt
  pub heading : ModuleIs s it (heading_at (drop begin s))
  pub name : it.name ≡ p

-- a cursor of the walk over the table that s is: there the latest module's own accessibles are left, then the modules that have not begun, then
-- the end mark, and the cursor has the latest module's name
pub record OnWay (s : List ℕ) (c : Cursor) : Type 0 where
  pub fits : Fits s c
  pub own : List Table.Accessible
  pub rest : List ℕ
  pub left : List ℕ
  pub reads : accessibles_left s c ≡ Some (own, rest)
  pub follow : modules_at (length s) (length rest) rest ≡ Some (drop c.modules (table_of s).modules, left)
  pub end : after (bytes "EN") left ≡ Some []
  pub home : 0 < c.modules → HomeIs s (c.modules - 1) c.name

-- the walk comes to e after c, in a module
pub record After (s : List ℕ) (c e : Cursor) : Type 0 where
  pub way : OnWay s e
  pub later : c.at < e.at
  pub begun : 0 < e.modules

-- the parts of a parameter lie in s, and so does its datainfo; `between`, `flagged` and `size` are what stands between the parts
pub record ParameterIn (s : List ℕ) (q : ParameterAt) : Type 0 where
  pub datainfo : Datainfo
  pub left : List ℕ
  pub info : datainfo_at (drop q.info s) ≡ Some (datainfo, left)
  pub name : Inside s q.name
  pub description : Inside s q.description
  pub initial : Inside s q.initial
  pub info_within : q.info ≤ length s
  pub between : unsigned 1 (drop q.name.to s) ≡ Some (q.description.to - q.description.from, drop q.description.from s)
  pub flagged : flag (drop q.description.to s) ≡ Some (q.readonly, drop q.info s)
  pub size : unsigned 2 left ≡ Some (q.initial.to - q.initial.from, drop q.initial.from s)
  pub end : q.next ≡ q.initial.to

-- the parts of a command lie in s, and so does its argument's datainfo; `between` and `flagged` are what stands between the parts
pub record CommandIn (s : List ℕ) (q : CommandAt) : Type 0 where
  pub argument : Option Datainfo
  pub left : List ℕ
  pub info : argument_at q.argument (drop q.info s) ≡ Some (argument, left)
  pub name : Inside s q.name
  pub description : Inside s q.description
  pub info_within : q.info ≤ length s
  pub between : unsigned 1 (drop q.name.to s) ≡ Some (q.description.to - q.description.from, drop q.description.from s)
  pub flagged : flag (drop q.description.to s) ≡ Some (q.argument, drop q.info s)
  pub end : left ≡ drop q.next s
  pub next_within : q.next ≤ length s

-- ## Answers

-- a, of the module of e, is the first of those left at c, and the others are left at e
pub record FirstIs {A : Type 0} (of : List Table.Accessible → List A) (s : List ℕ) (c e : Cursor) (a : A) : Type 0 where
  pub others : List (Placed A)
  pub is : left_from of s c ≡ Some (placed s e a ∷ others)
  pub left : left_from of s e ≡ Some others

module _ {A : Type 0} (of : List Table.Accessible → List A) (s : List ℕ) (c : Cursor) where
  -- what is left at c is left at e
  abbrev pub Goes : Cursor → Type 0
  Goes e = left_from of s e ≡ left_from of s c

  -- nothing is left at c
  abbrev pub Ended : Type 0
  Ended = left_from of s c ≡ Some []

module _ {A : Type 0} (of : List Table.Accessible → List A) (as_one : Table.Parameter → A) (s : List ℕ) (c : Cursor) (q : ParameterAt) (e : Cursor) where
  -- the parameter of which q has the positions is the first of what is left at c, and e is the cursor after it
  pub record ParameterFirst : Type 0 where
    pub after : After s c e
    pub next : e.at ≡ q.next
    pub held : ParameterIn s q
    pub first : FirstIs of s c e (as_one (parameter_of s q held.datainfo))

module _ {A : Type 0} (of : List Table.Accessible → List A) (as_one : Table.Command → A) (s : List ℕ) (c : Cursor) (q : CommandAt) (e : Cursor) where
  -- the same of a command
  pub record CommandFirst : Type 0 where
    pub after : After s c e
    pub next : e.at ≡ q.next
    pub held : CommandIn s q
    pub first : FirstIs of s c e (as_one (command_of s q held.argument))

-- e is in a module that begins after c, and what is left at c is left at e
pub record ModuleFirst (s : List ℕ) (c e : Cursor) : Type 0 where
  pub after : After s c e
  pub goes : Goes accessibles_of s c e

-- c is straight after the table's head, and all of the table is left there
pub record FirstCursor (s : List ℕ) (c : Cursor) : Type 0 where
  pub way : OnWay s c
  pub head : head_at s ≡ Some (Table.with_modules (table_of s) [], drop c.at s)
  pub modules : c.modules ≡ 0
  pub unnamed : (c.name.from ≡ c.at) × (c.name.to ≡ c.at)
  pub parameters : left_from parameters_of s c ≡ Some (parameters (table_of s))
  pub commands : left_from commands_of s c ≡ Some (commands (table_of s))

-- the next record from c on
abbrev pub RecordIs : List ℕ → Cursor → R.Record → Type 0
RecordIs s c (R.TheVariants.Parameter q e) = ParameterFirst accessibles_of Table.parameter s c q e
RecordIs s c (R.TheVariants.Command q e) = CommandFirst accessibles_of Table.command s c q e
RecordIs s c (R.TheVariants.Module e) = ModuleFirst s c e
RecordIs s c R.TheVariants.End = Ended accessibles_of s c

-- where the name of an accessible lies
abbrev pub name_of : O.Accessible → Part
name_of (O.TheVariants.Parameter q) = q.name
name_of (O.TheVariants.Command q) = q.name

-- the accessible a is the first of what is left at c, and e is the cursor after it
abbrev pub OneFirst : List ℕ → Cursor → O.Accessible → Cursor → Type 0
OneFirst s c (O.TheVariants.Parameter q) e = ParameterFirst accessibles_of Table.parameter s c q e
OneFirst s c (O.TheVariants.Command q) e = CommandFirst accessibles_of Table.command s c q e

-- the next accessible from c on
abbrev pub NextAccessibleIs : List ℕ → Cursor → Option (Accessible × Cursor) → Type 0
NextAccessibleIs s c (Some (a, e)) = OneFirst s c a e
NextAccessibleIs s c None = Ended accessibles_of s c

-- the next parameter from c on
abbrev pub NextParameterIs : List ℕ → Cursor → Option (ParameterAt × Cursor) → Type 0
NextParameterIs s c (Some (q, e)) = ParameterFirst parameters_of (λ p. p) s c q e
NextParameterIs s c None = Ended parameters_of s c

-- the next command from c on
abbrev pub NextCommandIs : List ℕ → Cursor → Option (CommandAt × Cursor) → Type 0
NextCommandIs s c (Some (q, e)) = CommandFirst commands_of (λ p. p) s c q e
NextCommandIs s c None = Ended commands_of s c
