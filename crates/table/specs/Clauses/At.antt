-- What the code that reads records answers: positions of the table's bytes, and what they stand for. Assumes nothing.
use Rattle.std.specs.Prelude.{ℕ, ◌-◌, ◌≤◌, ◌≡◌, Bool, cond, ◌||◌, List, [], length, take, drop, Option, Some, None, IfSome}
use Rattle.ascii.specs.Text.{bytes}
use Rattle.ascii.specs.Bytes.{◌>>=◌, after, part}
use Rattle.ascii.specs.Numbers.{unsigned}
use Rattle.datainfo.specs.Datainfo.{Datainfo}
use Rattle.datainfo.specs.Layout.{counted, datainfo_at}
use Rattle.table.specs.Table as Table
use Rattle.table.specs.Layout.{begins, flag, argument_at, parameter_at, command_at, accessibles_at, marked_at, note_at, modules_at, head_at, table_of}
use Rattle.table.specs.declared.layout.Part.{Part}
use Rattle.table.specs.declared.layout.ParameterAt.{ParameterAt}
use Rattle.table.specs.declared.layout.CommandAt.{CommandAt}
use Rattle.table.specs.declared.layout.Accessible as A
use Rattle.table.specs.declared.layout.ModuleAt.{ModuleAt}
use Rattle.table.specs.declared.layout.HeadAt.{HeadAt}

-- the bytes of a part
unfoldable pub bytes_of : List ℕ → Part → List ℕ
bytes_of s p = take (p.to - p.from) (drop p.from s)

-- a part of s
pub record Inside (s : List ℕ) (p : Part) : Type 0 where
  pub order : p.from ≤ p.to
  pub within : p.to ≤ length s

-- a length of k bytes and as many bytes, which are the part p
pub record SizedIs (s : List ℕ) (at k : ℕ) (p : Part) : Type 0 where
  pub size : unsigned k (drop at s) ≡ Some (p.to - p.from, drop p.from s)
  pub held : part (p.to - p.from) (drop p.from s) ≡ Some (bytes_of s p, drop p.to s)
  pub inside : Inside s p

abbrev pub Sized : List ℕ → ℕ → ℕ → Option Part → Type 0
Sized s at k (Some p) = SizedIs s at k p
Sized s at k None = (unsigned k (drop at s) >>= λ p. part p.0 p.1) ≡ None

-- a mark m, a name or an equipment id, and a description
unfoldable pub texts_at : List ℕ → List ℕ → Option ((List ℕ × List ℕ) × List ℕ)
texts_at m xs = do
  a ← after m xs
  (name, b) ← counted a
  (text, c) ← counted b
  Some ((name, text), c)

-- o is the texts p and q; `between` is the second one's length byte
pub record TextsAre (s : List ℕ) (p q : Part) (o : Option ((List ℕ × List ℕ) × List ℕ)) : Type 0 where
  pub is : o ≡ Some ((bytes_of s p, bytes_of s q), drop q.to s)
  pub between : unsigned 1 (drop p.to s) ≡ Some (q.to - q.from, drop q.from s)
  pub name : Inside s p
  pub description : Inside s q

abbrev pub TextsAt : List ℕ → Option (Part × Part) → Option ((List ℕ × List ℕ) × List ℕ) → Type 0
TextsAt s (Some (p, q)) o = TextsAre s p q o
TextsAt s None o = o ≡ None

abbrev pub FlagIs : List ℕ → Option (Bool × ℕ) → Option (Bool × List ℕ) → Type 0
FlagIs s (Some (b, p)) o = (o ≡ Some (b, drop p s)) × (p ≤ length s)
FlagIs s None o = o ≡ None

-- ## Accessibles

-- whether a parameter or a command follows
abbrev pub accessible_begins : List ℕ → Bool
accessible_begins xs = begins (bytes "PA") xs || begins (bytes "CM") xs

-- a parameter or a command, in a table of n bytes
unfoldable pub accessible_at : ℕ → List ℕ → Option (Table.Accessible × List ℕ)
accessible_at n xs = cond (begins (bytes "PA") xs) (parameter_at n xs) (command_at xs)

-- the accessibles from a position on
abbrev pub accessibles_from : List ℕ → ℕ → Option (List Table.Accessible × List ℕ)
accessibles_from s at = accessibles_at (length s) (length (drop at s)) (drop at s)

-- the parameter of which q has the positions, and d is the datainfo
unfoldable pub parameter_of : List ℕ → ParameterAt → Datainfo → Table.Parameter
parameter_of s q d =
    record {
      name = bytes_of s q.name;
      description = bytes_of s q.description;
      readonly = q.readonly;
      datainfo = d;
      initial = bytes_of s q.initial;
      place = q.initial.from;
    }

-- o is the parameter of which q has the positions; `between`, `flagged` and `size` are what stands between its parts
pub record ParameterIs (s : List ℕ) (q : ParameterAt) (o : Option (Table.Accessible × List ℕ)) : Type 0 where
  pub datainfo : Datainfo
  pub left : List ℕ
  pub is : o ≡ Some (Table.parameter (parameter_of s q datainfo), drop q.next s)
  pub info : datainfo_at (drop q.info s) ≡ Some (datainfo, left)
  pub name : Inside s q.name
  pub description : Inside s q.description
  pub initial : Inside s q.initial
  pub info_within : q.info ≤ length s
  pub next_within : q.next ≤ length s
  pub between : unsigned 1 (drop q.name.to s) ≡ Some (q.description.to - q.description.from, drop q.description.from s)
  pub flagged : flag (drop q.description.to s) ≡ Some (q.readonly, drop q.info s)
  pub size : unsigned 2 left ≡ Some (q.initial.to - q.initial.from, drop q.initial.from s)
  pub end : q.next ≡ q.initial.to

-- the command of which q has the positions, and a is the argument
unfoldable pub command_of : List ℕ → CommandAt → Option Datainfo → Table.Command
command_of s q a = record { name = bytes_of s q.name; description = bytes_of s q.description; argument = a }

-- the argument that follows a flag can be read from s at a position
pub record ArgumentReadable (s : List ℕ) (declared : Bool) (at : ℕ) : Type 0 where
  pub within : at ≤ length s
  pub argument : Option Datainfo
  pub left : List ℕ
  pub is : argument_at declared (drop at s) ≡ Some (argument, left)

-- o is the command of which q has the positions; `between` and `flagged` are what stands between its parts
pub record CommandIs (s : List ℕ) (q : CommandAt) (o : Option (Table.Accessible × List ℕ)) : Type 0 where
  pub argument : Option Datainfo
  pub is : o ≡ Some (Table.command (command_of s q argument), drop q.next s)
  pub info : argument_at q.argument (drop q.info s) ≡ Some (argument, drop q.next s)
  pub name : Inside s q.name
  pub description : Inside s q.description
  pub info_within : q.info ≤ length s
  pub next_within : q.next ≤ length s
  pub between : unsigned 1 (drop q.name.to s) ≡ Some (q.description.to - q.description.from, drop q.description.from s)
  pub flagged : flag (drop q.description.to s) ≡ Some (q.argument, drop q.info s)

-- the answer of a reader of s that reads the accessible o
abbrev pub AccessibleIs : List ℕ → Option A.Accessible → Option (Table.Accessible × List ℕ) → Type 0
AccessibleIs s (Some (A.TheVariants.Parameter q)) o = ParameterIs s q o
AccessibleIs s (Some (A.TheVariants.Command q)) o = CommandIs s q o
AccessibleIs s None o = o ≡ None

-- ## A text after a mark

-- the text of a part, if there is one
abbrev pub text_if : List ℕ → Option Part → Option (List ℕ)
text_if s None = None
text_if s (Some p) = Some (bytes_of s p)

-- where such a part ends, which begins at a position if it is there
abbrev pub end_if : ℕ → Option Part → ℕ
end_if at None = at
end_if at (Some p) = p.to

-- such a text is that of the part p, if there is one, and j is the position after it
pub record MarkedRead (s mark : List ℕ) (at : ℕ) (p : Option Part) (j : ℕ) : Type 0 where
  pub is : marked_at mark (drop at s) ≡ Some (text_if s p, drop j s)
  pub inside : IfSome p (Inside s)
  pub within : j ≤ length s
  pub end : j ≡ end_if at p

-- the answer of a reader of a note or an edition
abbrev pub MarkedIs : List ℕ → List ℕ → ℕ → Option (Option Part × ℕ) → Type 0
MarkedIs s mark at (Some (p, j)) = MarkedRead s mark at p j
MarkedIs s mark at None = marked_at mark (drop at s) ≡ None

-- ## Modules

-- a module with no accessibles yet
unfoldable pub heading_at : List ℕ → Option (Table.Module × List ℕ)
heading_at xs = do
  (t, c) ← texts_at (bytes "MO") xs
  (note, d) ← note_at c
  Some (record { name = t.0; description = t.1; note = note; accessibles = [] }, d)

-- the module of which q has the positions, with no accessibles yet
unfoldable pub module_of : List ℕ → ModuleAt → Table.Module
module_of s q =
    record {
      name = bytes_of s q.name;
      description = bytes_of s q.description;
      note = text_if s q.note;
      accessibles = [];
    }

-- o is the module of which q has the positions, with no accessibles yet; `between` is the description's length byte. The accessibles begin
-- where the note ends, and without one where the description does
pub record ModuleIs (s : List ℕ) (q : ModuleAt) (o : Option (Table.Module × List ℕ)) : Type 0 where
  pub is : o ≡ Some (module_of s q, drop q.next s)
  pub name : Inside s q.name
  pub description : Inside s q.description
  pub note : IfSome q.note (Inside s)
  pub next_within : q.next ≤ length s
  pub between : unsigned 1 (drop q.name.to s) ≡ Some (q.description.to - q.description.from, drop q.description.from s)
  pub note_read : note_at (drop q.description.to s) ≡ Some (text_if s q.note, drop q.next s)
  pub note_end : q.next ≡ end_if q.description.to q.note

abbrev pub HeadingIs : List ℕ → Option ModuleAt → Option (Table.Module × List ℕ) → Type 0
HeadingIs s (Some q) o = ModuleIs s q o
HeadingIs s None o = o ≡ None

-- the modules from a position on
abbrev pub modules_from : List ℕ → ℕ → Option (List Table.Module × List ℕ)
modules_from s at = modules_at (length s) (length (drop at s)) (drop at s)

-- ## The head

-- the table of whose head q has the positions, with no modules yet
unfoldable pub head_of : List ℕ → HeadAt → Table.Table
head_of s q =
    record {
      equipment_id = bytes_of s q.id;
      description = bytes_of s q.description;
      edition = text_if s q.edition;
      modules = [];
    }

-- q has the positions of the head of s: the first module's record begins at `first`
pub record HeadIs (s : List ℕ) (q : HeadAt) : Type 0 where
  pub is : head_at s ≡ Some (head_of s q, drop q.first s)
  pub id : Inside s q.id
  pub description : Inside s q.description
  pub edition : IfSome q.edition (Inside s)
  pub within : q.first ≤ length s

-- the answer of a reader of the head of s
abbrev pub HeadRead : List ℕ → Option HeadAt → Type 0
HeadRead s (Some q) = HeadIs s q
HeadRead s None = head_at s ≡ None

-- a part that has the text of the edition
pub record Given (s : List ℕ) (p : Part) : Type 0 where
  pub is : (table_of s).edition ≡ Some (bytes_of s p)
  pub inside : Inside s p

-- the answer of a reader of the edition of a table that can be read
abbrev pub EditionIs : List ℕ → Option Part → Type 0
EditionIs s (Some p) = Given s p
EditionIs s None = (table_of s).edition ≡ None
