-- What the search that a request needs comes to. Assumes nothing.
use Rattle.std.specs.Prelude.{ℕ, true, List, ◌≡◌, Option, Some, None}
use Rattle.table.specs.Layout.{table_of}
use Rattle.search.specs.Clauses.Found.{Locates}
use Rattle.search.specs.declared.locate.Located.{Located}
use Rattle.seek.specs.declared.locate.Placed.{Placed}
use Rattle.message.specs.Clauses.Parsed.{part, meaning}
use Rattle.message.specs.declared.line.Request.{Request}
use Rattle.message.specs.declared.line.Request.TheVariants as Q
use Rattle.plain.specs.Answer.{request_steps}
use Rattle.line.specs.Clauses.Asked.{is_built}
use Rattle.message.specs.declared.line.Verb.{Verb}
use Rattle.message.specs.declared.line.Part.{Part}

-- the verb of a request that is about an accessible, and where the names lie
abbrev pub names_of : Request → Option (Verb × Part × Part)
names_of Q.Identify = None
names_of Q.Describe = None
names_of Q.Ping = None
names_of (Q.All v) = None
names_of (Q.Scoped v m) = None
names_of (Q.Named v m a) = Some (v, m, a)
names_of Q.Count = None
names_of Q.Malformed = None

-- in the table's bytes s, what is located is what these names of a line locate, if the edition has the verb
abbrev pub LocatedAt : List ℕ → List ℕ → Option (Verb × Part × Part) → Located → Type 0
LocatedAt s line (Some (v, m, a)) l = is_built (table_of s) v ≡ true → Locates s (part line m) (part line a) l
LocatedAt s line None l = Unit

-- the search of a request of a line, lent an index: what it locates, and its steps, whatever specifier and data are
pub record SoughtFor (s index line : List ℕ) (asked : Request) (r : Placed) : Type 0 where
  pub located : LocatedAt s line (names_of asked) r.located
  pub steps : (specifier payload : List ℕ) → r.steps ≡ request_steps (table_of s) index (meaning line specifier payload asked)
