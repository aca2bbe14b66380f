-- Part of a struct (M-113), in its own words: which member of what a change stores comes from where. Assumes nothing.
use Rattle.std.specs.Prelude.{ℕ, ◌≤◌, Bool, true, false, List, ◌⊎◌, ◌≡◌, length, Some, None, slice_get}
use Rattle.ascii.specs.Bytes.{any, count, same}
use Rattle.json_text.specs.Json as Json
use Rattle.json_text.specs.Json.{Members, text, compact}
use Rattle.datainfo.specs.Datainfo.{Datainfo, partial, Fields, field_names, field_of}
use Rattle.fit.specs.Fit.{fits, wrongType, keys, value_at, fit, numbered, as_partial, verdict, stored_form}
use Rattle.message.specs.Error.{Fault}
use Rattle.message.specs.Reply.{valued, failed}
use Rattle.table.specs.Table.{Parameter, Table}
use Rattle.table.specs.Search.{Placed, parameters}
use Rattle.sound.specs.Theorems.{Sound}
use Rattle.plain.specs.Node.{Value, Node}
use Rattle.plain.specs.Answer.{judged_at, stored_at}

-- Of a struct with the members fs, and an object with the members ms.

-- a name is one of these
abbrev pub is_among : List (List ℕ) → List ℕ → Bool
is_among ks k = any (same k) ks

-- a member of the struct is left out
pub record LeftOut (fs : Fields) (ms : Members) (k : List ℕ) : Type 0 where
  pub asked : is_among (field_names fs) k ≡ true
  pub missing : is_among (keys ms) k ≡ false

-- a member of the struct, with its datainfo, is given
pub record Given (fs : Fields) (ms : Members) (k : List ℕ) (d : Datainfo) : Type 0 where
  pub asked : field_of k fs ≡ Some d
  pub there : is_among (keys ms) k ≡ true

-- What a change has to give, where a value is shown: members only, each of them once, with values that fit; and "A change may leave optional members out".
pub record GoodPart (optional : List (List ℕ)) (fs : Fields) (ms : Members) : Type 0 where
  pub named : (k : List ℕ) → is_among (keys ms) k ≡ true → is_among (field_names fs) k ≡ true
  pub once : (k : List ℕ) → is_among (keys ms) k ≡ true → count (same k) (keys ms) ≡ 1
  pub fitting : (k : List ℕ) (d : Datainfo) → Given fs ms k d → fit d (value_at k ms) ≡ fits
  pub allowed : (k : List ℕ) → LeftOut fs ms k → is_among optional k ≡ true

-- What is stored, zs, of the members ms where the members `shown` are shown.
pub record Merged (fs : Fields) (shown ms zs : Members) : Type 0 where
  -- "lists members in table order": all of them, each once
  pub order : keys zs ≡ field_names fs
  -- "they keep what is shown now": the value that was shown, byte for byte, since what is shown and what is stored are compact
  pub kept : (k : List ℕ) → LeftOut fs ms k → value_at k zs ≡ value_at k shown
  -- what is given is stored as a value inside values is: with numbers for names, and as it was sent else
  pub given : (k : List ℕ) (d : Datainfo) → Given fs ms k d → value_at k zs ≡ numbered d (value_at k ms)

-- Parameter k, which is p, is of type 11, with these optional members among fs; the text xs, by which it is to be changed, is an object with the members ms.
module _ (n : Node) (k : ℕ) (p : Placed Parameter) (optional : List (List ℕ)) (fs : Fields) (xs : List ℕ) (ms : Members) where
  -- where the value v is shown: which changes are let in, and what is stored of them
  pub record WhereShown (v : List ℕ) : Type 0 where
    pub shown : Members
    pub is : v ≡ compact (Json.object shown)
    -- "the 256 bytes are counted after the merge"
    pub let_in : GoodPart optional fs ms → length (stored_at n.values (k, p) xs) ≤ 256 → judged_at n.values (k, p) xs ≡ fits
    -- what is let in was a good part, and is merged with what was shown
    pub good : judged_at n.values (k, p) xs ≡ fits → GoodPart optional fs ms
    pub zs : Members
    pub stored : stored_at n.values (k, p) xs ≡ compact (Json.object zs)
    pub merged : judged_at n.values (k, p) xs ≡ fits → Merged fs shown ms zs

  pub record ChangedInPart : Type 0 where
    pub where_shown : (v : List ℕ) → (n.values k).held ≡ valued v → WhereShown v
    -- "where the parameter is in error, such a change is WrongType": one that leaves any member out
    pub in_error : (f : Fault) → (n.values k).held ≡ failed f → (j : List ℕ) → LeftOut fs ms j → judged_at n.values (k, p) xs ≡ wrongType
    -- a member that is not optional is required, whatever is shown
    pub required : (j : List ℕ) → LeftOut fs ms j → is_among optional j ≡ false → judged_at n.values (k, p) xs ≡ wrongType
    -- a change that leaves nothing out is judged and stored as any value is, whatever is shown
    pub whole : ((j : List ℕ) → LeftOut fs ms j → ⊥)
        → (judged_at n.values (k, p) xs ≡ verdict p.it.datainfo xs) × (stored_at n.values (k, p) xs ≡ stored_form p.it.datainfo xs)

-- a text that is no object
abbrev pub NoObject : List ℕ → Type 0
NoObject xs = (ms : Members) → text xs ≡ Some (Json.object ms) → ⊥

pub record PartsAreMerged : Type 0 where
  -- of every node that is sound, as all of a history are (`sound::always_sound`)
  pub changes : (w : Table) (n : Node) → Sound w n → (k : ℕ) (p : Placed Parameter) → slice_get (parameters w) k ≡ Some p
      → (optional : List (List ℕ)) (fs : Fields) → p.it.datainfo ≡ partial optional fs → (xs : List ℕ) (ms : Members) → text xs ≡ Some (Json.object ms)
      → ChangedInPart n k p optional fs xs ms
  -- "Elsewhere (inside values, arguments, readings, initial values) all are required": the value rule itself, and that of texts
  pub elsewhere : (optional : List (List ℕ)) (fs : Fields) (ms : Members) (j : List ℕ) → LeftOut fs ms j
      → (fit (partial optional fs) (Json.object ms) ≡ wrongType)
      × ((xs : List ℕ) → text xs ≡ Some (Json.object ms) → verdict (partial optional fs) xs ≡ wrongType)
  -- nothing else is merged: of any other type, and of any other text, a change is judged and stored as ever
  pub others : (values : ℕ → Value) (k : ℕ × Placed Parameter) (xs : List ℕ) → (as_partial k.1.it.datainfo ≡ None) ⊎ NoObject xs
      → (judged_at values k xs ≡ verdict k.1.it.datainfo xs) × (stored_at values k xs ≡ stored_form k.1.it.datainfo xs)
