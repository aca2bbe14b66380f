-- What the code that fills in what a change leaves out (M-113) is given, and what it does. Assumes nothing.
use Rattle.std.specs.Prelude.{ℕ, ◌≤◌, ◌≡◌, Bool, true, false, cond, List, [], ◌++◌, eqb, length, take, Option, Some}
use Rattle.ascii.specs.Text.{bytes}
use Rattle.ascii.specs.Bytes.{any, same, head}
use Rattle.json_text.specs.Json as Json
use Rattle.json_text.specs.Json.{Json, Members, skip, value, object_end, text, quoted, compact, compact_members}
use Rattle.datainfo.specs.Datainfo.{Datainfo, Parts, field_names, field_of}
use Rattle.datainfo.specs.Layout.{ReadableAt}
use Rattle.emit.specs.Clauses.Emitted.{Emits, comma}
use Rattle.fit.specs.Fit.{fits, keys, each_once, value_at, fit, fields_fit, map_members, numbered, numbered_at, ordered}
use Rattle.fit.specs.Fit.{keep_members, is_left_out, completed_of, is_stored}

-- r is whether a name is that of an optional member that is left out; where struct or object can't be read, r is any
pub record TellsLeftOut (o : Option (Parts × List ℕ)) (q : Option (Json × List ℕ)) (name : List ℕ) (r : Bool) : Type 0 where
  pub is : {m : Parts} {x : List ℕ} {ms : Members} {y : List ℕ} → o ≡ Some (m, x) → q ≡ Some (Json.object ms, y) → r ≡ is_left_out m.0 ms name

-- r is whether none has been written after it
pub record StaysFirst (o : Option (Parts × List ℕ)) (q : Option (Json × List ℕ)) (name : List ℕ) (start r : Bool) : Type 0 where
  pub is : {m : Parts} {x : List ℕ} {ms : Members} {y : List ℕ} → o ≡ Some (m, x) → q ≡ Some (Json.object ms, y)
      → r ≡ cond (is_left_out m.0 ms name) false start

-- the member of a name was written, if it is left out: from what is shown, which p reads, with a comma before it unless it is the first
pub record KeepsOne (o : Option (Parts × List ℕ)) (q p : Option (Json × List ℕ)) (name : List ℕ) (start : Bool) (before : List ℕ) (at : ℕ) (after : List ℕ)
    (end : ℕ) : Type 0 where
  pub is : {m : Parts} {x : List ℕ} {ms : Members} {y : List ℕ} {js : Members} {z : List ℕ} {d : Datainfo} → o ≡ Some (m, x) → q ≡ Some (Json.object ms, y)
      → p ≡ Some (Json.object js, z) → any (same name) (keys js) ≡ true → field_of name m.1 ≡ Some d → fit d (value_at name js) ≡ fits
      → Emits before at (cond (is_left_out m.0 ms name) (comma start ++ (quoted name ++ bytes ":" ++ compact (numbered d (value_at name js)))) []) after end

-- all members that are left out, in table order, with commas between them
pub record KeepsAll (o : Option (Parts × List ℕ)) (q p : Option (Json × List ℕ)) (before : List ℕ) (at : ℕ) (after : List ℕ) (end : ℕ) : Type 0 where
  pub is : {m : Parts} {x : List ℕ} {ms : Members} {y : List ℕ} {js : Members} {z : List ℕ} → o ≡ Some (m, x) → q ≡ Some (Json.object ms, y)
      → p ≡ Some (Json.object js, z) → each_once (field_names m.1) (keys js) ≡ true → fields_fit m.1 js ≡ fits
      → Emits before at (compact_members (keep_members (is_left_out m.0 ms) (ordered m.1 (map_members (λ k w. numbered_at k m.1 w) js)))) after end

-- the bytes of an object whose own bytes past its '{' are xs, with members ks in front of its own; '}' is 125
unfoldable pub is_none : Members → Bool
is_none Json.no_members = true
is_none (Json.member k v ms) = false

unfoldable pub merged_bytes : Members → List ℕ → List ℕ
merged_bytes ks xs = bytes "{" ++ compact_members ks ++ cond (eqb (head (skip xs)) 125) (bytes "}") (comma (is_none ks) ++ xs)

-- these were written at the front, for an object with the bytes xs past its '{'; p reads what is shown
pub record Merges (o : Option (Parts × List ℕ)) (xs : List ℕ) (p : Option (Json × List ℕ)) (before after : List ℕ) (end : ℕ) : Type 0 where
  pub is : {m : Parts} {x : List ℕ} {ms : Members} {y : List ℕ} {js : Members} {z : List ℕ} → o ≡ Some (m, x)
      → object_end (value 7) xs ≡ Some (Json.object ms, y)
      → p ≡ Some (Json.object js, z) → each_once (field_names m.1) (keys js) ≡ true → fields_fit m.1 js ≡ fits
      → Emits before 0 (merged_bytes (keep_members (is_left_out m.0 ms) (ordered m.1 (map_members (λ k w. numbered_at k m.1 w) js))) xs) after end

-- what is shown of a parameter with this datainfo: nothing, where it is in error, or a text in stored form
pub data ShownBy (d : Datainfo) (xs : List ℕ) : Type 0 where
  nothing : xs ≡ [] → ShownBy d xs
  stored : is_stored d xs ≡ true → ShownBy d xs

-- a datainfo at a position of s, and a text that is shown by it
pub record ShownAt (s : List ℕ) (info : ℕ) (xs : List ℕ) : Type 0 where
  pub reads : ReadableAt s info 4
  pub shown : ShownBy reads.datainfo xs

-- the front of the buffer, up to the position r, is a text: that of the change v with what it leaves out filled in from what is shown
pub record Completes (o : Option (Datainfo × List ℕ)) (shown v before after : List ℕ) (r : ℕ) : Type 0 where
  pub size : length after ≡ length before
  pub within : r ≤ length after
  pub is : {d : Datainfo} {x : List ℕ} → o ≡ Some (d, x) → text (take r after) ≡ completed_of (text shown) d (text v)
