-- What the code that writes a stored form is given, and what it does: written where the lent buffer has room, and counted where not. Where a
-- datainfo or a value can't be read, or the value doesn't fit, nothing is said. Assumes nothing.
use Rattle.std.specs.Prelude.{ℕ, ◌+◌, ◌≤◌, ◌≡◌, Bool, true, List, ◌++◌, length, drop, ℤ, Option, Some, None}
use Rattle.ascii.specs.Text.{bytes}
use Rattle.ascii.specs.Bytes.{any, same}
use Rattle.ascii.specs.Clauses.Writer.{Puts}
use Rattle.ascii.specs.Numbers.{integer}
use Rattle.json_text.specs.Json.{Json, Items, Members, key, value, text, quoted, compact, compact_items, compact_members}
use Rattle.datainfo.specs.Datainfo.{Datainfo, enum, tuple, struct, Variant, Elements, Fields, Parts, field_names, field_of}
use Rattle.datainfo.specs.Layout.{datainfo_in, ReadableAt}
use Rattle.emit.specs.Clauses.Emitted.{capped, Emits, comma}
use Rattle.fit.specs.Fit.{fits, member_number, worst_item, keys, each_once, value_at, fit, elements_fit, fields_fit, map_items, map_members, numbered}
use Rattle.fit.specs.Fit.{numbered_elements, numbered_at}
use Rattle.fit.specs.Fit.{ordered, verdict, stored_form, is_fit}

-- the compact text of the value that q reads
pub record Copies (q : Option (Json × List ℕ)) (before : List ℕ) (at : ℕ) (after : List ℕ) (end : ℕ) : Type 0 where
  pub is : {j : Json} {y : List ℕ} → q ≡ Some (j, y) → Emits before at (compact j) after end

-- the number of the member of a name, in decimal
pub record PutsNumber (o : Option (Datainfo × List ℕ)) (name before : List ℕ) (at : ℕ) (after : List ℕ) (end : ℕ) : Type 0 where
  pub is : {vs : List Variant} {x : List ℕ} {n : ℤ} → o ≡ Some (enum vs, x) → member_number vs name ≡ Some n → Emits before at (integer n) after end

-- the compact text of what is stored of the value that q reads, by the datainfo that o reads
pub record Forms (o : Option (Datainfo × List ℕ)) (q : Option (Json × List ℕ)) (before : List ℕ) (at : ℕ) (after : List ℕ) (end : ℕ) : Type 0 where
  pub is : {d : Datainfo} {x : List ℕ} {j : Json} {y : List ℕ} → o ≡ Some (d, x) → q ≡ Some (j, y) → fit d j ≡ fits
      → Emits before at (compact (numbered d j)) after end

-- the same of an item, with a comma before it unless it is the first
pub record FormsItem (o : Option (Datainfo × List ℕ)) (q : Option (Json × List ℕ)) (start : Bool) (before : List ℕ) (at : ℕ) (after : List ℕ)
    (end : ℕ) : Type 0 where
  pub is : {d : Datainfo} {x : List ℕ} {j : Json} {y : List ℕ} → o ≡ Some (d, x) → q ≡ Some (j, y) → fit d j ≡ fits
      → Emits before at (comma start ++ compact (numbered d j)) after end

-- the items that q reads, with commas between them, each by the datainfo that o reads
pub record FormsItems (o : Option (Datainfo × List ℕ)) (q : Option (Json × List ℕ)) (before : List ℕ) (at : ℕ) (after : List ℕ) (end : ℕ) : Type 0 where
  pub is : {d : Datainfo} {x : List ℕ} {is : Items} {y : List ℕ} → o ≡ Some (d, x) → q ≡ Some (Json.array is, y) → worst_item (λ w. fit d w) is ≡ fits
      → Emits before at (compact_items (map_items (λ w. numbered d w) is)) after end

-- the same by the datainfos of a tuple in turn
pub record FormsElements (o : Option (Datainfo × List ℕ)) (q : Option (Json × List ℕ)) (before : List ℕ) (at : ℕ) (after : List ℕ) (end : ℕ) : Type 0 where
  pub is : {ds : Elements} {x : List ℕ} {is : Items} {y : List ℕ} → o ≡ Some (tuple ds, x) → q ≡ Some (Json.array is, y) → elements_fit ds is ≡ fits
      → Emits before at (compact_items (numbered_elements ds is)) after end

-- position e of s, where this datainfo is
abbrev pub FieldFound : List ℕ → ℕ → List ℕ → Fields → Option ℕ → Type 0
FieldFound s levels name fs (Some e) = (d : Datainfo) → field_of name fs ≡ Some d → (x : List ℕ) × (datainfo_in levels (drop e s) ≡ Some (d, x))
FieldFound s levels name fs None = field_of name fs ≡ None

pub record FieldIn (o : Option (Parts × List ℕ)) (s : List ℕ) (levels : ℕ) (name : List ℕ) (r : Option ℕ) : Type 0 where
  pub within : {e : ℕ} → r ≡ Some e → e ≤ length s
  pub is : {m : Parts} {x : List ℕ} → o ≡ Some (m, x) → FieldFound s levels name m.1 r

-- a member's key, a colon and what is stored of its value, by the datainfo of the field of that name
pub record FormsMember (o : Option (Parts × List ℕ)) (depth : ℕ) (xs before : List ℕ) (at : ℕ) (after : List ℕ) (end : ℕ) : Type 0 where
  pub is : {m : Parts} {x k z : List ℕ} {j : Json} {y : List ℕ} {d : Datainfo} → o ≡ Some (m, x) → key xs ≡ Some (k, z) → value depth z ≡ Some (j, y)
      → field_of k m.1 ≡ Some d → fit d j ≡ fits → Emits before at (quoted k ++ bytes ":" ++ compact (numbered d j)) after end

-- the members that q reads, with commas between them, by the fields that o reads
pub record FormsMembers (o : Option (Parts × List ℕ)) (q : Option (Json × List ℕ)) (before : List ℕ) (at : ℕ) (after : List ℕ) (end : ℕ) : Type 0 where
  pub is : {m : Parts} {x : List ℕ} {ms : Members} {y : List ℕ} → o ≡ Some (m, x) → q ≡ Some (Json.object ms, y)
      → each_once (field_names m.1) (keys ms) ≡ true → fields_fit m.1 ms ≡ fits
      → Emits before at (compact_members (map_members (λ k w. numbered_at k m.1 w) ms)) after end

-- what is stored of the value that q reads, by a struct of the members that o reads
pub record FormsStruct (o : Option (Parts × List ℕ)) (q : Option (Json × List ℕ)) (before : List ℕ) (at : ℕ) (after : List ℕ) (end : ℕ) : Type 0 where
  pub is : {m : Parts} {x : List ℕ} {j : Json} {y : List ℕ} → o ≡ Some (m, x) → q ≡ Some (j, y) → fit (struct m.1) j ≡ fits
      → Emits before at (compact (numbered (struct m.1) j)) after end

-- ## In table order

-- a name, a colon and what is stored of the value that the members which q reads have there
pub record FormsField (o : Option (Parts × List ℕ)) (q : Option (Json × List ℕ)) (name before : List ℕ) (at : ℕ) (after : List ℕ) (end : ℕ) : Type 0 where
  pub is : {m : Parts} {x : List ℕ} {ms : Members} {y : List ℕ} {d : Datainfo} → o ≡ Some (m, x) → q ≡ Some (Json.object ms, y)
      → any (same name) (keys ms) ≡ true → field_of name m.1 ≡ Some d → fit d (value_at name ms) ≡ fits
      → Emits before at (quoted name ++ bytes ":" ++ compact (numbered d (value_at name ms))) after end

-- the same of all the members that o reads, with commas between them
pub record FormsFields (o : Option (Parts × List ℕ)) (q : Option (Json × List ℕ)) (before : List ℕ) (at : ℕ) (after : List ℕ) (end : ℕ) : Type 0 where
  pub is : {m : Parts} {x : List ℕ} {ms : Members} {y : List ℕ} → o ≡ Some (m, x) → q ≡ Some (Json.object ms, y)
      → each_once (field_names m.1) (keys ms) ≡ true → fields_fit m.1 ms ≡ fits
      → Emits before at (compact_members (ordered m.1 (map_members (λ k w. numbered_at k m.1 w) ms))) after end

-- what is stored of the value that q reads, by a struct of the members that o reads, at the top level of type 11
pub record FormsOrdered (o : Option (Parts × List ℕ)) (q : Option (Json × List ℕ)) (before : List ℕ) (at : ℕ) (after : List ℕ) (end : ℕ) : Type 0 where
  pub is : {m : Parts} {x : List ℕ} {ms : Members} {y : List ℕ} → o ≡ Some (m, x) → q ≡ Some (Json.object ms, y) → fit (struct m.1) (Json.object ms) ≡ fits
      → Emits before at (compact (Json.object (ordered m.1 (map_members (λ k w. numbered_at k m.1 w) ms)))) after end

-- the stored form of a text that fits, whatever its length
pub record FormsText (o : Option (Datainfo × List ℕ)) (xs before : List ℕ) (at : ℕ) (after : List ℕ) (end : ℕ) : Type 0 where
  pub is : {d : Datainfo} {x : List ℕ} {j : Json} → o ≡ Some (d, x) → text xs ≡ Some j → fit d j ≡ fits → Emits before at (stored_form d xs) after end

-- n is how long it is
pub record FormIsLong (o : Option (Datainfo × List ℕ)) (xs : List ℕ) (n : ℕ) : Type 0 where
  pub is : {d : Datainfo} {x : List ℕ} {j : Json} → o ≡ Some (d, x) → text xs ≡ Some j → fit d j ≡ fits → n ≡ capped (length (stored_form d xs))

-- the text xs fits the datainfo at a position of s
pub record FitsAt (s : List ℕ) (info : ℕ) (xs : List ℕ) : Type 0 where
  pub reads : ReadableAt s info 4
  pub fits : is_fit (verdict reads.datainfo xs) ≡ true

-- the buffer held `before` and holds `after`: the stored form of a text, by the datainfo that o reads, was written at a position; it is
-- at most 256 bytes
pub record PutsForm (o : Option (Datainfo × List ℕ)) (xs before : List ℕ) (at : ℕ) (after : List ℕ) (end : ℕ) : Type 0 where
  pub order : at ≤ end
  pub short : end ≤ at + 256
  pub is : {d : Datainfo} {x : List ℕ} → o ≡ Some (d, x) → Puts before at (stored_form d xs) after end

-- r is whether a text is the stored form of itself, by the datainfo that o reads
pub record TellsOwn (o : Option (Datainfo × List ℕ)) (xs : List ℕ) (r : Bool) : Type 0 where
  pub is : {d : Datainfo} {x : List ℕ} → o ≡ Some (d, x) → r ≡ same (stored_form d xs) xs
