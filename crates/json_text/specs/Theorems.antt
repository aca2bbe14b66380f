-- What is proved of the definitions of this layer. Assumes nothing.
use Rattle.std.specs.Prelude.{ℕ, ◌≤◌, true, List, ◌≡◌, length, Some}
use Rattle.ascii.specs.Bytes.{all, is_printable}
use Rattle.json_text.specs.Json.{Json, chars, string_end, items, members, value, text, compact}
use Rattle.json_text.specs.Readable.{Readable}

-- What is read can be read again from its compact text: it is a tree of tokens, raw strings and at most eight levels. Of any such tree, also one that
-- no text was read as (with names exchanged for numbers, with members of another tree, in another order), the compact text is read as that tree.
pub record ReadableTrees : Type 0 where
  pub of_texts : (xs : List ℕ) (v : Json) → text xs ≡ Some v → Readable 8 v
  pub read_back : (v : Json) → Readable 8 v → text (compact v) ≡ Some v

-- The compact text of a value that was read is read as the same value: writing it again changes nothing.
abbrev pub CompactIsReadBack : Type 0
CompactIsReadBack = (xs : List ℕ) (v : Json) → text xs ≡ Some v → text (compact v) ≡ Some v

-- The counts by which strings, items and members are read never cut a text short: any count that is no less than the number of bytes reads
-- the same.
pub record CountsNeverCut : Type 0 where
  pub strings : (n : ℕ) (xs : List ℕ) → length xs ≤ n → string_end xs ≡ chars n xs
  pub of_items : (d n : ℕ) (xs : List ℕ) → length xs ≤ n → items (value d) (length xs) xs ≡ items (value d) n xs
  pub of_members : (d n : ℕ) (xs : List ℕ) → length xs ≤ n → members (value d) (length xs) xs ≡ members (value d) n xs

-- "a byte outside 32 to 126 in any value" counts as BadJSON: every byte of a text that is JSON is within.
abbrev pub TextsArePrintable : Type 0
TextsArePrintable = (xs : List ℕ) (v : Json) → text xs ≡ Some v → all is_printable xs ≡ true
