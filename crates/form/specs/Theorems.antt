-- What is proved of stored forms. Assumes nothing.
use Rattle.std.specs.Prelude.{ℕ, ◌≤◌, true, List, ◌≡◌, length, Option, Some, None}
use Rattle.json_text.specs.Json.{Json, text, compact}
use Rattle.json_text.specs.Readable.{Readable}
use Rattle.datainfo.specs.Datainfo.{Datainfo}
use Rattle.datainfo.specs.Layout.{datainfo_in}
use Rattle.datainfo.specs.Rules.{names_good}
use Rattle.fit.specs.Fit.{fits, fit, numbered, stored, value_verdict, verdict, stored_form, is_fit, is_stored, change_verdict, change_form}
use Rattle.form.specs.Numbers.{numbers_only}

-- a datainfo that is read from the table's bytes, with good names: number 1 and number 3 ask for no less
pub record InTable (d : Datainfo) : Type 0 where
  pub levels : ℕ
  pub bytes : List ℕ
  pub left : List ℕ
  pub read : datainfo_in levels bytes ≡ Some (d, left)
  pub names : names_good d ≡ true

-- what is shown: nothing, or a value that was read
abbrev pub ReadableShown : Option Json → Type 0
ReadableShown None = Unit {0}
ReadableShown (Some v) = Readable 8 v

-- What is let in is stored in stored form (M-101: with numbers for names; M-113: a top-level type 11 with its members in table order).
pub record StoredForms : Type 0 where
  -- the text that is stored is read as the very tree; with numbers for names alone, whether the value fits or not
  pub read_back : (d : Datainfo) (v : Json) → Readable 8 v → fit d v ≡ fits → text (compact (stored d v)) ≡ Some (stored d v)
  pub numbers_back : (d : Datainfo) (v : Json) → Readable 8 v → text (compact (numbered d v)) ≡ Some (numbered d v)
  -- storing it again changes nothing
  pub again : (d : Datainfo) (v : Json) → stored d (stored d v) ≡ stored d v
  -- it fits, and has numbers and no names where the datainfo has enums
  pub fit : (d : Datainfo) (v : Json) → InTable d → value_verdict d v ≡ fits → value_verdict d (stored d v) ≡ fits
  pub numbers : (d : Datainfo) (v : Json) → InTable d → value_verdict d v ≡ fits → numbers_only d (stored d v) ≡ true
  -- of texts: the form of what is let in is in stored form, and at most 256 bytes
  pub forms : (d : Datainfo) (xs : List ℕ) → InTable d → is_fit (verdict d xs) ≡ true → is_stored d (stored_form d xs) ≡ true
  pub short : (d : Datainfo) (xs : List ℕ) → is_fit (verdict d xs) ≡ true → length (stored_form d xs) ≤ 256
  -- the same of a change, with what it leaves out taken from what is shown
  pub changes : (shown : Option Json) (d : Datainfo) (xs : List ℕ) → ReadableShown shown → InTable d → is_fit (change_verdict shown d xs) ≡ true
      → is_stored d (change_form shown d xs) ≡ true
  pub short_changes : (shown : Option Json) (d : Datainfo) (xs : List ℕ) → is_fit (change_verdict shown d xs) ≡ true → length (change_form shown d xs) ≤ 256
  -- a text in stored form is its own stored form, is at most 256 bytes, and is a value that storing leaves as it is, with numbers only
  pub own : (d : Datainfo) (xs : List ℕ) → is_stored d xs ≡ true → stored_form d xs ≡ xs
  pub own_short : (d : Datainfo) (xs : List ℕ) → is_stored d xs ≡ true → length xs ≤ 256
  pub own_value : (d : Datainfo) (xs : List ℕ) → is_stored d xs ≡ true → (v : Json) → text xs ≡ Some v → v ≡ stored d v
  pub own_numbers : (d : Datainfo) (xs : List ℕ) (v : Json) → InTable d → is_stored d xs ≡ true → text xs ≡ Some v → numbers_only d v ≡ true
