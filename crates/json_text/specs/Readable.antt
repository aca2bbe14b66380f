-- Trees whose compact text is read: every number is a number's token, every string and key is the bytes between two quotes, and arrays and objects
-- are nested at most n levels deep. Assumes nothing.
use Rattle.std.specs.Prelude.{ℕ, zero, suc, List, [], ◌∷◌, ◌++◌, ◌≡◌, Some}
use Rattle.decimal.specs.Token as Token
use Rattle.json_text.specs.Json.{Json, null, boolean, number, string, array, object, Items, no_items, item, Members, no_members, member, string_end}

-- a number's token, and nothing after it
abbrev pub IsToken : List ℕ → Type 0
IsToken t = Token.number t ≡ Some []

-- the bytes of a string, escapes as they stand: the quote (34) behind them is the first that ends it
abbrev pub IsRaw : List ℕ → Type 0
IsRaw s = string_end (s ++ (34 ∷ [])) ≡ Some []

abbrev mutual
  pub Readable : ℕ → Json → Type 0
  Readable n null = Unit {0}
  Readable n (boolean b) = Unit {0}
  Readable n (number t) = IsToken t
  Readable n (string s) = IsRaw s
  Readable zero (array is) = ⊥
  Readable (suc n) (array is) = ReadableItems n is
  Readable zero (object ms) = ⊥
  Readable (suc n) (object ms) = ReadableMembers n ms

  pub ReadableItems : ℕ → Items → Type 0
  ReadableItems n no_items = Unit {0}
  ReadableItems n (item v is) = Readable n v × ReadableItems n is

  pub ReadableMembers : ℕ → Members → Type 0
  ReadableMembers n no_members = Unit {0}
  ReadableMembers n (member k v ms) = IsRaw k × Readable n v × ReadableMembers n ms
