-- Which trees the layout has room for: what number 1 asks, of a tree. A tree that the rules of its own accept (numbers 2 to 6) may still have a
-- text, a number or a level for which no bytes stand. Each test is the width of a field; where a rule is narrower (names, counts, powers, initial
-- values) there is none. Assumes nothing.
use Rattle.std.specs.Prelude.{ℕ, suc, max, ◌*◌, ◌-◌, ◌^◌, Bool, true, false, ◌&&◌, List, [], ◌∷◌, leb, ltb, ℤ, pos, negsuc, length, Option, Some, None}
use Rattle.ascii.specs.Bytes.{all}
use Rattle.decimal.specs.Decimal.{Decimal}
use Rattle.datainfo.specs.Datainfo.{Variant, Datainfo, double, int, bool, enum, string, array, tuple, struct, scaled, blob, partial, Elements, no_elements}
use Rattle.datainfo.specs.Datainfo.{element, Fields, no_fields, field, field_names}
use Rattle.table.specs.Table.{Accessible, parameter, command, Module, Table}
use Rattle.table.specs.Rules.{if_any}
use Rattle.encode.specs.Encode.{after_next, encode}

-- "a length byte"
unfoldable pub text_fits : List ℕ → Bool
text_fits xs = leb (length xs) 255

unfoldable pub option_fits : Option (List ℕ) → Bool
option_fits None = true
option_fits (Some x) = text_fits x

-- a number of k bytes, unsigned (u16) or signed (i64, i32)
unfoldable pub unsigned_fits : ℕ → ℕ → Bool
unsigned_fits k n = ltb n (2 ^ (8 * k))

unfoldable pub signed_fits : ℕ → ℤ → Bool
signed_fits k (pos n) = ltb n (2 ^ (8 * k - 1))
signed_fits k (negsuc n) = ltb n (2 ^ (8 * k - 1))

-- "an i64 mantissa"
unfoldable pub limit_fits : Decimal → Bool
limit_fits a = signed_fits 8 a.whole

-- "a byte 0 or 1 before each name, 1 for optional": of members named ks the optional names ns are some, in the same order
unfoldable pub in_order : List (List ℕ) → List (List ℕ) → Bool
in_order [] [] = true
in_order [] (n ∷ ns) = false
in_order (k ∷ ks) ns = in_order ks (after_next k ns)

-- its levels: "a plain type is one"
unfoldable mutual
  pub levels : Datainfo → ℕ
  levels (double lo hi) = 1
  levels (int lo hi) = 1
  levels bool = 1
  levels (enum vs) = 1
  levels (string lo hi) = 1
  levels (array lo hi d) = suc (levels d)
  levels (tuple ds) = suc (elements_levels ds)
  levels (struct fs) = suc (fields_levels fs)
  levels (scaled s lo hi) = 1
  levels (blob lo hi) = 1
  levels (partial ns fs) = suc (fields_levels fs)

  pub elements_levels : Elements → ℕ
  elements_levels no_elements = 0
  elements_levels (element d ds) = max (levels d) (elements_levels ds)

  pub fields_levels : Fields → ℕ
  fields_levels no_fields = 0
  fields_levels (field k d fs) = max (levels d) (fields_levels fs)

-- its numbers, at each level
unfoldable mutual
  pub numbers_fit : Datainfo → Bool
  numbers_fit (double lo hi) = limit_fits lo && limit_fits hi
  numbers_fit (int lo hi) = signed_fits 8 lo && signed_fits 8 hi
  numbers_fit bool = true
  numbers_fit (enum vs) = all (λ (v : Variant). signed_fits 4 v.number) vs
  numbers_fit (string lo hi) = unsigned_fits 2 lo && unsigned_fits 2 hi
  numbers_fit (array lo hi d) = unsigned_fits 2 lo && unsigned_fits 2 hi && numbers_fit d
  numbers_fit (tuple ds) = elements_fit ds
  numbers_fit (struct fs) = fields_fit fs
  numbers_fit (scaled s lo hi) = limit_fits s && signed_fits 8 lo && signed_fits 8 hi
  numbers_fit (blob lo hi) = unsigned_fits 2 lo && unsigned_fits 2 hi
  numbers_fit (partial ns fs) = in_order (field_names fs) ns && fields_fit fs

  pub elements_fit : Elements → Bool
  elements_fit no_elements = true
  elements_fit (element d ds) = numbers_fit d && elements_fit ds

  pub fields_fit : Fields → Bool
  fields_fit no_fields = true
  fields_fit (field k d fs) = numbers_fit d && fields_fit fs

-- "At most four levels"
unfoldable pub datainfo_fits : Datainfo → Bool
datainfo_fits d = numbers_fit d && leb (levels d) 4

unfoldable pub accessible_fits : Accessible → Bool
accessible_fits (parameter p) = text_fits p.description && datainfo_fits p.datainfo
accessible_fits (command c) = text_fits c.description && if_any datainfo_fits c.argument

unfoldable pub module_fits : Module → Bool
module_fits m = text_fits m.description && option_fits m.note && all accessible_fits m.accessibles

unfoldable pub head_fits : Table → Bool
head_fits t = text_fits t.equipment_id && text_fits t.description && option_fits t.edition

-- not number 1: "table over 16,384 bytes, or its layout can't be read" [T-1, T-6]
unfoldable pub has_layout : Table → Bool
has_layout t = head_fits t && all module_fits t.modules && leb (length (encode t)) 16384
