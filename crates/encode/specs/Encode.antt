-- How a table is written in bytes: the layout that `table/Layout` reads, as an encoder (document 01, "The table"; M-104, M-107, M-113).
-- Assumes nothing.
use Rattle.std.specs.Prelude.{ℕ, zero, suc, ◌+◌, ◌*◌, ◌-◌, ◌/◌, ◌%◌, ◌^◌, Bool, true, false, cond, List, [], ◌∷◌}
use Rattle.std.specs.Prelude.{◌++◌, ℤ, pos, negsuc, length, drop, Option, Some, None}
use Rattle.ascii.specs.Text.{bytes}
use Rattle.ascii.specs.Bytes.{same}
use Rattle.decimal.specs.Decimal.{Decimal}
use Rattle.datainfo.specs.Datainfo.{Variant, Datainfo, double, int, bool, enum, string, array, tuple, struct, scaled, blob, partial, Elements, no_elements}
use Rattle.datainfo.specs.Datainfo.{element, Fields, no_fields, field, element_count, field_names}
use Rattle.table.specs.Table.{Parameter, Command, Accessible, parameter, command, Module, Table, with_modules}

-- ## Numbers: "numbers big-endian, signed ones in two's complement"

-- n in k bytes
unfoldable pub unsigned_bytes : ℕ → ℕ → List ℕ
unsigned_bytes zero n = []
unsigned_bytes (suc k) n = unsigned_bytes k (n / 256) ++ (n % 256 ∷ [])

-- a signed number in k bytes [T-2]
unfoldable pub signed_bytes : ℕ → ℤ → List ℕ
signed_bytes k (pos n) = unsigned_bytes k n
signed_bytes k (negsuc n) = unsigned_bytes k (2 ^ (8 * k) - 1 - n)

-- a "byte 0 or 1"
unfoldable pub flag_byte : Bool → ℕ
flag_byte b = cond b 1 0

-- ""Name" and "text" are a length byte and that many bytes."
unfoldable pub text_bytes : List ℕ → List ℕ
text_bytes xs = length xs ∷ xs

-- ## "Datainfo: a type byte, then:"

-- "each an i64 mantissa and an i8 power of ten"
unfoldable pub limit_bytes : Decimal → List ℕ
limit_bytes a = signed_bytes 8 a.whole ++ signed_bytes 1 a.power

-- "each name and i32"
unfoldable pub variants_bytes : List Variant → List ℕ
variants_bytes [] = []
variants_bytes (v ∷ vs) = text_bytes v.name ++ signed_bytes 4 v.number ++ variants_bytes vs

-- whether k is the next of the optional names, which stand in table order; and those that are left after it
unfoldable pub is_next : List ℕ → List (List ℕ) → Bool
is_next k [] = false
is_next k (n ∷ ns) = same k n

unfoldable pub after_next : List ℕ → List (List ℕ) → List (List ℕ)
after_next k ns = cond (is_next k ns) (drop 1 ns) ns

unfoldable mutual
  -- the type byte and what the type has [T-14]
  pub datainfo_bytes : Datainfo → List ℕ
  -- "1 double: min, max", "2 int: min, max i64", "3 bool"
  datainfo_bytes (double lo hi) = 1 ∷ limit_bytes lo ++ limit_bytes hi
  datainfo_bytes (int lo hi) = 2 ∷ signed_bytes 8 lo ++ signed_bytes 8 hi
  datainfo_bytes bool = 3 ∷ []
  -- "4 enum: count byte 1 to 32, each name and i32"
  datainfo_bytes (enum vs) = 4 ∷ length vs ∷ variants_bytes vs
  -- "5 string: u16 minchars, maxchars"
  datainfo_bytes (string lo hi) = 5 ∷ unsigned_bytes 2 lo ++ unsigned_bytes 2 hi
  -- "6 array: u16 minlen, maxlen, one datainfo"
  datainfo_bytes (array lo hi d) = 6 ∷ unsigned_bytes 2 lo ++ unsigned_bytes 2 hi ++ datainfo_bytes d
  -- "7 tuple: count byte 1 to 8, datainfos"
  datainfo_bytes (tuple ds) = 7 ∷ element_count ds ∷ elements_bytes ds
  -- "8 struct: count byte 1 to 8, each name and datainfo"
  datainfo_bytes (struct fs) = 8 ∷ length (field_names fs) ∷ fields_bytes fs
  -- "Scaled, type 9: a positive decimal scale (as double's limits), then min and max i64"
  datainfo_bytes (scaled s lo hi) = 9 ∷ limit_bytes s ++ signed_bytes 8 lo ++ signed_bytes 8 hi
  -- "Blob, type 10: u16 minbytes, maxbytes"
  datainfo_bytes (blob lo hi) = 10 ∷ unsigned_bytes 2 lo ++ unsigned_bytes 2 hi
  -- "type 11: as type 8, with a byte 0 or 1 before each name, 1 for optional"
  datainfo_bytes (partial ns fs) = 11 ∷ length (field_names fs) ∷ flagged_bytes ns fs

  pub elements_bytes : Elements → List ℕ
  elements_bytes no_elements = []
  elements_bytes (element d ds) = datainfo_bytes d ++ elements_bytes ds

  pub fields_bytes : Fields → List ℕ
  fields_bytes no_fields = []
  fields_bytes (field k d fs) = text_bytes k ++ datainfo_bytes d ++ fields_bytes fs

  -- of members of which those named are optional
  pub flagged_bytes : List (List ℕ) → Fields → List ℕ
  flagged_bytes ns no_fields = []
  flagged_bytes ns (field k d fs) = flag_byte (is_next k ns) ∷ text_bytes k ++ datainfo_bytes d ++ flagged_bytes (after_next k ns) fs

-- ## "Records, each after a two-byte mark"

-- "`PA`: name, text description, byte readonly (0 or 1), datainfo, u16 length and initial value.": what stands before the value, and all
unfoldable pub before_initial : Parameter → List ℕ
before_initial p =
    bytes "PA" ++ text_bytes p.name ++ text_bytes p.description ++ (flag_byte p.readonly ∷ []) ++ datainfo_bytes p.datainfo
    ++ unsigned_bytes 2 (length p.initial)

unfoldable pub parameter_bytes : Parameter → List ℕ
parameter_bytes p = before_initial p ++ p.initial

-- "byte 0 or 1, and a datainfo for the argument if 1"
unfoldable pub argument_bytes : Option Datainfo → List ℕ
argument_bytes None = flag_byte false ∷ []
argument_bytes (Some d) = flag_byte true ∷ datainfo_bytes d

-- "`CM`: name, text description", and so on
unfoldable pub command_bytes : Command → List ℕ
command_bytes c = bytes "CM" ++ text_bytes c.name ++ text_bytes c.description ++ argument_bytes c.argument

unfoldable pub accessible_bytes : Accessible → List ℕ
accessible_bytes (parameter p) = parameter_bytes p
accessible_bytes (command c) = command_bytes c

unfoldable pub accessibles_bytes : List Accessible → List ℕ
accessibles_bytes [] = []
accessibles_bytes (a ∷ rest) = accessible_bytes a ++ accessibles_bytes rest

-- a text after a mark, if there is one
unfoldable pub marked_bytes : List ℕ → Option (List ℕ) → List ℕ
marked_bytes mark None = []
marked_bytes mark (Some x) = mark ++ text_bytes x

-- "`MO`: name, text description.", and "`NO`: text, a note. At most one, straight after an `MO`."
unfoldable pub heading_bytes : Module → List ℕ
heading_bytes m = bytes "MO" ++ text_bytes m.name ++ text_bytes m.description ++ marked_bytes (bytes "NO") m.note

-- "`PA` and `CM` belong to the latest `MO`."
unfoldable pub module_bytes : Module → List ℕ
module_bytes m = heading_bytes m ++ accessibles_bytes m.accessibles

unfoldable pub modules_bytes : List Module → List ℕ
modules_bytes [] = []
modules_bytes (m ∷ ms) = module_bytes m ++ modules_bytes ms

-- "`ND`: text equipment id, text description. First, once.", and "one record `ED`, straight after `ND`" (M-107)
unfoldable pub head_bytes : Table → List ℕ
head_bytes t = bytes "ND" ++ text_bytes t.equipment_id ++ text_bytes t.description ++ marked_bytes (bytes "ED") t.edition

-- the whole table; "`EN`: last; nothing follows." [T-3]
unfoldable pub encode : Table → List ℕ
encode t = head_bytes t ++ modules_bytes t.modules ++ bytes "EN"

-- ## Where initial values lie: a tree may name any place, and these are the encoding's; n is where the record or the first of the records begins

abbrev pub with_place : Parameter → ℕ → Parameter
with_place p n =
    record {
      name = p.name;
      description = p.description;
      readonly = p.readonly;
      datainfo = p.datainfo;
      initial = p.initial;
      place = n;
    }

unfoldable pub placed_accessible : ℕ → Accessible → Accessible
placed_accessible n (parameter p) = parameter (with_place p (n + length (before_initial p)))
placed_accessible n (command c) = command c

unfoldable pub placed_accessibles : ℕ → List Accessible → List Accessible
placed_accessibles n [] = []
placed_accessibles n (a ∷ rest) = placed_accessible n a ∷ placed_accessibles (n + length (accessible_bytes a)) rest

unfoldable pub placed_module : ℕ → Module → Module
placed_module n m =
    record {
      name = m.name;
      description = m.description;
      note = m.note;
      accessibles = placed_accessibles (n + length (heading_bytes m)) m.accessibles;
    }

unfoldable pub placed_modules : ℕ → List Module → List Module
placed_modules n [] = []
placed_modules n (m ∷ ms) = placed_module n m ∷ placed_modules (n + length (module_bytes m)) ms

-- the table with each `place` where its encoding has the initial value
unfoldable pub placed : Table → Table
placed t = with_modules t (placed_modules (length (head_bytes t)) t.modules)
