-- Tables and their bytes, worked out by hand from the documents. Assumes nothing.
use Rattle.std.specs.Prelude.{ℕ, Bool, true, false, List, [], ◌∷◌, ◌++◌, ◌≡◌, pos, negsuc, Some, None}
use Prim.Native.String.{String}
use Rattle.ascii.specs.Text.{bytes}
use Rattle.ascii.specs.Bytes.{is_some}
use Rattle.decimal.specs.Decimal.{from_integer}
use Rattle.datainfo.specs.Datainfo.{Datainfo, double, int, bool, enum, string, array, tuple, struct, scaled, blob, partial, no_elements, element, no_fields}
use Rattle.datainfo.specs.Datainfo.{field}
use Rattle.table.specs.Table.{Accessible, parameter, command, Table}
use Rattle.table.specs.Layout.{read_table}
use Rattle.encode.specs.Encode.{encode}

-- a parameter, with no place
abbrev pub shown : String → String → Bool → Datainfo → String → Accessible
shown name description readonly datainfo initial =
    parameter (record {
      name = bytes name;
      description = bytes description;
      readonly = readonly;
      datainfo = datainfo;
      initial = bytes initial;
      place = 0;
    })

-- ## The table of document 01's whole report, with the initial values 0

unfoldable pub demo : Table
demo =
    record {
      equipment_id = bytes "demo";
      description = bytes "one stage";
      edition = None;
      modules =
          record {
            name = bytes "t1";
            description = bytes "stage";
            note = None;
            accessibles =
                shown "value" "reading" true (double (from_integer (pos 0)) (from_integer (pos 300))) "0"
                ∷ shown "mode" "heater" false
                (enum (record { name = bytes "off"; number = pos 0 } ∷ record { name = bytes "on"; number = pos 1 } ∷ [])) "0"
                ∷ command (record { name = bytes "stop"; description = bytes "stop"; argument = None })
                ∷ [];
          }
          ∷ [];
    }

unfoldable pub demo_bytes : List ℕ
demo_bytes =
    bytes "ND\u{4}demo\tone stage" ++ bytes "MO\u{2}t1\u{5}stage" ++ bytes "PA\u{5}value\u{7}reading\u{1}"
    ++ bytes "\u{1}\0\0\0\0\0\0\0\0\0\0\0\0\0\0\0\u{1},\0" ++ bytes "\0\u{1}0" ++ bytes "PA\u{4}mode\u{6}heater\0"
    ++ bytes "\u{4}\u{2}\u{3}off\0\0\0\0\u{2}on\0\0\0\u{1}" ++ bytes "\0\u{1}0" ++ bytes "CM\u{4}stop\u{4}stop\0" ++ bytes "EN"

-- ## An edition, a note, an argument, the other types, and numbers below 0

unfoldable pub rich : Table
rich =
    record {
      equipment_id = bytes "all";
      description = [];
      edition = Some (bytes "ISSE,SECoP,x");
      modules =
          record {
            name = bytes "m";
            description = [];
            note = Some (bytes "n");
            accessibles =
                shown "s" "" false
                (partial (bytes "b" ∷ [])
                (field (bytes "a") (scaled (record { whole = pos 1; power = negsuc 2 }) (negsuc 0) (pos 1)) (field (bytes "b") (blob 0 4) no_fields)))
                "{\"a\":0,\"b\":\"\"}"
                ∷ shown "p" "" true (tuple (element (string 1 256) (element (array 0 2 bool) no_elements))) "[\"x\",[]]"
                ∷ shown "e" "" false (enum (record { name = bytes "x"; number = negsuc 0 } ∷ [])) "-1"
                ∷ command (record {
                  name = bytes "go";
                  description = [];
                  argument = Some (struct (field (bytes "k") (int (negsuc 1) (pos 2)) no_fields));
                })
                ∷ [];
          }
          ∷ [];
    }

unfoldable pub rich_bytes : List ℕ
rich_bytes =
    bytes "ND\u{3}all\0" ++ bytes "ED\u{c}ISSE,SECoP,x" ++ bytes "MO\u{1}m\0" ++ bytes "NO\u{1}n" ++ bytes "PA\u{1}s\0\0" ++ bytes "\u{b}\u{2}"
    ++ bytes "\0\u{1}a" ++ bytes "\t\0\0\0\0\0\0\0\u{1}ýÿÿÿÿÿÿÿÿ\0\0\0\0\0\0\0\u{1}"
    ++ bytes "\u{1}\u{1}b" ++ bytes "\n\0\0\0\u{4}" ++ bytes "\0\u{e}{\"a\":0,\"b\":\"\"}" ++ bytes "PA\u{1}p\0\u{1}" ++ bytes "\u{7}\u{2}"
    ++ bytes "\u{5}\0\u{1}\u{1}\0" ++ bytes "\u{6}\0\0\0\u{2}\u{3}" ++ bytes "\0\u{8}[\"x\",[]]" ++ bytes "PA\u{1}e\0\0"
    ++ bytes "\u{4}\u{1}\u{1}xÿÿÿÿ" ++ bytes "\0\u{2}-1" ++ bytes "CM\u{2}go\0\u{1}" ++ bytes "\u{8}\u{1}\u{1}k"
    ++ bytes "\u{2}ÿÿÿÿÿÿÿþ\0\0\0\0\0\0\0\u{2}" ++ bytes "EN"

abbrev pub ExamplesAreEncoded : Type 0
ExamplesAreEncoded = (encode demo ≡ demo_bytes) × (encode rich ≡ rich_bytes)

-- ## Why names must be good (number 3): a struct with the member `a` twice, of which the first or the second is optional

unfoldable pub doubled : String → String → List ℕ
doubled first second =
    bytes "ND\0\0MO\u{1}m\0PA\u{1}p\0\0\u{b}\u{2}" ++ bytes first ++ bytes "\u{1}a\u{3}" ++ bytes second ++ bytes "\u{1}a\u{3}" ++ bytes "\0\0EN"

-- both can be read, as one table: of a refused table the bytes may be others than its encoding
abbrev pub RepeatedNamesAreReadAlike : Type 0
RepeatedNamesAreReadAlike =
    (read_table (doubled "\u{1}" "\0") ≡ read_table (doubled "\0" "\u{1}")) × (is_some (read_table (doubled "\u{1}" "\0")) ≡ true)
