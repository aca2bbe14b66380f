-- What is proved of the layout: an encoded table is read back, and bytes that are accepted are the encoding of the table that they are read as. So
-- accepted bytes and accepted trees stand for each other, one to one. Assumes nothing.
use Rattle.std.specs.Prelude.{ℕ, true, List, ◌≡◌, Some}
use Rattle.std.proofs.Math.Pow.{are_bytes}
use Rattle.table.specs.Table.{Table}
use Rattle.table.specs.Layout.{read_table}
use Rattle.report.specs.Judge.{tree_number, table_number}
use Rattle.encode.specs.Encode.{encode, placed}
use Rattle.encode.specs.Fits.{has_layout}

-- The bytes of a table: each is below 256 (`are_bytes`), read they are that table, with nothing left over (each `place` is where they have the initial
-- value), and they are accepted.
pub record ReadBack (t : Table) : Type 0 where
  pub bytes : are_bytes (encode t) ≡ true
  pub read : read_table (encode t) ≡ Some (placed t)
  pub accepted : table_number (encode t) ≡ 0

-- Reading an encoded table gives it back, for every table that the rules accept: numbers 2 to 6 by `tree_number`, number 1 by `has_layout`.
abbrev pub EncodedTablesAreReadBack : Type 0
EncodedTablesAreReadBack = (t : Table) → tree_number t ≡ 0 → has_layout t ≡ true → ReadBack t

-- The table that bytes are read as: its encoding is these bytes, the layout has room for it, and its places are those of the encoding.
pub record EncodedAgain (xs : List ℕ) (t : Table) : Type 0 where
  pub is : encode t ≡ xs
  pub fits : has_layout t ≡ true
  pub places : placed t ≡ t

-- Accepted bytes are the encoding of the table that they are read as. So `has_layout` asks for nothing that an accepted table might lack.
abbrev pub AcceptedBytesAreEncoded : Type 0
AcceptedBytesAreEncoded = (xs : List ℕ) (t : Table) → are_bytes xs ≡ true → read_table xs ≡ Some t → tree_number t ≡ 0 → EncodedAgain xs t

-- So no two tables' bytes are read as one accepted table.
abbrev pub TablesHaveOneLayout : Type 0
TablesHaveOneLayout = (xs ys : List ℕ) (t : Table) → are_bytes xs ≡ true → are_bytes ys ≡ true → tree_number t ≡ 0
    → read_table xs ≡ Some t → read_table ys ≡ Some t → xs ≡ ys
