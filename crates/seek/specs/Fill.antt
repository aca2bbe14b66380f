-- Filling an index from a table (request M-105). Assumes nothing.
use Rattle.std.specs.Prelude.{ℕ, ◌≡◌, cond, List, [], ◌∷◌, ◌++◌, ltb, eqb, length, drop}
use Rattle.table.specs.Layout.{table_of}
use Rattle.report.specs.Judge.{fault, first_fault, table_number}
use Rattle.index.specs.Accessibles.{index_of}

-- "1 to 6, then 18", which is "index under 128 bytes" [I-4]
unfoldable pub fill_number : List ℕ → List ℕ → ℕ
fill_number table index = first_fault (table_number table ∷ fault 18 (ltb (length index) 128) ∷ [])

-- "a refused one .. writes nothing"; an accepted one writes the first 128 bytes and no other [I-4]
unfoldable pub index_after : List ℕ → List ℕ → List ℕ
index_after table index = cond (eqb (fill_number table index) 0) (index_of (table_of table) ++ drop 128 index) index

-- what a filling answers, and what the index held before it and holds after it [I-4]
pub record Fills (table before after : List ℕ) (number : ℕ) : Type 0 where
  pub is : number ≡ fill_number table before
  pub index : after ≡ index_after table before
