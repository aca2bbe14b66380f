-- The lines of M-111 as the code writes them, from what is kept of each parameter's settings. Assumes nothing.
use Rattle.std.specs.Prelude.{ℕ, suc, ◌≤◌, ◌<◌, Bool, List, [], ◌∷◌, ◌++◌, ◌≡◌, length}
use Rattle.table.specs.Table.{Parameter}
use Rattle.table.specs.Layout.{table_of}
use Rattle.table.specs.Search.{Placed, parameters}
use Rattle.table.specs.Clauses.At.{bytes_of}
use Rattle.table.specs.declared.layout.ParameterAt.{ParameterAt}
use Rattle.search.specs.declared.cursor.Cursor.{Cursor}
use Rattle.search.specs.Clauses.Left.{Fits, ParameterIn}
use Rattle.report.specs.Judge.{table_number}
use Rattle.figures.specs.declared.Figures.{Figures}
use Rattle.figures.specs.Figures.{is_summed}
use Rattle.figures.specs.Clauses.Tally.{tally_at, tally_line, Bounded}
use Rattle.emit.specs.Clauses.Emitted.{Emits}

unfoldable pub tally_lines : Figures → ℕ → List (Placed Parameter) → List ℕ
tally_lines f k [] = []
tally_lines f k (p ∷ ps) = tally_line p.module_name p.it.name (is_summed p.it.datainfo) (tally_at f k) ++ tally_lines f (suc k) ps

-- of all parameters
abbrev pub figures_of : List ℕ → Figures → List ℕ
figures_of table f = tally_lines f 0 (parameters (table_of table))

-- a parameter by its positions
pub record Placing (table : List ℕ) (k : ℕ) (q : ParameterAt) (e : Cursor) : Type 0 where
  pub low : k < 64
  pub held : ParameterIn table q
  pub fits : Fits table e

-- its line was written, by the datainfo that is read there
pub record Tells (table : List ℕ) (f : Figures) (k : ℕ) (q : ParameterAt) (e : Cursor) (before : List ℕ) (at : ℕ) (after : List ℕ) (end : ℕ) : Type 0 where
  pub is : (h : ParameterIn table q)
      → Emits before at (tally_line (bytes_of table e.name) (bytes_of table q.name) (is_summed h.datainfo) (tally_at f k)) after end

-- what the code that writes all of them is given
pub record Tellable (table : List ℕ) (f : Figures) (out : List ℕ) : Type 0 where
  pub accepted : table_number table ≡ 0
  pub bounded : Bounded f
  pub room : 32768 ≤ length out
