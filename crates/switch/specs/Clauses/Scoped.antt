-- What the code that switches one module is given. Assumes nothing.
use Rattle.std.specs.Prelude.{ℕ, ◌<◌, true, List, ◌≡◌}
use Rattle.ascii.specs.Names.{is_name}

-- of so many modules the one of number i, and a name that can be written
pub record Scoped (modules i : ℕ) (m : List ℕ) : Type 0 where
  pub low : i < modules
  pub named : is_name m ≡ true
