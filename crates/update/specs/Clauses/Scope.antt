-- The modules whose parameters are sent. Assumes nothing.
use Rattle.std.specs.Prelude.{ℕ, Bool, true, eqb}
use Rattle.update.specs.declared.Scope.{Scope}
use Rattle.update.specs.declared.Scope.TheVariants.{All, Module}

-- the modules that a scope has, by their numbers
abbrev pub wanted : Scope → ℕ → Bool
wanted All i = true
wanted (Module n) i = eqb i n
