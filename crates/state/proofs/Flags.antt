-- Laws of tests joined by "or". Assumes nothing.
use mathlib.Core.Path.{◌≡◌}
use mathlib.Core.Bool.{Bool, false, ◌||◌}

pub nor : {a b : Bool} → a ≡ false → b ≡ false → a || b ≡ false
nor p q = rw (p, q)
