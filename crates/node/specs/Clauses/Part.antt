-- What the code that shows a value answers: the part of a buffer where it lies. Assumes nothing.
use Rattle.std.specs.Prelude.{ℕ, ◌-◌, cond, eqb, get_or}
use Rattle.table.specs.declared.layout.Part.{Part}
use Rattle.state.specs.declared.Settings.{Settings}
use Rattle.state.specs.View.{place_of}
use Rattle.promise.specs.declared.Shown.{Shown}
use Rattle.promise.specs.Shown.{error_of}

-- parameter k, whose initial value is a part of the table: never set, it shows that part; else a part of its place in the values area
unfoldable pub part_shown : Settings → ℕ → Part → Shown
part_shown s k initial =
    cond
    (eqb (get_or s.length k 0) 0)
    (record { number = 0; stored = 0; error = 0; from = initial.from; size = initial.to - initial.from; time = get_or s.time k 0 })
    (record { number = 0; stored = 1; error = 0; from = place_of k; size = get_or s.length k 0; time = get_or s.time k 0 })

-- unless it is in error
unfoldable pub held_shown : Settings → ℕ → Part → Shown
held_shown s k initial = cond (eqb (get_or s.error k 0) 0) (part_shown s k initial) (error_of s k)
