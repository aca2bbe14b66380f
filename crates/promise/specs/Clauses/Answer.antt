-- Answers of the code: one that uses 0 bytes, writes 0 and seeks nothing, and an accepted call's. Assumes nothing.
use Rattle.std.specs.Prelude.{ℕ, List}
use Rattle.state.specs.declared.State.{State}
use Rattle.state.specs.Clauses.Bare.{lined}
use Rattle.promise.specs.declared.BareDone.{BareDone}
use Rattle.promise.specs.declared.Done.{Done}

abbrev pub quiet_done : ℕ → State → Done
quiet_done number s = record { number = number; used = 0; written = 0; steps = 0; state = s }

abbrev pub done_with : ℕ → ℕ → ℕ → State → Done
done_with used written steps s = record { number = 0; used = used; written = written; steps = steps; state = s }

-- an answer without the lines, with these
abbrev pub done_by : BareDone → List ℕ → Done
done_by r lines = record { number = r.number; used = r.used; written = r.written; steps = r.steps; state = lined r.state lines }
