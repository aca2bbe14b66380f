-- What the code that lets a line's data in answers. Assumes nothing.
use Rattle.std.specs.Prelude.{ℕ, ◌≡◌, Bool, false, cond, List, Option, Some, Result, Ok, Err}
use Rattle.datainfo.specs.Datainfo.{Datainfo}
use Rattle.fit.specs.Fit.{Verdict, fits, verdict}
use Rattle.message.specs.Error.{class, ReadOnly}
use Rattle.message.specs.Clauses.Said.{class_of}
use Rattle.plain.specs.Answer.{Outcome, denied, let_in}
use Rattle.message.specs.declared.say.Class.{Class}

-- what is read only, or has this verdict, is let in or denied
abbrev pub Lets : Bool → Verdict → Result Unit Class → Type 0
Lets readonly v (Ok _) = (readonly ≡ false) × (v ≡ fits)
Lets readonly v (Err e) = (o : Outcome) → cond readonly (denied (class ReadOnly)) (let_in v o) ≡ denied (class (class_of e))

-- r is how a text is judged for a parameter of the datainfo that o reads; asked only where o can be read
pub record JudgesChange (o : Option (Datainfo × List ℕ)) (readonly : Bool) (xs : List ℕ) (r : Result Unit Class) : Type 0 where
  pub is : {d : Datainfo} {x : List ℕ} → o ≡ Some (d, x) → Lets readonly (verdict d xs) r
