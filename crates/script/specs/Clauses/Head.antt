-- What the head of an operation says. Assumes nothing.
use Rattle.std.specs.Prelude.{ℕ, List, ◌⊎◌, ◌≡◌, get_or, drop, Option, Some, None}
use Rattle.ascii.specs.Numbers.{unsigned}
use Rattle.script.specs.declared.operation.Operation.{Operation}

-- what was read, 0 if nothing
abbrev pub or_zero : Option (ℕ × List ℕ) → ℕ
or_zero None = 0
or_zero (Some p) = p.0

-- the number of the k bytes at a place
abbrev pub number_at : List ℕ → ℕ → ℕ → ℕ
number_at head at k = or_zero (unsigned k (drop at head))

-- an operation is what these bytes of a head say; its code is their first or, where the script has ended, 0
pub record FromHead (head : List ℕ) (o : Operation) : Type 0 where
  pub code : (o.code ≡ 0) ⊎ (o.code ≡ get_or head 0 0)
  pub number : o.number ≡ number_at head 1 8
  pub time : o.time ≡ number_at head 9 8
  pub values : o.values ≡ number_at head 17 2
  pub outbox : o.outbox ≡ number_at head 19 2
  pub size : o.size ≡ number_at head 21 2
