-- What the code that judges a value answers. Assumes nothing.
use Rattle.std.specs.Prelude.{ℕ, ◌≡◌, Bool, true, cond, List, eqb, Option, Some, None, Result, Ok, Err}
use Rattle.ascii.specs.Numbers.{unsigned}
use Rattle.ascii.specs.Bytes.{all, count, same}
use Rattle.json_text.specs.Json.{Json, object, Members}
use Rattle.datainfo.specs.Datainfo.{Datainfo, bool, struct, Parts, field_names}
use Rattle.datainfo.specs.Layout.{double_at, int_at, enum_at, string_at, scaled_at, blob_at}
use Rattle.datainfo.specs.Rules.{is_between}
use Rattle.fit.specs.Fit as Fit
use Rattle.fit.specs.Fit.{fits, rangeError, wrongType, badJSON, in_range, keys, fit, fields_fit, is_stored}
use Rattle.fit.specs.declared.Misfit.{Misfit}
use Rattle.fit.specs.declared.Misfit.TheVariants.{RangeError, WrongType, BadJson}

-- the verdict that the code's answer stands for
abbrev pub meaning : Result Unit Misfit → Fit.Verdict
meaning (Ok _) = fits
meaning (Err RangeError) = rangeError
meaning (Err WrongType) = wrongType
meaning (Err BadJson) = badJSON

-- r is how the value that q reads fits the datainfo that o reads; where either can't be read, r is any
pub record Judges (o : Option (Datainfo × List ℕ)) (q : Option (Json × List ℕ)) (r : Result Unit Misfit) : Type 0 where
  pub is : {d : Datainfo} {x : List ℕ} {j : Json} {y : List ℕ} → o ≡ Some (d, x) → q ≡ Some (j, y) → meaning r ≡ fit d j

-- r is the verdict on a text by the datainfo that o reads; asked only where o can be read
pub record JudgesText (o : Option (Datainfo × List ℕ)) (xs : List ℕ) (r : Result Unit Misfit) : Type 0 where
  pub is : {d : Datainfo} {x : List ℕ} → o ≡ Some (d, x) → meaning r ≡ Fit.verdict d xs

-- r is whether a text fits the datainfo that o reads and is in stored form; asked only where o can be read
pub record TellsStored (o : Option (Datainfo × List ℕ)) (xs : List ℕ) (r : Bool) : Type 0 where
  pub is : {d : Datainfo} {x : List ℕ} → o ≡ Some (d, x) → r ≡ is_stored d xs

-- r is how the value that q reads fits a struct of the members that o reads
pub record JudgesStruct (o : Option (Parts × List ℕ)) (q : Option (Json × List ℕ)) (r : Result Unit Misfit) : Type 0 where
  pub is : {m : Parts} {x : List ℕ} {j : Json} {y : List ℕ} → o ≡ Some (m, x) → q ≡ Some (j, y) → meaning r ≡ fit (struct m.1) j

-- r is the worst verdict on the values of a struct's members, each of which is exactly once among the keys; where the struct that o reads
-- or the object that q reads can't be read, or a member is missing or repeated, r is any
pub record JudgesFields (o : Option (Parts × List ℕ)) (q : Option (Json × List ℕ)) (r : Result Unit Misfit) : Type 0 where
  pub is : {m : Parts} {x : List ℕ} {ms : Members} {y : List ℕ} → o ≡ Some (m, x) → q ≡ Some (object ms, y)
      → all (λ n. eqb (count (same n) (keys ms)) 1) (field_names m.1) ≡ true → meaning r ≡ fields_fit m.1 ms

-- r is how a count n fits the two limits that are read from xs; where they can't be read, r is any
pub record Limits (xs : List ℕ) (n : ℕ) (r : Result Unit Misfit) : Type 0 where
  pub is : {lo hi : ℕ} {y z : List ℕ} → unsigned 2 xs ≡ Some (lo, y) → unsigned 2 y ≡ Some (hi, z) → meaning r ≡ in_range (is_between lo hi n)

-- what follows the type byte k of a type whose values are numbers
unfoldable pub numeric : ℕ → List ℕ → Option (Datainfo × List ℕ)
numeric k xs = cond (eqb k 1) (double_at xs) (cond (eqb k 2) (int_at xs) (cond (eqb k 9) (scaled_at xs) None))

-- what follows the type byte k of a type that holds no datainfos
unfoldable pub plain : ℕ → List ℕ → Option (Datainfo × List ℕ)
plain k xs =
    cond (eqb k 3) (Some (bool, xs))
    (cond (eqb k 4) (enum_at xs) (cond (eqb k 5) (string_at xs) (cond (eqb k 10) (blob_at xs) (numeric k xs))))
