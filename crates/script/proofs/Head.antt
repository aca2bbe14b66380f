-- The numbers of a head. Assumes nothing.
use Rattle.std.specs.Prelude.{Option, Some, None}
use Prim.Native.Nat.{ℕ}
use mathlib.Core.List.{List}
use mathlib.Core.Path.{◌≡◌, refl}
use lib.ListN.{drop}
use Rattle.ascii.specs.Numbers.{unsigned}
use Rattle.ascii.specs.Clauses.Read.{ReadsValue}
use Rattle.script.specs.Clauses.Head.{number_at}

module _ (head : List ℕ) (at k : ℕ) (q : Option (ℕ × ℕ)) (h : ReadsValue head q (unsigned k (drop at head))) where
  pub number_short : q ≡ None → 0 ≡ number_at head at k
  number_short z = rw (rw z at h) refl

  pub number_read : (n e : ℕ) → q ≡ Some (n, e) → n ≡ number_at head at k
  number_read n e z = rw (rw z at h).0 refl
