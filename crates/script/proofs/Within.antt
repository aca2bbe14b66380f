-- Bytes that are put into an area, one law for each way through the code. Assumes nothing.
use Prim.Native.Nat.{ℕ, ◌+◌, ◌-◌, ◌≤◌, ◌<◌}
use native.Mathlib.Omega.{arith}
use borrow.Author.Tests.{lt-ltb, le-ltb}
use mathlib.Core.List.{List}
use mathlib.Core.Path.{◌≡◌, refl}
use lib.ListN.{length}
use Rattle.ascii.specs.Clauses.Writer.{Puts}
use Rattle.script.specs.Clauses.Within.{within}

module _ (area : List ℕ) (place : ℕ) (bs : List ℕ) where
  kept : length area < place + length bs → area ≡ within area place bs
  unfolding within
  kept h = rw (lt-ltb (length area) (place + length bs) h) refl

  pub within_past : length area < place → area ≡ within area place bs
  within_past h = kept (omega (arith, h))

  pub within_over : place ≤ length area → length area - place < length bs → area ≡ within area place bs
  within_over g h = kept (omega (arith, g, h))

  pub within_put : place ≤ length area → length bs ≤ length area - place → {after : List ℕ} {r : ℕ} → Puts area place bs after r
      → after ≡ within area place bs
  unfolding within
  within_put g h e = rw (le-ltb (length area) (place + length bs) (omega (arith, g, h))) e.is
