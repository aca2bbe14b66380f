-- A stored form that is written to 256 bytes, and taken from there. Assumes nothing.
use Rattle.std.specs.Prelude.{Some}
use Prim.Native.Nat.{ℕ, ◌-◌, ◌≤◌}
use native.Mathlib.Omega.{arith}
use mathlib.Core.Path.{◌≡◌}
use mathlib.Core.List.{List}
use lib.ListN.{length, take, drop}
use Rattle.ascii.proofs.Puts.{puts_length}
use Rattle.datainfo.specs.Datainfo.{Datainfo}
use Rattle.datainfo.specs.Layout.{datainfo_in}
use Rattle.fit.specs.Fit.{stored_form}
use Rattle.form.specs.Clauses.Formed.{FitsAt, PutsForm}
use Rattle.form.proofs.Stored.{stored_short}
use Rattle.state.proofs.Forms.{stands}

module _ (table : List ℕ) (info : ℕ) (xs : List ℕ) (w : FitsAt table info xs) (d after : List ℕ) (r : ℕ)
    (x : PutsForm (datainfo_in 4 (drop info table)) xs d 0 after r) (h : length d ≡ 256) where
  pub taken_within : r ≤ length after
  taken_within = let l = puts_length (x.is w.reads.is) in let s = x.short in omega arith

  pub taken_is : {i : Datainfo} {y : List ℕ} → datainfo_in 4 (drop info table) ≡ Some (i, y) → take r after ≡ stored_form i xs
  taken_is f =
      let z : r - 0 ≡ r = omega arith in
      let p = x.is f in
      rw z at (stands p (let l = puts_length p in let y = taken_within in omega arith))

  pub taken_short : length (take r after) ≤ 256
  taken_short = rw (taken_is w.reads.is) (stored_short w.reads.datainfo xs w.fits)
