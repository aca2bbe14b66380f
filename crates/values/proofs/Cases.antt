-- What the program has tested before it calls: that a datainfo can be read, and that a text fits it. Assumes nothing.
use Rattle.std.specs.Prelude.{Option, Some, None, Result, Ok}
use Prim.Native.Nat.{ℕ}
use native.Mathlib.Omega.{arith}
use mathlib.Core.Path.{◌≡◌, refl}
use mathlib.Core.List.{List}
use lib.ListN.{drop}
use Rattle.ascii.specs.Clauses.Reader.{Ends, rest}
use Rattle.datainfo.specs.Datainfo.{Datainfo}
use Rattle.datainfo.specs.Layout.{datainfo_in, ReadableAt}
use Rattle.fit.specs.Fit.{is_fit, severity}
use Rattle.fit.specs.Clauses.Verdict.{JudgesText}
use Rattle.form.specs.Clauses.Formed.{FitsAt}
use Rattle.fit.specs.declared.Misfit.{Misfit}

-- a datainfo that has an end can be read
pub readable : (s : List ℕ) (r : Option ℕ) (e : ℕ) → Ends s r (rest (datainfo_in 4 (drop 0 s))) → r ≡ Some e → ReadableAt s 0 4
readable s r e h z = go (datainfo_in 4 (drop 0 s)) refl (rw z at h).0
  where
    go : (o : Option (Datainfo × List ℕ)) → datainfo_in 4 (drop 0 s) ≡ o → rest o ≡ Some (drop e s) → ReadableAt s 0 4
    go None i j = let y : ◌≡◌ {A = ℕ} 0 1 = cc in absurd (omega arith)
    go (Some p) i j = record { within = omega arith; datainfo = p.0; left = p.1; is = i }

-- a text with that verdict fits
pub fits_at : (s xs : List ℕ) (v : Result Unit Misfit) → ReadableAt s 0 4 → JudgesText (datainfo_in 4 (drop 0 s)) xs v → v ≡ Ok tt → FitsAt s 0 xs
unfolding is_fit severity
fits_at s xs v g j e = record { reads = g; fits = rw (← j.is g.is, e) }
