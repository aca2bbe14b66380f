-- Laws of the code that judges a text and writes its stored form. Assumes nothing.
use Rattle.std.specs.Prelude.{Option, Some, None, Result, Ok, Err}
use Rattle.std.specs.Result.{is_ok}
use Prim.Native.Nat.{ℕ, ◌+◌, ◌≤◌}
use native.Mathlib.Nat.{zero-add}
use native.Mathlib.Omega.{arith}
use mathlib.Core.Path.{◌≡◌, refl, sym, ap, ◌∙◌}
use mathlib.Core.Bool.{Bool, true, false}
use mathlib.Core.List.{List}
use lib.ListN.{length, take, drop}
use lib.Seq.{sets, sets-eq, take_at}
use lib.Dec.{eqb, leb}
use borrow.Author.Tests.{le-leb, lt-leb, leb-true, leb-false}
use Rattle.ascii.specs.Bytes.{is_some, same}
use Rattle.ascii.specs.Clauses.Reader.{Left}
use Rattle.ascii.specs.Clauses.Writer.{Puts}
use Rattle.json_text.specs.Json.{Json, skip, bare, text}
use Rattle.datainfo.specs.Datainfo.{Datainfo}
use Rattle.datainfo.specs.Layout.{datainfo_in, ReadableAt}
use Rattle.emit.specs.Clauses.Emitted.{capped}
use Rattle.fit.specs.Fit as Fit
use Rattle.fit.specs.Fit.{fits, rangeError, wrongType, badJSON, severity, worse, in_range, fit, form_of, stored_form, value_verdict, verdict_of, verdict, is_fit, is_stored}
use Rattle.fit.specs.Clauses.Verdict.{meaning, Judges, JudgesText, TellsStored}
use Rattle.fit.proofs.Judged.{worse_fits, same_read}
use Rattle.fit.proofs.Items.{unspaced}
use Rattle.form.specs.Clauses.Formed.{FormsText, FormIsLong, FitsAt, PutsForm, TellsOwn}
use Rattle.form.proofs.Stored.{stored_short, fits_value}
use Rattle.form.proofs.Typed.{text_value}
use Rattle.fit.specs.declared.Misfit.{Misfit}
use Rattle.fit.specs.declared.Misfit.TheVariants.{RangeError, WrongType, BadJson}

-- ## The verdict

pub told_text : (v : List ℕ) (t : Bool) → t ≡ is_some (text v) → t ≡ true → is_some (text v) ≡ true
told_text v t g z = sym g ∙ z

pub verdict_bad : (o : Option (Datainfo × List ℕ)) (v : List ℕ) (t : Bool) → t ≡ is_some (text v) → t ≡ false → JudgesText o v (Err BadJson)
unfolding verdict verdict_of
verdict_bad o v t g z = record { is = λ e. go _ (text v) (sym g ∙ z) }
  where
    go : (d : Datainfo) (q : Option Json) → is_some q ≡ false → badJSON ≡ verdict_of d q
    go d None e = refl
    go d (Some j) e = absurd (let z : ◌≡◌ {A = ℕ} 0 1 = cc in omega arith)

-- a fault of the value is no lighter than one of its length
not_lighter : (a : Fit.Verdict) (b : Bool) → is_fit a ≡ false → worse a (in_range b) ≡ a
unfolding is_fit worse in_range severity
not_lighter fits b e = absurd (let z : ◌≡◌ {A = ℕ} 0 1 = cc in omega arith)
not_lighter rangeError true e = refl
not_lighter rangeError false e = refl
not_lighter wrongType true e = refl
not_lighter wrongType false e = refl
not_lighter badJSON true e = refl
not_lighter badJSON false e = refl

-- 256 is below the largest position
capped_short : (n : ℕ) → leb (capped n) 256 ≡ leb n 256
capped_short n = go (leb n 256) refl
  where
    go : (b : Bool) → leb n 256 ≡ b → leb (capped n) 256 ≡ b
    go true e = le-leb (capped n) 256 (omega (arith, leb-true n 256 e))
    go false e = lt-leb (capped n) 256 (omega (arith, leb-false n 256 e))

-- an error is a fault
unfit : (y : Misfit) → is_fit (meaning (Err y)) ≡ false
unfolding is_fit severity
unfit RangeError = refl
unfit WrongType = refl
unfit BadJson = refl

-- a is how the value of the text fits, as the code judges it
module _ (o : Option (Datainfo × List ℕ)) (v : List ℕ) (j : is_some (text v) ≡ true) (p : ℕ) (l : Left v p (skip (drop 0 v))) (a : Result Unit Misfit)
    (m : Judges o (bare 8 (drop p v)) a) where
  judged : {d : Datainfo} {x : List ℕ} {w : Json} → o ≡ Some (d, x) → text v ≡ Some w → meaning a ≡ fit d w
  judged e q = text_value v q λ y i. unspaced 8 v i λ y' i'. m.is e (rw l.is at i')

  -- the verdict on its value
  by_value : (d : Datainfo) (r : Result Unit Misfit) → ((w : Json) → text v ≡ Some w → meaning r ≡ value_verdict d w) → meaning r ≡ verdict d v
  unfolding verdict verdict_of
  by_value d r h = go (text v) refl j
    where
      go : (q : Option Json) → text v ≡ q → is_some q ≡ true → meaning r ≡ verdict_of d q
      go None e z = absurd (let z : ◌≡◌ {A = ℕ} 0 1 = cc in omega arith)
      go (Some w) e z = h w e

  pub value_unfit : (y : Misfit) → a ≡ Err y → JudgesText o v (Err y)
  unfolding value_verdict
  value_unfit y z = rw (← z) (record {
    is = λ {d = d} e. by_value d a λ w q.
        let f = judged e q in
        f ∙ sym (not_lighter (fit d w) (leb (length (form_of d (Some w))) 256) (ap is_fit (sym f ∙ ap meaning z) ∙ unfit y));
  })

  pub value_fits : (y : Unit) → a ≡ Ok y → (n : ℕ) → FormIsLong o v n → (r : Result Unit Misfit) → meaning r ≡ in_range (leb n 256) → JudgesText o v r
  unfolding value_verdict stored_form
  value_fits y z n h r k = record {
    is = λ {d = d} e. by_value d r λ w q.
        let f : fit d w ≡ fits = sym (judged e q) ∙ ap meaning z in
        let c : n ≡ capped (length (form_of d (Some w))) = rw q at (h.is e q f) in
        k ∙ rw (c, capped_short (length (form_of d (Some w))), f, worse_fits (in_range (leb (length (form_of d (Some w))) 256)));
  }

-- ## The stored form

module _ (s : List ℕ) (info : ℕ) (xs out : List ℕ) (at : ℕ) (g : FitsAt s info xs) (h : at + 256 ≤ length out) (after : List ℕ) (end : ℕ)
    (x : FormsText (datainfo_in 4 (drop info s)) xs out at after end) where
  -- by the datainfo that is read there
  form_there : {d : Datainfo} {y : List ℕ} → datainfo_in 4 (drop info s) ≡ Some (d, y) → is_fit (verdict d xs) ≡ true → Puts out at (stored_form d xs) after end
  form_there {d} e f =
      let n = stored_short d xs f in
      fits_value d xs f λ w q k. (x.is e q k).puts (omega arith)

  pub form_put : PutsForm (datainfo_in 4 (drop info s)) xs out at after end
  form_put =
      let d = g.reads.datainfo in
      let n = stored_short d xs g.fits in
      let ends = (form_there g.reads.is g.fits).ends in
      record { order = omega arith; short = omega arith; is = λ e. form_there e (rw (same_read g.reads.is e) at g.fits) }

pub front : (out bs : List ℕ) → length bs ≤ length out → take (length bs) (sets out 0 bs) ≡ bs
front out bs h = rw (sets-eq bs out 0 (omega arith)) (take_at bs (drop (0 + length bs) out) (length bs) refl)

-- what was written into 256 bytes
module _ (s : List ℕ) (info : ℕ) (v out after : List ℕ) (n : ℕ) (g : FitsAt s info v) (h : 256 ≤ length out) (x : PutsForm (datainfo_in 4 (drop info s)) v out 0 after n) where
  written : {d : Datainfo} {y : List ℕ} → datainfo_in 4 (drop info s) ≡ Some (d, y) → take n after ≡ stored_form d v
  written {d} e =
      let p = x.is e in
      let k : n ≡ length (stored_form d v) = p.ends ∙ zero-add (length (stored_form d v)) in
      rw (k, p.is) (front out (stored_form d v) (omega (arith, x.short)))

  pub own_told : (r : Bool) → r ≡ same (take n after) v → TellsOwn (datainfo_in 4 (drop info s)) v r
  own_told r e = record { is = λ f. e ∙ ap (λ (z : List ℕ). same z v) (written f) }

-- ## Whether a text is in stored form

ok_fits : (a : Result Unit Misfit) → is_ok a ≡ is_fit (meaning a)
unfolding is_fit severity
ok_fits (Ok y) = refl
ok_fits (Err RangeError) = refl
ok_fits (Err WrongType) = refl
ok_fits (Err BadJson) = refl

pub fits_there : (s : List ℕ) (at : ℕ) (v : List ℕ) (h : ReadableAt s at 4) (a : Result Unit Misfit) → JudgesText (datainfo_in 4 (drop at s)) v a → (t : Bool)
    → t ≡ is_ok a → t ≡ true → FitsAt s at v
fits_there s at v h a m t g z = record { reads = h; fits = ap is_fit (sym (m.is h.is)) ∙ sym (g ∙ ok_fits a) ∙ z }

module _ (o : Option (Datainfo × List ℕ)) (v : List ℕ) (a : Result Unit Misfit) (m : JudgesText o v a) (t : Bool) (e : t ≡ is_ok a) where
  g : t ≡ is_fit (meaning a)
  g = e ∙ ok_fits a

  pub stored_unfit : t ≡ false → TellsStored o v t
  unfolding is_stored
  stored_unfit z = record { is = λ e. rw (← (m.is e), ← g, z) }

  pub stored_fits : t ≡ true → (r : Bool) → TellsOwn o v r → TellsStored o v r
  unfolding is_stored
  stored_fits z r h = record { is = λ e. rw (← (m.is e), ← g, z) (h.is e) }
