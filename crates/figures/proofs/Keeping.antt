-- Laws of what is kept: one setting more, and no sum too large. Assumes nothing.
use Prim.Native.Nat.{ℕ, zero, suc, ◌+◌, ◌*◌, ◌≤◌, ◌<◌, min, max}
use native.Mathlib.Omega.{arith}
use mathlib.Core.Bool.{Bool, true, false, cond}
use mathlib.Core.Path.{◌≡◌, refl, ◌∙◌}
use lib.Dec.{eqb, leb, ltb}
use lib.ListN.{length, get_or, set, replicate, length-set}
use lib.Seq.{get_or-set_same, get_or-set_other}
use borrow.Author.Tests.{lt-ltb, le-ltb, leb-true, leb-false, ne_eqb, eqb-true, eqb-false, ltb-true, ltb-false}
use Rattle.figures.specs.declared.Tally.{Tally}
use Rattle.figures.specs.declared.Figures.{Figures}
use Rattle.figures.specs.Figures.{full}
use Rattle.figures.specs.Clauses.Tally.{no_settings, lower, higher, noted, tally_at, Low, Bounded, observed, Observes}

lower_min : (a b : ℕ) → min a b ≡ lower a b
unfolding lower
lower_min a b = go (leb a b) refl
  where
    go : (t : Bool) → leb a b ≡ t → min a b ≡ cond t a b
    go true e = omega (arith, leb-true a b e)
    go false e = omega (arith, leb-false a b e)

higher_max : (a b : ℕ) → max a b ≡ higher a b
unfolding higher
higher_max a b = go (leb b a) refl
  where
    go : (t : Bool) → leb b a ≡ t → max a b ≡ cond t a b
    go true e = omega (arith, leb-true b a e)
    go false e = omega (arith, leb-false b a e)

module _ (t : Tally) (x : ℕ) where
  pub noted_over : full ≤ t.count → t ≡ noted t x
  unfolding noted
  noted_over h = rw (le-ltb t.count full h)

  pub noted_one : t.count ≡ 0 → record { count = 1; least = x; greatest = x; sum = x } ≡ noted t x
  unfolding noted
  noted_one e = rw e

  pub noted_some : (l g : ℕ) → t.count < full → (t.count ≡ 0 → ⊥) → l ≡ lower t.least x → g ≡ higher t.greatest x
      → record { count = t.count + 1; least = l; greatest = g; sum = t.sum + x } ≡ noted t x
  unfolding noted
  noted_some l g h n e f = rw (lt-ltb t.count full h, ne_eqb t.count 0 n, e, f)

  pub noted_more : (l g : ℕ) → t.count < full → (t.count ≡ 0 → ⊥) → l ≡ min t.least x → g ≡ max t.greatest x
      → record { count = t.count + 1; least = l; greatest = g; sum = t.sum + x } ≡ noted t x
  noted_more l g h n e f = noted_some l g h n (e ∙ lower_min t.least x) (f ∙ higher_max t.greatest x)

  pub noted_low : x ≤ 4294967296 → Low t → Low (noted t x)
  unfolding lower higher
  noted_low l b = go (ltb t.count full) refl (eqb t.count 0) refl
    where
      c : t.sum ≤ t.count * 4294967296
      c = b.sum

      either : (s : Bool) (m n : ℕ) → m ≤ 4294967296 → n ≤ 4294967296 → cond s m n ≤ 4294967296
      either true m n h g = h
      either false m n h g = g

      go : (s : Bool) → ltb t.count full ≡ s → (u : Bool) → eqb t.count 0 ≡ u → Low (noted t x)
      go false e u f = rw (← noted_over (ltb-false t.count full e)) b
      go true e true f =
          rw (← noted_one (eqb-true t.count 0 f)) (record { count = omega arith; least = l; greatest = l; sum = omega arith })
      go true e false f =
          let n = ltb-true t.count full e in
          rw (← noted_some (lower t.least x) (higher t.greatest x) n (eqb-false t.count 0 f) refl refl)
          (record {
            count = omega arith;
            least = either (leb t.least x) t.least x b.least l;
            greatest = either (leb x t.greatest) t.greatest x b.greatest l;
            sum = omega arith;
          })

pub none_anywhere : (n k : ℕ) → get_or (replicate n no_settings) k no_settings ≡ no_settings
none_anywhere zero k = refl
none_anywhere (suc n) zero = refl
none_anywhere (suc n) (suc k) = none_anywhere n k

pub none_is : (t : Tally) → (t.count ≡ 0) × ((t.least ≡ 0) × ((t.greatest ≡ 0) × (t.sum ≡ 0))) → t ≡ no_settings
none_is t e = λ i. record { count = e.0 i; least = e.1.0 i; greatest = e.1.1.0 i; sum = e.1.1.1 i }

pub none_bounded : Bounded (record { tallies = replicate 64 no_settings })
none_bounded =
    record {
      size = refl;
      all = λ k. rw (none_anywhere 64 k) (record { count = omega arith; least = omega arith; greatest = omega arith; sum = omega arith });
    }

module _ (f : Figures) (k x : ℕ) (l : k < length f.tallies) where
  pub observed_same : tally_at (observed f k x) k ≡ noted (tally_at f k) x
  unfolding observed
  observed_same = get_or-set_same f.tallies k (noted (tally_at f k) x) no_settings l

  pub observed_other : (j : ℕ) → (j ≡ k → ⊥) → tally_at (observed f k x) j ≡ tally_at f j
  unfolding observed
  observed_other j n = get_or-set_other f.tallies k j (noted (tally_at f k) x) no_settings n

  observed_size : length (observed f k x).tallies ≡ length f.tallies
  unfolding observed
  observed_size = length-set f.tallies k (noted (tally_at f k) x)

  observed_bounded : x ≤ 4294967296 → Bounded f → Bounded (observed f k x)
  observed_bounded h b = record { size = observed_size ∙ b.size; all = λ j. go j (eqb j k) refl }
    where
      go : (j : ℕ) (t : Bool) → eqb j k ≡ t → Low (tally_at (observed f k x) j)
      go j true e = rw (eqb-true j k e, observed_same) (noted_low (tally_at f k) x h (b.all k))
      go j false e = rw (observed_other j (eqb-false j k e)) (b.all j)

pub observes : (f : Figures) (k x : ℕ) (t : Tally) → k < 64 → x ≤ 4294967296 → Bounded f → t ≡ noted (tally_at f k) x
    → Observes f k x (record { tallies = set f.tallies k t })
unfolding observed
observes f k x t l h b e = rw e (record { is = refl; bounded = observed_bounded f k x (omega (arith, b.size)) h b })
