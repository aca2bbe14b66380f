-- The theorem about the count of a comparison. Assumes nothing.
use Prim.Native.Nat.{ℕ, zero, suc, ◌<◌}
use native.Mathlib.Numerals.{add-one}
use native.Mathlib.Omega.{arith}
use mathlib.Core.Path.{◌≡◌, refl, sym, ◌∙◌}
use mathlib.Core.List.{List, [], ◌∷◌}
use lib.ListN.{length}
use borrow.Author.Tests.{eq-eqb, ne_eqb}
use Rattle.ascii.specs.Text.{bytes}
use Rattle.ascii.specs.Bytes.{pairs, looked}
use Rattle.ascii.specs.Theorems.{Equal, FirstDiffers, Counted}

pairs_first : (xs ys : List ℕ) (i : ℕ) → length xs ≡ length ys → FirstDiffers xs ys i → pairs xs ys ≡ suc i
unfolding pairs
pairs_first [] ys i l f = let w = f.within in absurd (omega arith)
pairs_first (x ∷ xs) [] i l f = absurd (omega arith)
pairs_first (x ∷ xs) (y ∷ ys) zero l f = rw (ne_eqb x y f.differs)
pairs_first (x ∷ xs) (y ∷ ys) (suc i) l f =
    let w = f.within in
    let later : FirstDiffers xs ys i = record { within = omega arith; differs = f.differs; before = λ j k. f.before (suc j) (omega arith) } in
    rw (eq-eqb x y (f.before 0 (omega arith)), pairs_first xs ys i (omega arith) later)

pairs_all : (xs ys : List ℕ) → length xs ≡ length ys → ((i : ℕ) → i < length xs → Equal xs ys i) → pairs xs ys ≡ length xs
unfolding pairs
pairs_all [] ys l f = refl
pairs_all (x ∷ xs) [] l f = absurd (omega arith)
pairs_all (x ∷ xs) (y ∷ ys) l f = rw (eq-eqb x y (f 0 (omega arith)), pairs_all xs ys (omega arith) (λ i k. f (suc i) (omega arith)))

pub pairs_are_counted : (xs ys : List ℕ) → Counted xs ys
unfolding looked
pairs_are_counted xs ys =
    record {
      none = λ n. rw (ne_eqb (length xs) (length ys) n);
      first = λ l i f. rw (eq-eqb (length xs) (length ys) l) (pairs_first xs ys i l f ∙ sym (add-one i));
      all = λ l f. rw (eq-eqb (length xs) (length ys) l) (pairs_all xs ys l f);
    }

-- ## Worked examples

other_lengths : looked (bytes "target") (bytes "targets") ≡ 0
unfolding looked pairs bytes
other_lengths = refl

third_differs : looked (bytes "ramp") (bytes "rate") ≡ 3
unfolding looked pairs bytes
third_differs = refl

last_differs : looked (bytes "t1") (bytes "t2") ≡ 2
unfolding looked pairs bytes
last_differs = refl

the_same : looked (bytes "status") (bytes "status") ≡ 6
unfolding looked pairs bytes
the_same = refl
