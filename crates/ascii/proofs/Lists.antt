-- What it says that tests pass: two tests, the test of two lists for being the same, and a test of every element of a list; and how lists laid end
-- to end are parted again at the first element that fails. Assumes nothing.
use Prim.Native.Nat.{ℕ}
use mathlib.Core.Bool.{Bool, true, false, not, ◌&&◌, ◌||◌, true≢false, false≢true, and_assoc, and-eq-true_iff}
use mathlib.Core.List.{List, [], ◌∷◌, ◌++◌}
use mathlib.Core.Path.{◌≡◌, refl, sym, ◌∙◌, ap, ap₂}
use lib.Dec.{eqb}
use borrow.Author.Tests.{eqb-true, eq-eqb}
use Rattle.ascii.specs.Bytes.{all, take_while, drop_while, head, tail, same}

-- both of two tests
pub both : (a b : Bool) → a && b ≡ true → (a ≡ true) × (b ≡ true)
both a b = (and-eq-true_iff a b).0

-- ## One test or the other

pub or-true : (a : Bool) → a || true ≡ true
or-true true = refl
or-true false = refl

pub neither : (a b : Bool) → a || b ≡ false → (a ≡ false) × (b ≡ false)
neither true b e = absurd (true≢false e)
neither false b e = (refl, e)

-- ## The same bytes

pub same_self : (xs : List ℕ) → same xs xs ≡ true
unfolding same
same_self [] = refl
same_self (x ∷ xs) = rw eq-eqb (same_self xs)

pub same_is : (xs ys : List ℕ) → same xs ys ≡ true → xs ≡ ys
unfolding same
same_is [] [] e = refl
same_is [] (y ∷ ys) e = absurd (false≢true e)
same_is (x ∷ xs) [] e = absurd (false≢true e)
same_is (x ∷ xs) (y ∷ ys) e =
    let h = both (eqb x y) (same xs ys) e in
    ap₂ ◌∷◌ (eqb-true x y h.0) (same_is xs ys h.1)

pub same_other : (xs ys : List ℕ) → same xs ys ≡ false → same ys xs ≡ false
same_other xs ys e = go (same ys xs) refl
  where
    go : (b : Bool) → same ys xs ≡ b → b ≡ false
    go true q = absurd (true≢false (sym (same_self xs) ∙ rw (same_is ys xs q) at e))
    go false q = refl

-- ## Lists of which every element passes a test

module _ {A : Type 0} (p : A → Bool) where
  pub all_cons : (x : A) (xs : List A) → p x ≡ true → all p xs ≡ true → all p (x ∷ xs) ≡ true
  unfolding all
  all_cons x xs h k = ap₂ ◌&&◌ h k

  pub all_parts : (x : A) (xs : List A) → all p (x ∷ xs) ≡ true → (p x ≡ true) × (all p xs ≡ true)
  unfolding all
  all_parts x xs h = both (p x) (all p xs) h

  pub all_one : (x : A) → p x ≡ true → all p (x ∷ []) ≡ true
  unfolding all
  all_one x h = all_cons x [] h refl

  -- of lists laid end to end
  pub all_joined : (a b : List A) → all p (a ++ b) ≡ (all p a && all p b)
  unfolding all
  all_joined [] b = refl
  all_joined (x ∷ a) b = ap (p x &&◌) (all_joined a b) ∙ sym (and_assoc (p x) (all p a) (all p b))

  pub all_append : (a b : List A) → all p a ≡ true → all p b ≡ true → all p (a ++ b) ≡ true
  all_append a b h k = all_joined a b ∙ ap₂ ◌&&◌ h k

  -- ## Parting at the first element that fails

  pub taken : (a : List A) → all p a ≡ true → take_while p a ≡ a
  unfolding take_while
  taken [] h = refl
  taken (x ∷ a) h = let l = all_parts x a h in rw (l.0, taken a l.1)

  pub dropped : (a : List A) → all p a ≡ true → drop_while p a ≡ []
  unfolding drop_while
  dropped [] h = refl
  dropped (x ∷ a) h = let l = all_parts x a h in rw l.0 (dropped a l.1)

  pub taken_at : (a : List A) (x : A) (b : List A) → all p a ≡ true → p x ≡ false → take_while p (a ++ x ∷ b) ≡ a
  unfolding take_while
  taken_at [] x b h f = rw f
  taken_at (y ∷ a) x b h f = let l = all_parts y a h in rw (l.0, taken_at a x b l.1 f)

  pub dropped_at : (a : List A) (x : A) (b : List A) → all p a ≡ true → p x ≡ false → drop_while p (a ++ x ∷ b) ≡ x ∷ b
  unfolding drop_while
  dropped_at [] x b h f = rw f
  dropped_at (y ∷ a) x b h f = let l = all_parts y a h in rw l.0 (dropped_at a x b l.1 f)

-- a test that passes wherever another does
pub all_weaker : {A : Type 0} (p q : A → Bool) → ((x : A) → p x ≡ true → q x ≡ true) → (xs : List A) → all p xs ≡ true → all q xs ≡ true
unfolding all
all_weaker p q w [] h = refl
all_weaker p q w (x ∷ xs) h = let l = all_parts p x xs h in all_cons q x xs (w x l.0) (all_weaker p q w xs l.1)

-- ## Lists in which a byte does not stand

abbrev pub is_other : ℕ → ℕ → Bool
is_other s b = not (eqb b s)

-- no byte of the list is s
abbrev pub Lacks : ℕ → List ℕ → Type 0
Lacks s xs = all (is_other s) xs ≡ true

-- a byte that passes a test that s fails is not s
module _ (p : ℕ → Bool) (s : ℕ) (f : p s ≡ false) where
  pub differs : (b : ℕ) → p b ≡ true → eqb b s ≡ false
  differs b h = go (eqb b s) refl
    where
      go : (t : Bool) → eqb b s ≡ t → t ≡ false
      go true e = absurd (true≢false (sym h ∙ ap p (eqb-true b s e) ∙ f))
      go false e = refl

  pub lacks : (xs : List ℕ) → all p xs ≡ true → Lacks s xs
  lacks xs h = all_weaker p (is_other s) (λ b g. ap not (differs b g)) xs h

  -- nor is the first byte, where there is one, and s is not 0
  pub head_differs : (xs : List ℕ) → eqb 0 s ≡ false → all p xs ≡ true → eqb (head xs) s ≡ false
  unfolding head
  head_differs [] z h = z
  head_differs (x ∷ xs) z h = differs x (all_parts p x xs h).0

-- ## Parting at a byte

-- what stands before the first s, and what follows it
unfoldable pub before : ℕ → List ℕ → List ℕ
before s xs = take_while (is_other s) xs

unfoldable pub beyond : ℕ → List ℕ → List ℕ
beyond s xs = tail (drop_while (is_other s) xs)

module _ (s : ℕ) (a : List ℕ) (h : Lacks s a) where
  pub before_all : before s a ≡ a
  unfolding before
  before_all = taken (is_other s) a h

  pub beyond_all : beyond s a ≡ []
  unfolding beyond tail
  beyond_all = rw (dropped (is_other s) a h)

  pub before_at : (x : List ℕ) → before s (a ++ s ∷ x) ≡ a
  unfolding before
  before_at x = taken_at (is_other s) a s x h (ap not (eq-eqb s s refl))

  pub beyond_at : (x : List ℕ) → beyond s (a ++ s ∷ x) ≡ x
  unfolding beyond tail
  beyond_at x = rw (dropped_at (is_other s) a s x h (ap not (eq-eqb s s refl)))
