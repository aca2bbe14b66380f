-- What holds of each element of a list, and what tests that pass say of it. Assumes nothing.
use Rattle.std.specs.Prelude.{Some, None, slice_get}
use Prim.Native.Nat.{ℕ, zero, suc, ◌≤◌, ◌<◌}
use mathlib.Core.Bool.{Bool, true, false, cond}
use mathlib.Core.List.{List, [], ◌∷◌, ◌++◌, map}
use mathlib.Core.Path.{◌≡◌, refl, subst}
use native.Mathlib.Omega.{arith}
use lib.ListN.{length}
use Rattle.ascii.specs.Bytes.{all, take_while}
use Rattle.ascii.proofs.Lists.{both}

-- what holds of both ways of a choice
pub either : {A : Type 0} (Q : A → Type 0) (b : Bool) {x y : A} → (b ≡ true → Q x) → (b ≡ false → Q y) → Q (cond b x y)
either Q true f g = f refl
either Q false f g = g refl

module _ {A : Type 0} where
  abbrev pub Each : (A → Type 0) → List A → Type 0
  Each P [] = Unit {0}
  Each P (x ∷ xs) = P x × Each P xs

  pub each_at : (P : A → Type 0) (l : List A) → Each P l → (k : ℕ) (x : A) → slice_get l k ≡ Some x → P x
  each_at P [] h k x e = let z : ◌≡◌ {A = ℕ} 0 1 = cc in absurd (omega arith)
  each_at P (y ∷ l) h zero x e = subst P (cc) h.0
  each_at P (y ∷ l) h (suc k) x e = each_at P l h.1 k x e

  -- an element that is there has a number below the length, and past the last there is none
  pub there_low : (l : List A) (k : ℕ) (x : A) → slice_get l k ≡ Some x → k < length l
  there_low [] k x e = let z : ◌≡◌ {A = ℕ} 0 1 = cc in absurd (omega arith)
  there_low (y ∷ l) zero x e = omega arith
  there_low (y ∷ l) (suc k) x e = let h = there_low l k x e in omega arith

  pub past_none : (l : List A) (k : ℕ) → length l ≤ k → slice_get l k ≡ None
  past_none [] k h = refl
  past_none (x ∷ l) zero h = absurd (omega arith)
  past_none (x ∷ l) (suc k) h = past_none l k (omega arith)

  pub each_append : (P : A → Type 0) (l m : List A) → Each P l → Each P m → Each P (l ++ m)
  each_append P [] m h k = k
  each_append P (x ∷ l) m h k = (h.0, each_append P l m h.1 k)

  pub each_both : (P Q : A → Type 0) (l : List A) → Each P l → Each Q l → Each (λ x. P x × Q x) l
  each_both P Q [] h k = tt
  each_both P Q (x ∷ l) h k = ((h.0, k.0), each_both P Q l h.1 k.1)

  pub each_all : (p : A → Bool) (l : List A) → all p l ≡ true → Each (λ x. p x ≡ true) l
  unfolding all
  each_all p [] e = tt
  each_all p (x ∷ l) e = let h = both (p x) (all p l) e in (h.0, each_all p l h.1)

  -- the front of a list that passes
  pub all_take_while : (p : A → Bool) (l : List A) → all p (take_while p l) ≡ true
  unfolding all take_while
  all_take_while p [] = refl
  all_take_while p (x ∷ l) = go (p x) refl (all_take_while p l)
    where
      go : (b : Bool) → p x ≡ b → all p (take_while p l) ≡ true → all p (cond b (x ∷ take_while p l) []) ≡ true
      go true e h = rw (e, all) h
      go false e h = refl

pub each_map : {A B : Type 0} (P : B → Type 0) (f : A → B) (l : List A) → Each (λ a. P (f a)) l → Each P (map f l)
each_map P f [] h = tt
each_map P f (x ∷ l) h = (h.0, each_map P f l h.1)

pub map_each : {A B : Type 0} (P : B → Type 0) (f : A → B) (l : List A) → Each P (map f l) → Each (λ a. P (f a)) l
map_each P f [] h = tt
map_each P f (x ∷ l) h = (h.0, map_each P f l h.1)
