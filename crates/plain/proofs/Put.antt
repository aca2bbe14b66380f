-- A function with another value at one place. Assumes nothing.
use Prim.Native.Nat.{ℕ}
use mathlib.Core.Bool.{Bool, true, false, cond}
use mathlib.Core.Path.{◌≡◌, refl, sym, ap, subst, fun_ext}
use lib.Dec.{eqb}
use borrow.Author.Tests.{eqb-true, eq-eqb, ne_eqb}
use Rattle.plain.specs.Node.{put}

module _ {A : Type 0} where
  -- what holds of the new value there, and of the old ones elsewhere, holds of all
  pub put_cases : (P : ℕ → A → Type 0) (f : ℕ → A) (k : ℕ) (a : A) → P k a → ((j : ℕ) → eqb j k ≡ false → P j (f j)) → (j : ℕ) → P j (put f k a j)
  unfolding put
  put_cases P f k a h g j = go (eqb j k) refl
    where
      go : (q : Bool) → eqb j k ≡ q → P j (cond q a (f j))
      go true e = subst (λ i. P i a) (sym (eqb-true j k e)) h
      go false e = g j e

  pub put_all : (P : ℕ → A → Type 0) (f : ℕ → A) (k : ℕ) (a : A) → P k a → ((j : ℕ) → P j (f j)) → (j : ℕ) → P j (put f k a j)
  put_all P f k a h g = put_cases P f k a h (λ j e. g j)

module _ {A : Type 0} (f : ℕ → A) (k : ℕ) where
  pub put_at : (a : A) → put f k a k ≡ a
  unfolding put
  put_at a = ap (λ q. cond q a (f k)) (eq-eqb k k refl)

  pub put_other : (a : A) (j : ℕ) → (j ≡ k → ⊥) → put f k a j ≡ f j
  unfolding put
  put_other a j h = ap (λ q. cond q a (f j)) (ne_eqb j k h)

  -- the value that is there
  pub put_same : put f k (f k) ≡ f
  put_same = fun_ext (put_cases (λ j a. a ≡ f j) f k (f k) refl (λ j e. refl))

  -- of two the second stays
  pub put_put : (a b : A) → put (put f k a) k b ≡ put f k b
  unfolding put
  put_put a b = fun_ext (λ j. go (eqb j k) j)
    where
      go : (q : Bool) (j : ℕ) → cond q b (cond q a (f j)) ≡ cond q b (f j)
      go true j = refl
      go false j = refl
