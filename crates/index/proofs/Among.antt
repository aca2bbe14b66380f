-- Laws of parameters among accessibles, and of commands: a search among all finds what a search among those of a kind does. Assumes nothing.
use Rattle.std.specs.Prelude.{Option, Some, None, slice_get}
use Prim.Native.Nat.{ℕ, zero, suc}
use mathlib.Core.Path.{◌≡◌, refl, sym, ap, ◌∙◌}
use mathlib.Core.Bool.{Bool, true}
use mathlib.Core.List.{List, [], ◌∷◌}
use lib.ListN.{length, take}
use Rattle.ascii.specs.Bytes.{◌>>=◌}
use Rattle.table.specs.Search.{first}
use Rattle.index.specs.Among.{with_if, only, as_one}
use Rattle.index.specs.Theorems.{Unique}
use Rattle.table.proofs.Accessibles.{in_some}
use Rattle.table.proofs.Whole.{never}
use Rattle.index.proofs.Searches.{Meant, first_meant, meant_first}

module _ {A B : Type 0} (kind : A → Option B) where
  -- one of a kind is one of all
  record From (l : List A) (j : ℕ) (y : B) : Type 0 where
    pub place : ℕ
    pub it : A
    pub there : slice_get l place ≡ Some it
    pub is : kind it ≡ Some y
    pub number : j ≡ length (only kind (take place l))

  only_from : (l : List A) (j : ℕ) (y : B) → slice_get (only kind l) j ≡ Some y → From l j y
  unfolding only
  only_from [] j y e = absurd (never e)
  only_from (x ∷ l) j y e = go (kind x) refl j e (only_from l)
    where
      go :
          (o : Option B) → kind x ≡ o → (j : ℕ) → slice_get (with_if kind o (only kind l)) j ≡ Some y
          → ((i : ℕ) (z : B) → slice_get (only kind l) i ≡ Some z → From l i z) → From (x ∷ l) j y
      go None z j e f =
          let g = f j y e in
          record { place = suc g.place; it = g.it; there = g.there; is = g.is; number = g.number ∙ rw z }
      go (Some w) z zero e f = record { place = 0; it = x; there = refl; is = z ∙ e; number = refl }
      go (Some w) z (suc j) e f =
          let g = f j y e in
          record { place = suc g.place; it = g.it; there = g.there; is = g.is; number = ap suc g.number ∙ rw z }

  only_at : (l : List A) (i : ℕ) (x : A) (y : B) → slice_get l i ≡ Some x → kind x ≡ Some y → slice_get (only kind l) (length (only kind (take i l))) ≡ Some y
  unfolding only
  only_at [] i x y e k = absurd (never e)
  only_at (w ∷ l) zero x y e k = rw (ap kind (in_some e) ∙ k)
  only_at (w ∷ l) (suc i) x y e k = go (kind w) (only_at l i x y e k)
    where
      go :
          (o : Option B) → slice_get (only kind l) (length (only kind (take i l))) ≡ Some y
          → slice_get (with_if kind o (only kind l)) (length (with_if kind o (only kind (take i l)))) ≡ Some y
      go None e = e
      go (Some v) e = e

  module _ (p : A → Bool) (q : B → Bool) (alike : (x : A) (y : B) → kind x ≡ Some y → q y ≡ p x) (l : List A) (u : Unique p l) where
    only_unique : Unique q (only kind l)
    only_unique =
        record {
          one = λ i j x y e f g h.
              let a = only_from l i x e in
              let b = only_from l j y f in
              let c = sym (alike a.it x a.is) ∙ g in
              let d = sym (alike b.it y b.is) ∙ h in
              let n = u.one a.place b.place a.it b.it a.there b.there c d in
              a.number ∙ ap (λ (m : ℕ). length (only kind (take m l))) n ∙ sym b.number;
        }

    -- one of the kind that passes is what is found among them
    pub only_found : (n : ℕ) (y : B) → slice_get (only kind l) n ≡ Some y → q y ≡ true → first q (only kind l) ≡ Some (n, y)
    only_found n y e h = meant_first q (only kind l) only_unique (n, y) (record { there = e; passes = h })

    -- one of the kind that passes is the one of all that does
    only_meant : (k : ℕ × B) → Meant q (only kind l) k → (j : ℕ × A) → Meant p l j → kind j.1 ≡ Some k.1
    only_meant k m j n =
        let a = only_from l k.0 k.1 m.there in
        let e = u.one a.place j.0 a.it j.1 a.there n.there (sym (alike a.it k.1 a.is) ∙ m.passes) n.passes in
        let x : a.it ≡ j.1 = in_some (sym a.there ∙ ap (slice_get l) e ∙ n.there) in
        ap kind (sym x) ∙ a.is

    -- so it is what is found
    pub first_only : first q (only kind l) ≡ as_one kind l (first p l)
    unfolding as_one
    first_only = go (first p l) refl
      where
        unless : ((k : ℕ × B) → first q (only kind l) ≡ Some k → ⊥) → first q (only kind l) ≡ None
        unless f = pick (first q (only kind l)) refl
          where
            pick : (o : Option (ℕ × B)) → first q (only kind l) ≡ o → first q (only kind l) ≡ None
            pick None e = e
            pick (Some k) e = absurd (f k e)

        found : (k : ℕ) (x : A) → Meant p l (k, x) → (o : Option B) → kind x ≡ o → first q (only kind l) ≡ (o >>= λ y. Some (length (only kind (take k l)), y))
        found k x m None z = unless (λ j e. never (sym z ∙ only_meant j (first_meant q (only kind l) j e) (k, x) m))
        found k x m (Some y) z =
            meant_first q (only kind l) only_unique (length (only kind (take k l)), y)
            (record { there = only_at l k x y m.there z; passes = alike x y z ∙ m.passes })

        go : (o : Option (ℕ × A)) → first p l ≡ o → first q (only kind l) ≡ (o >>= λ k. kind k.1 >>= λ y. Some (length (only kind (take k.0 l)), y))
        go None e =
            unless (λ k z.
            let m = first_meant q (only kind l) k z in
            let a = only_from l k.0 k.1 m.there in
            never (sym e ∙ meant_first p l u (a.place, a.it) (record { there = a.there; passes = sym (alike a.it k.1 a.is) ∙ m.passes })))
        go (Some k) e = found k.0 k.1 (first_meant p l k e) (kind k.1) refl
