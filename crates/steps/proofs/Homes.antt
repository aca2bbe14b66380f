-- The module of an accessible that is found by its names is found. Assumes nothing.
use Rattle.std.specs.Prelude.{Some, slice_get}
use Prim.Native.Nat.{ℕ, zero, suc}
use native.Mathlib.Omega.{arith}
use mathlib.Core.Bool.{Bool, true, false, cond, false≢true}
use mathlib.Core.List.{List, [], ◌∷◌, ◌++◌, map}
use mathlib.Core.Path.{◌≡◌, refl, sym, ap, ◌∙◌}
use Rattle.ascii.specs.Bytes.{same, is_some}
use Rattle.ascii.proofs.Lists.{both}
use Rattle.table.specs.Table.{Accessible, Module, Table}
use Rattle.table.specs.Rules.{accessible_name}
use Rattle.table.specs.Search.{Placed, placed_from, first_from, first, find_module}
use Rattle.table.proofs.Accessibles.{in_some}
use Rattle.table.proofs.Search.{first_there, first_passes}
use Rattle.index.specs.Accessibles.{accessibles, is_named, find_accessible}

module _ (m : List ℕ) where
  -- an accessible whose module has this name stands in no module of another name
  elsewhere : (n : ℕ) (name : List ℕ) → same m name ≡ false → {P : Type 0} (l : List Accessible) (more : List (Placed Accessible))
      → ((i : ℕ) (x : Placed Accessible) → slice_get more i ≡ Some x → same m x.module_name ≡ true → P) → (i : ℕ) (x : Placed Accessible)
      → slice_get (map (λ (a : Accessible). record { home = n; module_name = name; it = a }) l ++ more) i ≡ Some x → same m x.module_name ≡ true → P
  elsewhere n name d [] more f i x e s = f i x e s
  elsewhere n name d (a ∷ l) more f zero x e s =
      let q : ◌≡◌ {A = Placed Accessible} (record { home = n; module_name = name; it = a }) x = in_some e in
      let z : false ≡ true = sym d ∙ ap (λ (y : Placed Accessible). same m y.module_name) q ∙ s in
      absurd (false≢true z)
  elsewhere n name d (a ∷ l) more f (suc i) x e s = elsewhere n name d l more f i x e s

  home_there : (ms : List Module) (n j i : ℕ) (x : Placed Accessible) → slice_get (placed_from (λ xs. xs) n ms) i ≡ Some x → same m x.module_name ≡ true
      → is_some (first_from (λ (y : Module). same m y.name) j ms) ≡ true
  unfolding placed_from first_from
  home_there [] n j i x e s = let z : ◌≡◌ {A = ℕ} 0 1 = cc in absurd (omega arith)
  home_there (y ∷ ms) n j i x e s = go (same m y.name) refl (λ k z. home_there ms (suc n) (suc j) k z)
    where
      go : (b : Bool) → same m y.name ≡ b
          → ((k : ℕ) (z : Placed Accessible) → slice_get (placed_from (λ xs. xs) (suc n) ms) k ≡ Some z → same m z.module_name ≡ true
          → is_some (first_from (λ (z : Module). same m z.name) (suc j) ms) ≡ true)
          → is_some (cond b (Some (j, y)) (first_from (λ (z : Module). same m z.name) (suc j) ms)) ≡ true
      go true d f = refl
      go false d f = elsewhere n y.name d y.accessibles (placed_from (λ xs. xs) (suc n) ms) f i x e s

pub home_found : (t : Table) (m a : List ℕ) (k : ℕ × Placed Accessible) → find_accessible t m a ≡ Some k → is_some (find_module t m) ≡ true
unfolding find_accessible find_module first accessibles
home_found t m a k e =
    let there = first_there (is_named m a) (accessibles t) k e in
    let named = first_passes (is_named m a) (accessibles t) k e in
    home_there m t.modules 0 0 k.0 k.1 there (both (same m k.1.module_name) (same a (accessible_name k.1.it)) named).0
