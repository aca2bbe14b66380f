-- What a search by name finds stands at its number and has the names, and the module of a parameter is one of the table's. Assumes nothing.
use Rattle.std.specs.Prelude.{Some, slice_get}
use Prim.Native.Nat.{ℕ, zero, suc, ◌+◌, ◌<◌}
use native.Mathlib.Omega.{arith}
use mathlib.Core.Bool.{Bool, true, false, cond, ◌&&◌}
use mathlib.Core.List.{List, [], ◌∷◌, ◌++◌, map}
use mathlib.Core.Path.{◌≡◌, refl, sym, ap, subst, ◌∙◌}
use lib.ListN.{length}
use Rattle.ascii.specs.Bytes.{same}
use Rattle.ascii.proofs.Lists.{both, same_is}
use Rattle.table.specs.Table.{Accessible, Parameter, Command, Module, Table}
use Rattle.table.specs.Search.{Placed, parameters_of, placed_from, parameters, commands, first_from, first, find_module, find_parameter, find_command}
use Rattle.table.proofs.Accessibles.{in_some}
use Rattle.table.proofs.Whole.{never}

-- ## What is found

module _ {A : Type 0} (p : A → Bool) where
  -- a search's find, after n elements that did not pass
  record Stands (n : ℕ) (l : List A) (k : ℕ × A) : Type 0 where
    pub place : ℕ
    pub number : k.0 ≡ n + place
    pub there : slice_get l place ≡ Some k.1
    pub passes : p k.1 ≡ true

  stands_from : (n : ℕ) (l : List A) (k : ℕ × A) → first_from p n l ≡ Some k → Stands n l k
  unfolding first_from
  stands_from n [] k e = absurd (never e)
  stands_from n (x ∷ l) k e = go (p x) refl (λ z. stands_from (suc n) l k z) e
    where
      go : (b : Bool) → p x ≡ b → (first_from p (suc n) l ≡ Some k → Stands (suc n) l k) → cond b (Some (n, x)) (first_from p (suc n) l) ≡ Some k → Stands n (x ∷ l) k
      go true z f e =
          let q : ◌≡◌ {A = ℕ × A} (n, x) k = in_some e in
          record { place = 0; number = omega (arith, ap (λ (y : ℕ × A). y.0) q); there = ap (λ (y : ℕ × A). Some y.1) q; passes = ap (λ (y : ℕ × A). p y.1) (sym q) ∙ z }
      go false z f e = let g = f e in let h = g.number in record { place = suc g.place; number = omega arith; there = g.there; passes = g.passes }

  pub first_there : (l : List A) (k : ℕ × A) → first p l ≡ Some k → slice_get l k.0 ≡ Some k.1
  unfolding first
  first_there l k e =
      let g = stands_from 0 l k e in
      let h = g.number in
      let i : g.place ≡ k.0 = omega arith in
      subst (λ (j : ℕ). slice_get l j ≡ Some k.1) i g.there

  pub first_passes : (l : List A) (k : ℕ × A) → first p l ≡ Some k → p k.1 ≡ true
  unfolding first
  first_passes l k e = (stands_from 0 l k e).passes

-- the test of two names
abbrev pub is_named : {A : Type 0} → (A → List ℕ) → List ℕ → List ℕ → Placed A → Bool
is_named name m a x = same m x.module_name && same a (name x.it)

named_is : {A : Type 0} (name : A → List ℕ) (m a : List ℕ) (x : Placed A) → is_named name m a x ≡ true → (x.module_name ≡ m) × (name x.it ≡ a)
named_is name m a x e =
    let h = both (same m x.module_name) (same a (name x.it)) e in
    (sym (same_is m x.module_name h.0), sym (same_is a (name x.it) h.1))

-- a module that is found stands at its number, and has the name
module _ (t : Table) (m : List ℕ) (k : ℕ × Module) (e : find_module t m ≡ Some k) where
  pub module_there : slice_get t.modules k.0 ≡ Some k.1
  unfolding find_module
  module_there = first_there _ t.modules k e

  pub module_named_lem : k.1.name ≡ m
  unfolding find_module
  module_named_lem = sym (same_is m k.1.name (first_passes _ t.modules k e))

-- a parameter that is found stands at its number, and has both names
module _ (t : Table) (m a : List ℕ) (k : ℕ × Placed Parameter) (e : find_parameter t m a ≡ Some k) where
  pub parameter_there : slice_get (parameters t) k.0 ≡ Some k.1
  unfolding find_parameter
  parameter_there = first_there _ (parameters t) k e

  pub parameter_named : (k.1.module_name ≡ m) × (k.1.it.name ≡ a)
  unfolding find_parameter
  parameter_named = named_is (λ (x : Parameter). x.name) m a k.1 (first_passes _ (parameters t) k e)

-- so does a command
module _ (t : Table) (m a : List ℕ) (k : ℕ × Placed Command) (e : find_command t m a ≡ Some k) where
  pub command_there : slice_get (commands t) k.0 ≡ Some k.1
  unfolding find_command
  command_there = first_there _ (commands t) k e

  pub command_named : (k.1.module_name ≡ m) × (k.1.it.name ≡ a)
  unfolding find_command
  command_named = named_is (λ (x : Command). x.name) m a k.1 (first_passes _ (commands t) k e)

-- ## Homes

-- the module of a parameter or a command is one of the table's
module _ {A : Type 0} (of : List Accessible → List A) where
  home_of : (n : ℕ) (name : List ℕ) (l : List A) (more : List (Placed A)) (b : ℕ) → n < b
      → ((i : ℕ) (x : Placed A) → slice_get more i ≡ Some x → x.home < b) → (i : ℕ) (x : Placed A)
      → slice_get (map (λ (a : A). record { home = n; module_name = name; it = a }) l ++ more) i ≡ Some x → x.home < b
  home_of n name [] more b h f i x e = f i x e
  home_of n name (a ∷ l) more b h f zero x e =
      let q : ◌≡◌ {A = Placed A} (record { home = n; module_name = name; it = a }) x = in_some e in
      omega (arith, ap (λ (y : Placed A). y.home) q)
  home_of n name (a ∷ l) more b h f (suc i) x e = home_of n name l more b h f i x e

  home_low_lem : (ms : List Module) (n i : ℕ) (x : Placed A) → slice_get (placed_from of n ms) i ≡ Some x → x.home < n + length ms
  unfolding placed_from
  home_low_lem [] n i x e = let z : ◌≡◌ {A = ℕ} 0 1 = cc in absurd (omega arith)
  home_low_lem (m ∷ ms) n i x e =
      home_of n m.name (of m.accessibles) (placed_from of (suc n) ms) (n + suc (length ms)) (omega arith)
      (λ j y q. omega (arith, home_low_lem ms (suc n) j y q)) i x e

pub parameter_home : (w : Table) (k : ℕ) (p : Placed Parameter) → slice_get (parameters w) k ≡ Some p → p.home < length w.modules
unfolding parameters
parameter_home w k p e = omega (arith, home_low_lem parameters_of w.modules 0 k p e)
