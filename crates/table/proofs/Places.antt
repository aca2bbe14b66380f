-- Each parameter of a table that can be read has its initial value where it says: `place` is where in the table's bytes it begins. The reason:
-- what a reader leaves is an end of the table, so its length tells where it begins. Assumes nothing.
use Rattle.std.specs.Prelude.{Option, Some, None, slice_get}
use Prim.Native.Nat.{ℕ, zero, suc, ◌+◌, ◌-◌, ◌≤◌, ◌<◌}
use native.Mathlib.Omega.{arith}
use mathlib.Core.Path.{◌≡◌, refl, ap, subst, ◌∙◌}
use mathlib.Core.Bool.{Bool, true, false, cond, ◌||◌}
use mathlib.Core.List.{List, [], ◌∷◌, ◌++◌, map}
use lib.Dec.{leb, eqb}
use lib.ListN.{length, take, drop, length-drop, drop_of_length-le}
use lib.Seq.{take-nil, drop-drop}
use borrow.Author.Tests.{leb-true, leb-false}
use Rattle.ascii.specs.Text.{bytes}
use Rattle.ascii.specs.Bytes.{◌>>=◌, after, part}
use Rattle.fit.proofs.Shapes.{steps}
use Rattle.table.specs.Table.{Parameter, Accessible, parameter, command, Module, Table, with_modules}
use Rattle.table.specs.Layout.{begins, parameter_at, command_at, accessibles_at, module_at, modules_at, head_at, whole_table, read_table}
use Rattle.table.specs.Search.{Placed, parameters_of, placed_from, parameters}
use Rattle.table.proofs.Accessibles.{in_some}
use Rattle.table.proofs.Leaves.{Within, failed, left, Rest, Ending, r_after, w_counted, w_flag, w_datainfo, w_unsigned, w_argument, w_marked, w_head}

-- ## Ends of the table, and what lies where it says

record End (s xs : List ℕ) : Type 0 where
  pub from : ℕ
  pub is : xs ≡ drop from s

ends : {s : List ℕ} → Ending (End s)
ends {s} k xs h = record { from = h.from + k; is = ap (drop k) h.is ∙ drop-drop k h.from s }

take_own : (k : ℕ) (f : List ℕ) → take (length (take k f)) f ≡ take k f
take_own zero f = refl
take_own (suc k) [] = refl
take_own (suc k) (x ∷ f) = ap (λ (l : List ℕ). x ∷ l) (take_own k f)

lies : (s f : List ℕ) → End s f → (k : ℕ) → take (length (take k f)) (drop (length s - length f) s) ≡ take k f
lies s f e k = go (leb e.from (length s)) (leb-true e.from (length s)) (leb-false e.from (length s))
  where
    size : length f ≡ length s - e.from
    size = ap length e.is ∙ length-drop e.from s

    go : (t : Bool) → (t ≡ true → e.from ≤ length s) → (t ≡ false → length s < e.from) → take (length (take k f)) (drop (length s - length f) s) ≡ take k f
    go true p q =
        let h = p refl in
        let z = size in
        let at : length s - length f ≡ e.from = omega arith in
        rw (at, ← e.is) (take_own k f)
    go false p q =
        let h = q refl in
        let none_left : f ≡ [] = e.is ∙ drop_of_length-le s {i = e.from} (omega arith) in
        rw (none_left, take-nil k)

-- the initial value lies where the parameter says
abbrev pub Lies : List ℕ → Parameter → Type 0
Lies s p = take (length p.initial) (drop p.place s) ≡ p.initial

module _ (s : List ℕ) where
  abbrev Fine : Accessible → Type 0
  Fine (parameter p) = Lies s p
  Fine (command c) = Unit {0}

  abbrev AllFine : List Accessible → Type 0
  AllFine [] = Unit {0}
  AllFine (a ∷ l) = Fine a × AllFine l

  abbrev ModulesFine : List Module → Type 0
  ModulesFine [] = Unit {0}
  ModulesFine (m ∷ l) = AllFine m.accessibles × ModulesFine l

-- ## Readers

-- P holds of what was read, and what is left is an end of s
data Gives {A : Type 0} (s : List ℕ) (P : A → Type 0) : Option (A × List ℕ) → Type 0 where
  nothing : Gives s P None
  gives : {p : A × List ℕ} → P p.0 → End s p.1 → Gives s P (Some p)

module _ {s : List ℕ} where
  g_cond : {A : Type 0} {P : A → Type 0} (b : Bool) {x y : Option (A × List ℕ)} → Gives s P x → Gives s P y → Gives s P (cond b x y)
  g_cond true p q = p
  g_cond false p q = q

  g_then : {A B : Type 0} {P : B → Type 0} {o : Option (A × List ℕ)} {f : A × List ℕ → Option (B × List ℕ)} → Within (End s) o → ((p : A × List ℕ) → End s p.1 → Gives s P (f p)) → Gives s P (o >>= f)
  g_then failed h = nothing
  g_then (left {p = p} g) h = h p g

  g_rest : {B : Type 0} {P : B → Type 0} {o : Option (List ℕ)} {f : List ℕ → Option (B × List ℕ)} → Rest (End s) o → ((r : List ℕ) → End s r → Gives s P (f r)) → Gives s P (o >>= f)
  g_rest failed h = nothing
  g_rest (left {r = r} g) h = h r g

  g_on : {A B : Type 0} {P : A → Type 0} {R : B → Type 0} {o : Option (A × List ℕ)} {f : A × List ℕ → Option (B × List ℕ)} → Gives s P o → ((p : A × List ℕ) → P p.0 → End s p.1 → Gives s R (f p)) → Gives s R (o >>= f)
  g_on nothing h = nothing
  g_on (gives {p = p} a g) h = h p a g

  g_part : (k : ℕ) {xs : List ℕ} → End s xs → Gives s (λ v. v ≡ take k xs) (part k xs)
  unfolding part
  g_part k {xs} h = g_cond (leb k (length xs)) (gives refl (ends k xs h)) nothing

  g_parameter : {xs : List ℕ} → End s xs → Gives s (Fine s) (parameter_at (length s) xs)
  unfolding parameter_at
  g_parameter h =
      g_rest (r_after ends (bytes "PA") h)
      (λ a g. g_then (w_counted ends g) (λ p i. g_then (w_counted ends i) (λ q j. g_then (w_flag ends j) (λ r l. g_then (w_datainfo ends 4 r.1 l) (λ d e. g_then (w_unsigned ends 2 e)
      (λ u v. g_on (g_part u.0 v) (λ x is y. gives (rw is (lies s u.1 v u.0)) y)))))))

  g_command : {xs : List ℕ} → End s xs → Gives s (Fine s) (command_at xs)
  unfolding command_at
  g_command h =
      g_rest (r_after ends (bytes "CM") h)
      (λ a g. g_then (w_counted ends g) (λ p i. g_then (w_counted ends i) (λ q j. g_then (w_flag ends j) (λ r l. g_then (w_argument ends r.0 l) (λ d e. gives tt e)))))

  g_accessibles : (k : ℕ) {xs : List ℕ} → End s xs → Gives s (AllFine s) (accessibles_at (length s) k xs)
  unfolding accessibles_at
  g_accessibles zero h = gives tt h
  g_accessibles (suc k) {xs} h =
      g_cond (begins (bytes "PA") xs || begins (bytes "CM") xs)
      (g_on (g_cond (begins (bytes "PA") xs) (g_parameter h) (g_command h)) (λ p a e. g_on (g_accessibles k e) (λ q b l. gives (a, b) l)))
      (gives tt h)

  g_module : {xs : List ℕ} → End s xs → Gives s (λ m. AllFine s m.accessibles) (module_at (length s) xs)
  unfolding module_at
  g_module h =
      g_rest (r_after ends (bytes "MO") h)
      (λ a g. g_then (w_counted ends g) (λ p i. g_then (w_counted ends i) (λ q j. g_then (w_marked ends (bytes "NO") j)
      (λ r l. g_on (g_accessibles (length r.1) l) (λ d f e. gives f e)))))

  g_modules : (k : ℕ) {xs : List ℕ} → End s xs → Gives s (ModulesFine s) (modules_at (length s) k xs)
  unfolding modules_at
  g_modules zero h = gives tt h
  g_modules (suc k) {xs} h =
      g_cond (begins (bytes "MO") xs) (g_on (g_module h) (λ p a e. g_on (g_modules k e) (λ q b l. gives (a, b) l))) (gives tt h)

-- ## The whole table

end_of : {A : Type 0} {s : List ℕ} {p : A × List ℕ} → Within (End s) (Some p) → End s p.1
end_of (left h) = h

given : {A : Type 0} {s : List ℕ} {P : A → Type 0} {p : A × List ℕ} → Gives s P (Some p) → P p.0
given (gives a h) = a

whole_fine : (s : List ℕ) (t : Table) → whole_table s ≡ Some t → ModulesFine s t.modules
unfolding whole_table
whole_fine s t w =
    steps (head_at s) _ w
    (λ a ha na. let ea = end_of (subst (Within (End s)) ha (w_head ends (record { from = zero; is = refl }))) in
    steps (modules_at (length s) (length a.1) a.1) _ na
    (λ d hd nd. let fine = given (subst (Gives s (ModulesFine s)) hd (g_modules (length a.1) ea)) in
    steps (after (bytes "EN") d.1) _ nd
    (λ e he ne. subst (ModulesFine s) (go (eqb (length e) 0) (with_modules a.0 d.0) ne) fine)))
  where
    go : (b : Bool) (u : Table) → cond b (Some u) None ≡ Some t → u.modules ≡ t.modules
    go true u e = ap (λ (x : Table). x.modules) (in_some e)
    go false u e = let z : ◌≡◌ {A = ℕ} 0 1 = cc in absurd (omega arith)

read_fine : (s : List ℕ) (t : Table) → read_table s ≡ Some t → ModulesFine s t.modules
unfolding read_table
read_fine s t = go (leb (length s) 16384)
  where
    go : (b : Bool) → cond b (whole_table s) None ≡ Some t → ModulesFine s t.modules
    go true e = whole_fine s t e
    go false e = let z : ◌≡◌ {A = ℕ} 0 1 = cc in absurd (omega arith)

-- ## Parameters by number

module _ (s : List ℕ) where
  of_module : (n : ℕ) (m : List ℕ) (l : List Accessible) (more : List (Placed Parameter)) → AllFine s l
      → ((k : ℕ) (p : Placed Parameter) → slice_get more k ≡ Some p → Lies s p.it)
      → (k : ℕ) (p : Placed Parameter) → slice_get (map (λ (a : Parameter). record { home = n; module_name = m; it = a }) (parameters_of l) ++ more) k ≡ Some p → Lies s p.it
  unfolding parameters_of
  of_module n m [] more f g k p e = g k p e
  of_module n m (parameter q ∷ l) more f g zero p e = subst (λ (x : Placed Parameter). Lies s x.it) (in_some e) f.0
  of_module n m (parameter q ∷ l) more f g (suc k) p e = of_module n m l more f.1 g k p e
  of_module n m (command c ∷ l) more f g k p e = of_module n m l more f.1 g k p e

  of_modules : (n : ℕ) (l : List Module) → ModulesFine s l → (k : ℕ) (p : Placed Parameter) → slice_get (placed_from parameters_of n l) k ≡ Some p → Lies s p.it
  unfolding placed_from
  of_modules n [] f k p e = let z : ◌≡◌ {A = ℕ} 0 1 = cc in absurd (omega arith)
  of_modules n (m ∷ l) f k p e = of_module n m.name m.accessibles (placed_from parameters_of (suc n) l) f.0 (of_modules (suc n) l f.1) k p e

  pub initial_lies : (t : Table) → read_table s ≡ Some t → (k : ℕ) (p : Placed Parameter) → slice_get (parameters t) k ≡ Some p → Lies s p.it
  unfolding parameters
  initial_lies t h k p e = of_modules 0 t.modules (read_fine s t h) k p e
