-- Laws of names that tell the accessibles of a table apart. Assumes nothing.
use Rattle.std.specs.Prelude.{Some, slice_get}
use Prim.Native.Nat.{ℕ, zero, suc, ◌+◌}
use native.Mathlib.Nat.{zero-add}
use native.Mathlib.Omega.{arith}
use mathlib.Core.Path.{◌≡◌, refl, sym, ap, ◌∙◌}
use mathlib.Core.Bool.{Bool, true, false, not, ◌&&◌, ◌||◌, false≢true}
use mathlib.Core.List.{List, [], ◌∷◌, ◌++◌, map}
use mathlib.Core.Logic.{◌⊎◌, inl, inr}
use lib.ListN.{length}
use borrow.Author.Tests.{not-true}
use Rattle.ascii.specs.Bytes.{all, any, same}
use Rattle.ascii.proofs.Lists.{both, same_self, same_is}
use Rattle.ascii.specs.Names.{is_name, is_text, lowercase, distinct, unique}
use Rattle.datainfo.specs.Rules.{good_names}
use Rattle.table.specs.Table.{Accessible, Module, Table}
use Rattle.table.specs.Rules.{accessible_name, note_good, accessible_names_good, module_names_good, edition_good, names_good}
use Rattle.table.specs.Search.{Placed, placed_from}
use Rattle.index.specs.Accessibles.{accessibles, is_named}
use Rattle.index.specs.Theorems.{Unique}
use Rattle.table.proofs.Accessibles.{in_some}
use Rattle.table.proofs.Whole.{never}

-- ## Lists

module _ {A : Type 0} where
  -- an element of two lists, one after another, is one of the first or of the second
  append_there :
      (xs ys : List A) (i : ℕ) (x : A) → slice_get (xs ++ ys) i ≡ Some x
      → (slice_get xs i ≡ Some x) ⊎ ((k : ℕ) × (i ≡ length xs + k) × (slice_get ys k ≡ Some x))
  append_there [] ys i x e = inr (i, sym (zero-add i), e)
  append_there (w ∷ xs) ys zero x e = inl e
  append_there (w ∷ xs) ys (suc i) x e = go (append_there xs ys i x e)
    where
      go :
          (slice_get xs i ≡ Some x) ⊎ ((k : ℕ) × (i ≡ length xs + k) × (slice_get ys k ≡ Some x))
          → (slice_get xs i ≡ Some x) ⊎ ((k : ℕ) × (suc i ≡ suc (length xs) + k) × (slice_get ys k ≡ Some x))
      go (inl h) = inl h
      go (inr h) = inr (h.0, omega (arith, h.1), h.2)

  any_there : (f : A → Bool) (l : List A) (i : ℕ) (x : A) → slice_get l i ≡ Some x → f x ≡ true → any f l ≡ true
  unfolding any
  any_there f [] i x e h = absurd (never e)
  any_there f (y ∷ l) zero x e h = rw (ap f (in_some e) ∙ h)
  any_there f (y ∷ l) (suc i) x e h = rw (any_there f l i x e h) (go (f y))
    where
      go : (t : Bool) → t || true ≡ true
      go true = refl
      go false = refl

  module _ {B : Type 0} (f : A → B) where
    there_map : (l : List A) (i : ℕ) (x : A) → slice_get l i ≡ Some x → slice_get (map f l) i ≡ Some (f x)
    there_map [] i x e = absurd (never e)
    there_map (y ∷ l) zero x e = ap (λ (z : A). Some (f z)) (in_some e)
    there_map (y ∷ l) (suc i) x e = there_map l i x e

    map_there : (l : List A) (i : ℕ) (y : B) → slice_get (map f l) i ≡ Some y → (x : A) × (slice_get l i ≡ Some x) × (f x ≡ y)
    map_there [] i y e = absurd (never e)
    map_there (x ∷ l) zero y e = (x, refl, in_some e)
    map_there (x ∷ l) (suc i) y e = map_there l i y e

-- ## Names

-- no two places of distinct texts have the same text
distinct_first :
    (y : List ℕ) (l : List (List ℕ)) → not (any (same y) l) && distinct l ≡ true → (j : ℕ) (x : List ℕ) → slice_get l j ≡ Some x → y ≡ x → ⊥
distinct_first y l d j x e h =
    false≢true
    (sym (not-true (any (same y) l) (both (not (any (same y) l)) (distinct l) d).0)
    ∙ any_there (same y) l j x e (ap (same y) (sym h) ∙ same_self y))

distinct_one : (l : List (List ℕ)) → distinct l ≡ true → (i j : ℕ) (x : List ℕ) → slice_get l i ≡ Some x → slice_get l j ≡ Some x → i ≡ j
unfolding distinct
distinct_one [] d i j x e f = absurd (never e)
distinct_one (y ∷ l) d zero zero x e f = refl
distinct_one (y ∷ l) d zero (suc j) x e f = absurd (distinct_first y l d j x f (in_some e))
distinct_one (y ∷ l) d (suc i) zero x e f = absurd (distinct_first y l d i x e (in_some f))
distinct_one (y ∷ l) d (suc i) (suc j) x e f = ap suc (distinct_one l (both (not (any (same y) l)) (distinct l) d).1 i j x e f)

unique_one : (l : List (List ℕ)) → unique l ≡ true → (i j : ℕ) (x : List ℕ) → slice_get l i ≡ Some x → slice_get l j ≡ Some x → i ≡ j
unfolding unique
unique_one l d i j x e f = distinct_one (map lowercase l) d i j (lowercase x) (there_map lowercase l i x e) (there_map lowercase l j x f)

unique_tail : (x : List ℕ) (l : List (List ℕ)) → unique (x ∷ l) ≡ true → unique l ≡ true
unfolding unique distinct
unique_tail x l d = (both (not (any (same (lowercase x)) (map lowercase l))) (distinct (map lowercase l)) d).1

-- ## The accessibles of modules, of which the first has the number n

abbrev module_name : Module → List ℕ
module_name m = m.name

abbrev pub place : {A : Type 0} → ℕ → Module → A → Placed A
place n m a = record { home = n; module_name = m.name; it = a }

abbrev whole : List Accessible → List Accessible
whole xs = xs

-- each is one of a module of its module's name
placed_module_lem :
    (n : ℕ) (ms : List Module) (i : ℕ) (x : Placed Accessible) → slice_get (placed_from whole n ms) i ≡ Some x
    → (h : ℕ) × (slice_get (map module_name ms) h ≡ Some x.module_name)
unfolding placed_from
placed_module_lem n [] i x e = absurd (never e)
placed_module_lem n (m ∷ ms) i x e = go (append_there (map (place n m) m.accessibles) (placed_from whole (suc n) ms) i x e) (placed_module_lem (suc n) ms)
  where
    go :
        (slice_get (map (place n m) m.accessibles) i ≡ Some x)
        ⊎ ((k : ℕ) × (i ≡ length (map (place n m) m.accessibles) + k) × (slice_get (placed_from whole (suc n) ms) k ≡ Some x))
        → ((k : ℕ) (y : Placed Accessible) → slice_get (placed_from whole (suc n) ms) k ≡ Some y
        → (h : ℕ) × (slice_get (map module_name ms) h ≡ Some y.module_name))
        → (h : ℕ) × (slice_get (m.name ∷ map module_name ms) h ≡ Some x.module_name)
    go (inl h) f = (0, ap (λ (y : Placed Accessible). Some y.module_name) (map_there (place n m) m.accessibles i x h).2)
    go (inr h) f = let g = f h.0 x h.2 in (suc g.0, g.1)

module _ (m a : List ℕ) where
  pub named_is : (x : Placed Accessible) → is_named m a x ≡ true → (x.module_name ≡ m) × (accessible_name x.it ≡ a)
  named_is x h =
      let g = both (same m x.module_name) (same a (accessible_name x.it)) h in
      (sym (same_is m x.module_name g.0), sym (same_is a (accessible_name x.it) g.1))

  -- of one module
  module_one :
      (n : ℕ) (w : Module) → unique (map accessible_name w.accessibles) ≡ true → (i j : ℕ) (x y : Placed Accessible)
      → slice_get (map (place n w) w.accessibles) i ≡ Some x → slice_get (map (place n w) w.accessibles) j ≡ Some y
      → is_named m a x ≡ true → is_named m a y ≡ true → i ≡ j
  module_one n w u i j x y e f g h = unique_one (map accessible_name w.accessibles) u i j a (name i x e g) (name j y f h)
    where
      name :
          (i : ℕ) (x : Placed Accessible) → slice_get (map (place n w) w.accessibles) i ≡ Some x → is_named m a x ≡ true
          → slice_get (map accessible_name w.accessibles) i ≡ Some a
      name i x e g =
          let z = map_there (place n w) w.accessibles i x e in
          there_map accessible_name w.accessibles i z.0 z.1
          ∙ ap Some (ap (λ (y : Placed Accessible). accessible_name y.it) z.2 ∙ (named_is x g).1)

  -- of one module and of another
  module_other :
      (n k : ℕ) (w : Module) (ws : List Module) → unique (map module_name (w ∷ ws)) ≡ true → (i j : ℕ) (x y : Placed Accessible)
      → slice_get (map (place n w) w.accessibles) i ≡ Some x → slice_get (placed_from whole k ws) j ≡ Some y
      → is_named m a x ≡ true → is_named m a y ≡ true → ⊥
  module_other n k w ws u i j x y e f g h =
      let z = map_there (place n w) w.accessibles i x e in
      let q = placed_module_lem k ws j y f in
      let b : w.name ≡ m = ap (λ (y : Placed Accessible). y.module_name) z.2 ∙ (named_is x g).0 in
      let c : 0 ≡ suc q.0 = unique_one (map module_name (w ∷ ws)) u 0 (suc q.0) m (ap Some b) (q.1 ∙ ap Some (named_is y h).0) in
      omega arith

  placed_unique :
      (n : ℕ) (ms : List Module) → unique (map module_name ms) ≡ true
      → ((k : ℕ) (w : Module) → slice_get ms k ≡ Some w → unique (map accessible_name w.accessibles) ≡ true)
      → Unique (is_named m a) (placed_from whole n ms)
  unfolding placed_from
  placed_unique n [] u v = record { one = λ i j x y e f g h. absurd (never e) }
  placed_unique n (w ∷ ws) u v = go (placed_unique (suc n) ws (unique_tail w.name (map module_name ws) u) (λ k. v (suc k)))
    where
      go : Unique (is_named m a) (placed_from whole (suc n) ws) → Unique (is_named m a) (map (place n w) w.accessibles ++ placed_from whole (suc n) ws)
      go r =
          record {
            one = λ i j x y e f g h.
                pick i j x y g h
                (append_there (map (place n w) w.accessibles) (placed_from whole (suc n) ws) i x e)
                (append_there (map (place n w) w.accessibles) (placed_from whole (suc n) ws) j y f);
          }
        where
          pick :
              (i j : ℕ) (x y : Placed Accessible) → is_named m a x ≡ true → is_named m a y ≡ true
              → (slice_get (map (place n w) w.accessibles) i ≡ Some x)
              ⊎ ((k : ℕ) × (i ≡ length (map (place n w) w.accessibles) + k) × (slice_get (placed_from whole (suc n) ws) k ≡ Some x))
              → (slice_get (map (place n w) w.accessibles) j ≡ Some y)
              ⊎ ((k : ℕ) × (j ≡ length (map (place n w) w.accessibles) + k) × (slice_get (placed_from whole (suc n) ws) k ≡ Some y))
              → i ≡ j
          pick i j x y g h (inl e) (inl f) = module_one n w (v 0 w refl) i j x y e f g h
          pick i j x y g h (inl e) (inr f) = absurd (module_other n (suc n) w ws u i f.0 x y e f.2 g h)
          pick i j x y g h (inr e) (inl f) = absurd (module_other n (suc n) w ws u j e.0 y x f e.2 h g)
          pick i j x y g h (inr e) (inr f) =
              let k = r.one e.0 f.0 x y e.2 f.2 g h in
              omega (arith, e.1, f.1)

-- ## Accepted tables

module_names : (w : Module) → module_names_good w ≡ true → unique (map accessible_name w.accessibles) ≡ true
unfolding module_names_good good_names
module_names w h =
    let l = w.accessibles in
    let names = map accessible_name l in
    let a = (both (is_text w.description && note_good w.note && (all is_name names && unique names)) (all accessible_names_good l) h).0 in
    let b = (both (is_text w.description && note_good w.note) (all is_name names && unique names) a).1 in
    (both (all is_name names) (unique names) b).1

modules_names :
    (ms : List Module) → all module_names_good ms ≡ true → (k : ℕ) (w : Module) → slice_get ms k ≡ Some w
    → unique (map accessible_name w.accessibles) ≡ true
unfolding all
modules_names [] h k w e = absurd (never e)
modules_names (m ∷ ms) h zero w e =
    ap (λ (z : Module). unique (map accessible_name z.accessibles)) (sym (in_some e))
    ∙ module_names m (both (module_names_good m) (all module_names_good ms) h).0
modules_names (m ∷ ms) h (suc k) w e = modules_names ms (both (module_names_good m) (all module_names_good ms) h).1 k w e

pub accessibles_unique : (t : Table) (m a : List ℕ) → names_good t ≡ true → Unique (is_named m a) (accessibles t)
unfolding names_good good_names accessibles
accessibles_unique t m a h =
    let names = map module_name t.modules in
    let texts = is_text t.equipment_id && is_text t.description && edition_good t.edition in
    let x = both (texts && (all is_name names && unique names)) (all module_names_good t.modules) h in
    let y = both texts (all is_name names && unique names) x.0 in
    let z = both (all is_name names) (unique names) y.1 in
    placed_unique m a 0 t.modules z.1 (modules_names t.modules x.1)
