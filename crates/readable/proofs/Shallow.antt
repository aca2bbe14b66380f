-- A value that fits a datainfo has no more levels than the datainfo. Assumes nothing.
use Prim.Native.Nat.{ℕ, zero, suc, ◌+◌, ◌≤◌}
use native.Mathlib.Omega.{arith}
use mathlib.Core.Bool.{Bool, true, false, cond, ◌||◌}
use mathlib.Core.List.{List, [], ◌∷◌}
use mathlib.Core.Path.{◌≡◌, refl, sym, subst}
use lib.Dec.{eqb}
use borrow.Author.Tests.{eqb-true}
use Rattle.ascii.specs.Bytes.{all, any, count, same}
use Rattle.ascii.proofs.Lists.{both, same_self, same_is}
use Rattle.json_text.specs.Json.{Json, null, boolean, Items, no_items, item, Members, no_members, member}
use Rattle.json_text.specs.Readable.{Readable, ReadableItems, ReadableMembers}
use Rattle.datainfo.specs.Datainfo.{Datainfo, double, int, bool, enum, string, array, tuple, struct, scaled, blob, partial, Elements, no_elements, element}
use Rattle.datainfo.specs.Datainfo.{Fields, no_fields, field, field_names}
use Rattle.datainfo.specs.Rules.{is_between}
use Rattle.fit.specs.Fit.{Verdict, fits, wrongType, worse, in_range, expect, expect_or, as_number, as_boolean, as_string, as_array, as_object, item_count}
use Rattle.fit.specs.Fit.{worst_item, keys, each_once, value_at}
use Rattle.fit.specs.Fit.{fit, elements_fit, fields_fit}
use Rattle.form.proofs.Verdicts.{worse_both, cond_fits}
use Rattle.form.proofs.Trees.{value_readable}
use Rattle.readable.proofs.Levels.{EachElement, EachField, Inside, Deep}

-- ## Keys

-- what all pass, one that is among them passes
all_at : (p : List ℕ → Bool) (l : List (List ℕ)) (k : List ℕ) → all p l ≡ true → any (same k) l ≡ true → p k ≡ true
unfolding all any
all_at p [] k h e = let z : ◌≡◌ {A = ℕ} 0 1 = cc in absurd (omega arith)
all_at p (j ∷ l) k h e = let q = both (p j) (all p l) h in go (same k j) refl e q.0 (all_at p l k q.1)
  where
    go : (b : Bool) → same k j ≡ b → (b || any (same k) l) ≡ true → p j ≡ true → (any (same k) l ≡ true → p k ≡ true) → p k ≡ true
    go true s e q i = subst (λ i. p i ≡ true) (sym (same_is k j s)) q
    go false s e q i = i e

counted_once : (p : List ℕ → Bool) (l : List (List ℕ)) → any p l ≡ true → 1 ≤ count p l
unfolding any count
counted_once p [] e = let z : ◌≡◌ {A = ℕ} 0 1 = cc in absurd (omega arith)
counted_once p (k ∷ l) e = go (p k) e (counted_once p l)
  where
    go : (b : Bool) → (b || any p l) ≡ true → (any p l ≡ true → 1 ≤ count p l) → 1 ≤ cond b 1 0 + count p l
    go true e h = omega arith
    go false e h = omega (arith, h e)

-- of members whose keys occur once, each is the value at its key
module _ (n m : ℕ) where
  each_member : (ms : Members) → ReadableMembers m ms → ((k : List ℕ) → any (same k) (keys ms) ≡ true → count (same k) (keys ms) ≡ 1)
      → ((k : List ℕ) → any (same k) (keys ms) ≡ true → Readable n (value_at k ms)) → ReadableMembers n ms
  unfolding keys any count value_at
  each_member no_members r c h = tt
  each_member (member k v ms) r c h = (r.0, here, each_member ms r.2 (λ j e. once j e) (λ j e. there j e))
    where
      here : Readable n v
      here = let s = same_self k in rw s at (h k (rw s refl))

      -- it is another key
      other : (j : List ℕ) → any (same j) (keys ms) ≡ true → same j k ≡ false
      other j e = go (same j k) refl
        where
          go : (b : Bool) → same j k ≡ b → b ≡ false
          go true s =
              let l = counted_once (same j) (keys ms) e in
              let o = rw s at (c j (rw s refl)) in
              absurd (omega arith)
          go false s = refl

      once : (j : List ℕ) → any (same j) (keys ms) ≡ true → count (same j) (keys ms) ≡ 1
      once j e =
          let s = other j e in
          let o = rw s at (c j (rw s e)) in
          omega arith

      there : (j : List ℕ) → any (same j) (keys ms) ≡ true → Readable n (value_at j ms)
      there j e = let s = other j e in rw s at (h j (rw s e))

-- ## Values, if those inside have n levels

module _ (n : ℕ) (inner : (d : Datainfo) → Deep n d → (v : Json) (m : ℕ) → Readable m v → fit d v ≡ fits → Readable n v) where
  items_shallow : (d : Datainfo) → Deep n d → (is : Items) (m : ℕ) → ReadableItems m is → worst_item (λ w. fit d w) is ≡ fits → ReadableItems n is
  unfolding worst_item
  items_shallow d g no_items m r e = tt
  items_shallow d g (item v is) m r e =
      let p = worse_both (fit d v) (worst_item (λ w. fit d w) is) e in
      (inner d g v m r.0 p.0, items_shallow d g is m r.1 p.1)

  elements_shallow : (ds : Elements) → EachElement (Deep n) ds → (is : Items) (m : ℕ) → ReadableItems m is → elements_fit ds is ≡ fits → ReadableItems n is
  unfolding fit
  elements_shallow no_elements g no_items m r e = tt
  elements_shallow no_elements g (item v is) m r e = let z : ◌≡◌ {A = ℕ} 0 1 = cc in absurd (omega arith)
  elements_shallow (element d ds) g no_items m r e = tt
  elements_shallow (element d ds) g (item v is) m r e =
      let p = worse_both (fit d v) (elements_fit ds is) e in
      (inner d g.0 v m r.0 p.0, elements_shallow ds g.1 is m r.1 p.1)

  -- the value at a name
  field_shallow : (fs : Fields) → EachField (Deep n) fs → (ms : Members) (m : ℕ) → ReadableMembers m ms → fields_fit fs ms ≡ fits
      → (k : List ℕ) → any (same k) (field_names fs) ≡ true → Readable n (value_at k ms)
  unfolding fit field_names any
  field_shallow no_fields g ms m r e k i = let z : ◌≡◌ {A = ℕ} 0 1 = cc in absurd (omega arith)
  field_shallow (field j d fs) g ms m r e k i =
      let p = worse_both (fit d (value_at j ms)) (fields_fit fs ms) e in
      go (same k j) refl i (inner d g.0 (value_at j ms) m (value_readable m j ms r) p.0) (field_shallow fs g.1 ms m r p.1 k)
    where
      go : (b : Bool) → same k j ≡ b → (b || any (same k) (field_names fs)) ≡ true → Readable n (value_at j ms)
          → (any (same k) (field_names fs) ≡ true → Readable n (value_at k ms)) → Readable n (value_at k ms)
      go true s i h l = subst (λ x. Readable n (value_at x ms)) (sym (same_is k j s)) h
      go false s i h l = l i

  members_shallow : (fs : Fields) → EachField (Deep n) fs → (ms : Members) (m : ℕ) → ReadableMembers m ms
      → each_once (field_names fs) (keys ms) ≡ true → fields_fit fs ms ≡ fits → ReadableMembers n ms
  unfolding each_once
  members_shallow fs g ms m r o e =
      let names = field_names fs in
      let ks = keys ms in
      let p = both (all (λ k. eqb (count (same k) ks) 1) names) (all (λ k. any (same k) names) ks) o in
      let named : (k : List ℕ) → any (same k) ks ≡ true → any (same k) names ≡ true = λ k i. all_at (λ k. any (same k) names) ks k p.1 i in
      each_member n m ms r
      (λ k i. eqb-true (count (same k) ks) 1 (all_at (λ k. eqb (count (same k) ks) 1) names k p.0 (named k i)))
      (λ k i. field_shallow fs g ms m r e k (named k i))

-- ## Values of one kind

-- one that fits f, which no array and no object does
plain_shallow : (f : Json → Verdict) → ((is : Items) → f (Json.array is) ≡ wrongType) → ((ms : Members) → f (Json.object ms) ≡ wrongType)
    → (n : ℕ) (v : Json) (m : ℕ) → Readable m v → f v ≡ fits → Readable n v
plain_shallow f a o n null m r e = tt
plain_shallow f a o n (boolean b) m r e = tt
plain_shallow f a o n (Json.number t) m r e = r
plain_shallow f a o n (Json.string s) m r e = r
plain_shallow f a o n (Json.array is) m r e = let z : ◌≡◌ {A = ℕ} 0 1 = cc (a is) in absurd (omega arith)
plain_shallow f a o n (Json.object ms) m r e = let z : ◌≡◌ {A = ℕ} 0 1 = cc (o ms) in absurd (omega arith)

array_shallow : (n : ℕ) (f : Items → Verdict) → ((is : Items) (m : ℕ) → ReadableItems m is → f is ≡ fits → ReadableItems n is)
    → (v : Json) (m : ℕ) → Readable m v → expect (as_array v) f ≡ fits → Readable (suc n) v
unfolding expect as_array
array_shallow n f h null m r e = tt
array_shallow n f h (boolean b) m r e = tt
array_shallow n f h (Json.number t) m r e = r
array_shallow n f h (Json.string s) m r e = r
array_shallow n f h (Json.array is) zero r e = absurd r
array_shallow n f h (Json.array is) (suc m) r e = h is m r e
array_shallow n f h (Json.object ms) m r e = let z : ◌≡◌ {A = ℕ} 0 1 = cc in absurd (omega arith)

object_shallow : (n : ℕ) (f : Members → Verdict) → ((ms : Members) (m : ℕ) → ReadableMembers m ms → f ms ≡ fits → ReadableMembers n ms)
    → (v : Json) (m : ℕ) → Readable m v → expect (as_object v) f ≡ fits → Readable (suc n) v
unfolding expect as_object
object_shallow n f h null m r e = tt
object_shallow n f h (boolean b) m r e = tt
object_shallow n f h (Json.number t) m r e = r
object_shallow n f h (Json.string s) m r e = r
object_shallow n f h (Json.array is) m r e = let z : ◌≡◌ {A = ℕ} 0 1 = cc in absurd (omega arith)
object_shallow n f h (Json.object ms) zero r e = absurd r
object_shallow n f h (Json.object ms) (suc m) r e = h ms m r e

-- ## By the type

module _ (n : ℕ) (inner : (d : Datainfo) → Deep n d → (v : Json) (m : ℕ) → Readable m v → fit d v ≡ fits → Readable n v) where
  struct_shallow : (fs : Fields) → EachField (Deep n) fs → (v : Json) (m : ℕ) → Readable m v
      → expect (as_object v) (λ ms. cond (each_once (field_names fs) (keys ms)) (fields_fit fs ms) wrongType) ≡ fits → Readable (suc n) v
  struct_shallow fs g =
      object_shallow n (λ ms. cond (each_once (field_names fs) (keys ms)) (fields_fit fs ms) wrongType) λ ms m r e.
      let c = cond_fits (each_once (field_names fs) (keys ms)) (fields_fit fs ms) e in
      members_shallow n inner fs g ms m r c.0 c.1

  typed_shallow : (d : Datainfo) → Inside (Deep n) d → (v : Json) (m : ℕ) → Readable m v → fit d v ≡ fits → Readable (suc n) v
  unfolding fit expect expect_or as_number as_boolean as_string
  typed_shallow (double lo hi) g v m r e = plain_shallow (λ w. fit (double lo hi) w) (λ is. refl) (λ ms. refl) (suc n) v m r e
  typed_shallow (int lo hi) g v m r e = plain_shallow (λ w. fit (int lo hi) w) (λ is. refl) (λ ms. refl) (suc n) v m r e
  typed_shallow bool g v m r e = plain_shallow (λ w. fit bool w) (λ is. refl) (λ ms. refl) (suc n) v m r e
  typed_shallow (enum vs) g v m r e = plain_shallow (λ w. fit (enum vs) w) (λ is. refl) (λ ms. refl) (suc n) v m r e
  typed_shallow (string lo hi) g v m r e = plain_shallow (λ w. fit (string lo hi) w) (λ is. refl) (λ ms. refl) (suc n) v m r e
  typed_shallow (array lo hi d) g v m r e =
      array_shallow n (λ is. worse (in_range (is_between lo hi (item_count is))) (worst_item (λ w. fit d w) is)) (λ is k s f.
      items_shallow n inner d g is k s (worse_both (in_range (is_between lo hi (item_count is))) (worst_item (λ w. fit d w) is) f).1) v m r e
  typed_shallow (tuple ds) g v m r e = array_shallow n (λ is. elements_fit ds is) (λ is k s f. elements_shallow n inner ds g is k s f) v m r e
  typed_shallow (struct fs) g v m r e = struct_shallow fs g v m r e
  typed_shallow (scaled s lo hi) g v m r e = plain_shallow (λ w. fit (scaled s lo hi) w) (λ is. refl) (λ ms. refl) (suc n) v m r e
  typed_shallow (blob lo hi) g v m r e = plain_shallow (λ w. fit (blob lo hi) w) (λ is. refl) (λ ms. refl) (suc n) v m r e
  typed_shallow (partial ns fs) g v m r e = struct_shallow fs g v m r e

pub shallow : (n : ℕ) (d : Datainfo) → Deep n d → (v : Json) (m : ℕ) → Readable m v → fit d v ≡ fits → Readable n v
shallow zero d g v m r e = absurd g
shallow (suc n) d g v m r e = typed_shallow n (λ d h w k s f. shallow n d h w k s f) d g v m r e
