-- Laws of what is made of an array's items or of an object's members. Assumes nothing.
use Prim.Native.Nat.{ℕ, zero, suc}
use mathlib.Core.Bool.{Bool, true, false, cond}
use mathlib.Core.List.{List, ◌∷◌}
use mathlib.Core.Path.{◌≡◌, refl, sym, ap, ap₂}
use Rattle.ascii.specs.Bytes.{same}
use Rattle.ascii.proofs.Lists.{same_is}
use Rattle.json_text.specs.Json.{Json, null, boolean, Items, no_items, item, Members, no_members, member}
use Rattle.json_text.specs.Readable.{Readable, ReadableItems, ReadableMembers}
use Rattle.fit.specs.Fit.{Verdict, fits, expect, as_array, as_object, item_count, keys, value_at, within, on_items, on_members, map_items, map_members}
use Rattle.form.specs.Numbers.{if_any}

-- ## Arrays

module _ (f : Items → Items) where
  pub items_twice : ((is : Items) → f (f is) ≡ f is) → (v : Json) → on_items f (on_items f v) ≡ on_items f v
  unfolding within as_array
  items_twice h null = refl
  items_twice h (boolean b) = refl
  items_twice h (Json.number t) = refl
  items_twice h (Json.string s) = refl
  items_twice h (Json.array is) = ap Json.array (h is)
  items_twice h (Json.object ms) = refl

  pub items_readable : ((n : ℕ) (is : Items) → ReadableItems n is → ReadableItems n (f is)) → (n : ℕ) (v : Json)
      → Readable n v → Readable n (on_items f v)
  unfolding within as_array
  items_readable h n null r = r
  items_readable h n (boolean b) r = r
  items_readable h n (Json.number t) r = r
  items_readable h n (Json.string s) r = r
  items_readable h zero (Json.array is) r = r
  items_readable h (suc n) (Json.array is) r = h n is r
  items_readable h n (Json.object ms) r = r

  -- a value that has to be an array, and is kept one
  pub items_fit : (p q : Items → Verdict) (r : Items → Bool) → ((is : Items) → p is ≡ fits → (q (f is) ≡ fits) × (r (f is) ≡ true)) → (v : Json)
      → expect (as_array v) p ≡ fits → (expect (as_array (on_items f v)) q ≡ fits) × (if_any (as_array (on_items f v)) r ≡ true)
  unfolding within as_array expect if_any
  items_fit p q r h null e = (e, refl)
  items_fit p q r h (boolean b) e = (e, refl)
  items_fit p q r h (Json.number t) e = (e, refl)
  items_fit p q r h (Json.string s) e = (e, refl)
  items_fit p q r h (Json.array is) e = h is e
  items_fit p q r h (Json.object ms) e = (e, refl)

pub map_twice : (f : Json → Json) → ((v : Json) → f (f v) ≡ f v) → (is : Items) → map_items f (map_items f is) ≡ map_items f is
unfolding map_items
map_twice f h no_items = refl
map_twice f h (item v is) = ap₂ item (h v) (map_twice f h is)

pub map_count : (f : Json → Json) (is : Items) → item_count (map_items f is) ≡ item_count is
unfolding map_items item_count
map_count f no_items = refl
map_count f (item v is) = ap suc (map_count f is)

pub map_readable : (f : Json → Json) → ((n : ℕ) (v : Json) → Readable n v → Readable n (f v)) → (n : ℕ) (is : Items)
    → ReadableItems n is → ReadableItems n (map_items f is)
unfolding map_items
map_readable f h n no_items r = tt
map_readable f h n (item v is) r = (h n v r.0, map_readable f h n is r.1)

-- ## Objects

pub on_on : (f g : Members → Members) (v : Json) → on_members f (on_members g v) ≡ on_members (λ ms. f (g ms)) v
unfolding within as_object
on_on f g null = refl
on_on f g (boolean b) = refl
on_on f g (Json.number t) = refl
on_on f g (Json.string s) = refl
on_on f g (Json.array is) = refl
on_on f g (Json.object ms) = refl

pub on_same : (f g : Members → Members) → ((ms : Members) → f ms ≡ g ms) → (v : Json) → on_members f v ≡ on_members g v
unfolding within as_object
on_same f g h null = refl
on_same f g h (boolean b) = refl
on_same f g h (Json.number t) = refl
on_same f g h (Json.string s) = refl
on_same f g h (Json.array is) = refl
on_same f g h (Json.object ms) = ap Json.object (h ms)

pub on_id : (f : Members → Members) → ((ms : Members) → f ms ≡ ms) → (v : Json) → on_members f v ≡ v
unfolding within as_object
on_id f h null = refl
on_id f h (boolean b) = refl
on_id f h (Json.number t) = refl
on_id f h (Json.string s) = refl
on_id f h (Json.array is) = refl
on_id f h (Json.object ms) = ap Json.object (h ms)

module _ (f : Members → Members) where
  pub members_readable : (n : ℕ) (v : Json)
      → ((m : ℕ) (ms : Members) → n ≡ suc m → v ≡ Json.object ms → ReadableMembers m ms → ReadableMembers m (f ms))
      → Readable n v → Readable n (on_members f v)
  unfolding within as_object
  members_readable n null h r = r
  members_readable n (boolean b) h r = r
  members_readable n (Json.number t) h r = r
  members_readable n (Json.string s) h r = r
  members_readable n (Json.array is) h r = r
  members_readable zero (Json.object ms) h r = r
  members_readable (suc n) (Json.object ms) h r = h n ms refl refl r

  -- a value that has to be an object, and is kept one
  pub members_fit_lem : (p q : Members → Verdict) (r : Members → Bool) → ((ms : Members) → p ms ≡ fits → (q (f ms) ≡ fits) × (r (f ms) ≡ true))
      → (v : Json) → expect (as_object v) p ≡ fits → (expect (as_object (on_members f v)) q ≡ fits) × (if_any (as_object (on_members f v)) r ≡ true)
  unfolding within as_object expect if_any
  members_fit_lem p q r h null e = (e, refl)
  members_fit_lem p q r h (boolean b) e = (e, refl)
  members_fit_lem p q r h (Json.number t) e = (e, refl)
  members_fit_lem p q r h (Json.string s) e = (e, refl)
  members_fit_lem p q r h (Json.array is) e = (e, refl)
  members_fit_lem p q r h (Json.object ms) e = h ms e

-- members whose values are exchanged
module _ (f : List ℕ → Json → Json) where
  pub map_keys : (ms : Members) → keys (map_members f ms) ≡ keys ms
  unfolding map_members keys
  map_keys no_members = refl
  map_keys (member k v ms) = ap (◌∷◌ k) (map_keys ms)

  pub map_again : ((k : List ℕ) (v : Json) → f k (f k v) ≡ f k v) → (ms : Members) → map_members f (map_members f ms) ≡ map_members f ms
  unfolding map_members
  map_again h no_members = refl
  map_again h (member k v ms) = ap₂ (member k) (h k v) (map_again h ms)

  pub map_members_lem : ((n : ℕ) (k : List ℕ) (v : Json) → Readable n v → Readable n (f k v)) → (n : ℕ) (ms : Members)
      → ReadableMembers n ms → ReadableMembers n (map_members f ms)
  unfolding map_members
  map_members_lem h n no_members r = tt
  map_members_lem h n (member k v ms) r = (r.0, h n k v r.1, map_members_lem h n ms r.2)

  -- the value at a key
  pub map_value : ((k : List ℕ) → f k null ≡ null) → (k : List ℕ) (ms : Members) → value_at k (map_members f ms) ≡ f k (value_at k ms)
  unfolding map_members value_at
  map_value h k no_members = sym (h k)
  map_value h k (member j v ms) = go (same k j) refl (map_value h k ms)
    where
      go : (b : Bool) → same k j ≡ b → value_at k (map_members f ms) ≡ f k (value_at k ms)
          → cond b (f j v) (value_at k (map_members f ms)) ≡ f k (cond b v (value_at k ms))
      go true e i = ap (λ j. f j v) (sym (same_is k j e))
      go false e i = i

pub value_readable : (n : ℕ) (k : List ℕ) (ms : Members) → ReadableMembers n ms → Readable n (value_at k ms)
unfolding value_at
value_readable n k no_members r = tt
value_readable n k (member j v ms) r = go (same k j) (value_readable n k ms r.2)
  where
    go : (b : Bool) → Readable n (value_at k ms) → Readable n (cond b v (value_at k ms))
    go true i = r.1
    go false i = i
