-- What is read with some levels is read with more. Assumes nothing.
use Prim.Native.Nat.{ℕ, zero, suc}
use Rattle.json_text.specs.Json.{Json, null, boolean, number, string, array, object, Items, no_items, item, Members, no_members, member}
use Rattle.json_text.specs.Readable.{Readable, ReadableItems, ReadableMembers}

mutual
  pub more : (v : Json) (n : ℕ) → Readable n v → Readable (suc n) v
  more null n r = r
  more (boolean b) n r = r
  more (number t) n r = r
  more (string s) n r = r
  more (array is) zero r = absurd r
  more (array is) (suc n) r = more_items_lem is n r
  more (object ms) zero r = absurd r
  more (object ms) (suc n) r = more_members_lem ms n r

  more_items_lem : (is : Items) (n : ℕ) → ReadableItems n is → ReadableItems (suc n) is
  more_items_lem no_items n r = tt
  more_items_lem (item v is) n r = (more v n r.0, more_items_lem is n r.1)

  more_members_lem : (ms : Members) (n : ℕ) → ReadableMembers n ms → ReadableMembers (suc n) ms
  more_members_lem no_members n r = tt
  more_members_lem (member k v ms) n r = (r.0, more v n r.1, more_members_lem ms n r.2)
