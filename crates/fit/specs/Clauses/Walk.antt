-- What the code that walks over the items and members of a value's text, and over the names of the table, answers. Assumes nothing.
use Rattle.std.specs.Prelude.{ℕ, ◌≤◌, ◌≡◌, Bool, cond, ◌&&◌, List, length, drop, eqb, ℤ, Option, Some, None}
use Rattle.ascii.specs.Bytes.{head, tail, ◌>>=◌, count, same}
use Rattle.ascii.specs.Clauses.Reader.{rest}
use Rattle.json_text.specs.Json.{Json, object, Members, string_end, inside, skip, key, bare, value, object_end}
use Rattle.datainfo.specs.Datainfo.{Datainfo, Variant, enum, Fields, Parts}
use Rattle.fit.specs.Fit.{member_number, keys, value_at}

-- the bytes from the first item or member on, past the opening bracket; none where the closing one follows
unfoldable pub first : ℕ → List ℕ → Option (List ℕ)
first close xs = cond (eqb (head (skip xs)) close) None (Some xs)

-- the bytes past a comma (44)
unfoldable pub comma : List ℕ → Option (List ℕ)
comma xs = cond (eqb (head xs) 44) (Some (tail xs)) None

-- past an item, or the value of a member, and a comma
unfoldable pub after_item : ℕ → List ℕ → Option (List ℕ)
after_item d xs = rest (value d xs) >>= comma

-- past a member and a comma
unfoldable pub after_member : ℕ → List ℕ → Option (List ℕ)
after_member d xs = rest (key xs) >>= after_item d

-- where the value of a member begins
unfoldable pub member_value : List ℕ → Option (List ℕ)
member_value xs = rest (key xs) >>= λ r. Some (skip r)

-- t are the bytes between the quotes of a string, if one is at the front of xs
pub record Quoted (xs t : List ℕ) : Type 0 where
  pub is : {r : List ℕ} → head xs ≡ 34 → string_end (tail xs) ≡ Some r → t ≡ inside (tail xs) r

-- t is what o reads, if it reads anything
pub record Reads (o : Option (List ℕ × List ℕ)) (t : List ℕ) : Type 0 where
  pub is : {k r : List ℕ} → o ≡ Some (k, r) → t ≡ k

-- r is the number of the member of a name, or that there is none
abbrev pub Answers : Option (ℤ × ℕ) → Option ℤ → Type 0
Answers (Some (n, e)) o = o ≡ Some n
Answers None o = o ≡ None

-- the same of the enum that o reads; where it can't be read, r is any
pub record NumberOf (o : Option (Datainfo × List ℕ)) (name : List ℕ) (r : Option (ℤ × ℕ)) : Type 0 where
  pub is : {vs : List Variant} {x : List ℕ} → o ≡ Some (enum vs, x) → Answers r (member_number vs name)

-- r is what f says of the members that q reads; where they can't be read, r is any
pub record OfObject {A : Type 0} (q : Option (Json × List ℕ)) (f : Members → A) (r : A) : Type 0 where
  pub is : {ms : Members} {y : List ℕ} → q ≡ Some (object ms, y) → r ≡ f ms

-- the same of what o reads of a struct
pub record OfStruct {A : Type 0} (o : Option (Parts × List ℕ)) (f : Parts → A) (r : A) : Type 0 where
  pub is : {m : Parts} {x : List ℕ} → o ≡ Some (m, x) → r ≡ f m

-- the same of both
pub record OfBoth {A : Type 0} (o : Option (Parts × List ℕ)) (q : Option (Json × List ℕ)) (f : Fields → Members → A) (r : A) : Type 0 where
  pub is : {m : Parts} {x : List ℕ} {ms : Members} {y : List ℕ} → o ≡ Some (m, x) → q ≡ Some (object ms, y) → r ≡ f m.1 ms

-- r is whether a name is that of the optional member at the front; where no member can be read there, r is any
pub record OfEntry (o : Option ((Bool × List ℕ) × List ℕ)) (name : List ℕ) (r : Bool) : Type 0 where
  pub is : {a : Bool × List ℕ} {y : List ℕ} → o ≡ Some (a, y) → r ≡ (a.0 && same name a.1)

-- the value that is read, whatever is left
abbrev pub value_of : Option (Json × List ℕ) → Option Json
value_of o = o >>= λ p. Some p.0

-- position r of v, at the value of a key of one of these members; none where none has the key
abbrev pub Found : ℕ → List ℕ → List ℕ → Members → Option ℕ → Type 0
Found d v name ms (Some i) = value_of (bare d (drop i v)) ≡ Some (value_at name ms)
Found d v name ms None = count (same name) (keys ms) ≡ 0

-- the same of the members past the '{' at a position; where they can't be read, r is any position
pub record Finds (d : ℕ) (v : List ℕ) (p : ℕ) (name : List ℕ) (r : Option ℕ) : Type 0 where
  pub within : {i : ℕ} → r ≡ Some i → i ≤ length v
  pub is : {ms : Members} {y : List ℕ} → object_end (value d) (drop p v) ≡ Some (object ms, y) → Found d v name ms r
