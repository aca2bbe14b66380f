-- A reader of compact text without escapes, and that it gives back the value whose text it is. Assumes nothing.
use Prim.Native.Nat.{ℕ, zero, suc, ◌+◌, ◌≤◌}
use native.Mathlib.Omega.{arith}
use mathlib.Core.Bool.{Bool, true, false, cond, true≢false}
use mathlib.Core.List.{List, [], ◌∷◌, ◌++◌, append_assoc, append-nil}
use mathlib.Core.Path.{◌≡◌, refl, sym, ◌∙◌, ap}
use lib.Dec.{eqb}
use lib.ListN.{drop}
use Rattle.ascii.specs.Text.{bytes}
use Rattle.ascii.specs.Bytes.{all, take_while, drop_while, head, tail, is_in}
use Rattle.ascii.specs.Names.{is_text_byte, is_text}
use Rattle.ascii.proofs.Lists.{taken, dropped, taken_at, dropped_at, differs, Lacks, lacks, before, beyond, before_at, beyond_at}
use Rattle.json_text.specs.Json.{Json, null, boolean, number, string, array, object, Items, no_items, item, Members, no_members, member}
use Rattle.json_text.specs.Json.{quoted, compact, compact_items, more_items, compact_members, more_members}
use Rattle.report.proofs.Numbers.{is_numeric, Numeric}

-- ## The reader: n bounds how many parts are read

-- a key with its quotes and colon, and what follows
abbrev key_of : List ℕ → List ℕ
key_of xs = before 34 (tail xs)

abbrev past_key : List ℕ → List ℕ
past_key xs = tail (beyond 34 (tail xs))

abbrev array_of : Items × List ℕ → Json × List ℕ
array_of p = (array p.0, p.1)

abbrev object_of : Members × List ℕ → Json × List ℕ
object_of p = (object p.0, p.1)

abbrev with_item : Json → Items × List ℕ → Items × List ℕ
with_item v q = (item v q.0, q.1)

abbrev with_member : List ℕ → Json → Members × List ℕ → Members × List ℕ
with_member k v q = (member k v q.0, q.1)

unfoldable mutual
  -- a value: a string ('"', 34), an array ('[', 91), an object ('{', 123), `true` ('t', 116), `false` ('f', 102) or a number
  pub read_value : ℕ → List ℕ → Json × List ℕ
  read_value zero xs = (null, xs)
  read_value (suc n) xs =
      cond (eqb (head xs) 34) (string (key_of xs), beyond 34 (tail xs))
      (cond (eqb (head xs) 91) (array_of (read_items n (tail xs)))
      (cond (eqb (head xs) 123) (object_of (read_members n (tail xs)))
      (cond (eqb (head xs) 116) (boolean true, drop 4 xs)
      (cond (eqb (head xs) 102) (boolean false, drop 5 xs) (number (take_while is_numeric xs), drop_while is_numeric xs)))))

  -- past a '[': ']' (93), or an item and more
  pub read_items : ℕ → List ℕ → Items × List ℕ
  read_items zero xs = (no_items, xs)
  read_items (suc n) xs = cond (eqb (head xs) 93) (no_items, tail xs) (read_item n xs)

  -- a comma (44), an item and more; or ']'
  pub read_more : ℕ → List ℕ → Items × List ℕ
  read_more zero xs = (no_items, xs)
  read_more (suc n) xs = cond (eqb (head xs) 44) (read_item n (tail xs)) (no_items, tail xs)

  pub read_item : ℕ → List ℕ → Items × List ℕ
  read_item zero xs = (no_items, xs)
  read_item (suc n) xs = with_item (read_value n xs).0 (read_more n (read_value n xs).1)

  -- past a '{': '}' (125), or a member and more
  pub read_members : ℕ → List ℕ → Members × List ℕ
  read_members zero xs = (no_members, xs)
  read_members (suc n) xs = cond (eqb (head xs) 125) (no_members, tail xs) (read_member n xs)

  pub read_rest : ℕ → List ℕ → Members × List ℕ
  read_rest zero xs = (no_members, xs)
  read_rest (suc n) xs = cond (eqb (head xs) 44) (read_member n (tail xs)) (no_members, tail xs)

  pub read_member : ℕ → List ℕ → Members × List ℕ
  read_member zero xs = (no_members, xs)
  read_member (suc n) xs = with_member (key_of xs) (read_value n (past_key xs)).0 (read_rest n (read_value n (past_key xs)).1)

-- ## What is read back

-- strings and keys as texts are, numbers of a number's bytes, and no null
abbrev mutual
  pub Plain : Json → Type 0
  Plain null = ⊥
  Plain (boolean b) = Unit {0}
  Plain (number t) = Numeric t
  Plain (string s) = is_text s ≡ true
  Plain (array is) = PlainItems is
  Plain (object ms) = PlainMembers ms

  pub PlainItems : Items → Type 0
  PlainItems no_items = Unit {0}
  PlainItems (item v is) = Plain v × PlainItems is

  pub PlainMembers : Members → Type 0
  PlainMembers no_members = Unit {0}
  PlainMembers (member k v ms) = (is_text k ≡ true) × Plain v × PlainMembers ms

-- how many parts are read at most
unfoldable mutual
  pub size : Json → ℕ
  size null = 1
  size (boolean b) = 1
  size (number t) = 1
  size (string s) = 1
  size (array is) = suc (items_size is)
  size (object ms) = suc (members_size ms)

  pub items_size : Items → ℕ
  items_size no_items = 1
  items_size (item v is) = suc (suc (size v + items_size is))

  pub members_size : Members → ℕ
  members_size no_members = 1
  members_size (member k v ms) = suc (suc (size v + members_size ms))

-- what follows a value can't go on a number
pub Stop : List ℕ → Type 0
Stop xs = is_numeric (head xs) ≡ false

pub stop_end : Stop []
unfolding Stop head is_numeric is_in
stop_end = refl

stop_at : (b : ℕ) → is_numeric b ≡ false → (xs : List ℕ) → Stop (b ∷ xs)
unfolding Stop head
stop_at b e xs = e

-- ## Strings and numbers

quoted_is : (s rest : List ℕ) → quoted s ++ rest ≡ 34 ∷ s ++ 34 ∷ rest
unfolding quoted
quoted_is s rest = rw append_assoc

-- a text has no quote
text_lacks : (xs : List ℕ) → is_text xs ≡ true → Lacks 34 xs
unfolding is_text is_text_byte is_in
text_lacks xs h = lacks is_text_byte 34 refl xs h

string_back : (s : List ℕ) → is_text s ≡ true → (n : ℕ) (rest : List ℕ) → read_value (suc n) (34 ∷ s ++ 34 ∷ rest) ≡ (string s, rest)
unfolding read_value head tail
string_back s p n rest = let l = text_lacks s p in rw (before_at 34 s l rest, beyond_at 34 s l rest)

number_part : (t : List ℕ) → all is_numeric t ≡ true → (rest : List ℕ) → Stop rest
    → (take_while is_numeric (t ++ rest) ≡ t) × (drop_while is_numeric (t ++ rest) ≡ rest)
unfolding Stop head
number_part t p [] s = rw append-nil (taken is_numeric t p, dropped is_numeric t p)
number_part t p (x ∷ rest) s = (taken_at is_numeric t x rest p s, dropped_at is_numeric t x rest p s)

number_back : (t : List ℕ) → Numeric t → (n : ℕ) (rest : List ℕ) → Stop rest → read_value (suc n) (t ++ rest) ≡ (number t, rest)
unfolding read_value head is_numeric is_in
number_back [] p n rest s = let z : ◌≡◌ {A = Bool} true false = sym p.1 in absurd (true≢false z)
number_back (x ∷ t) p n rest s =
    let q = number_part (x ∷ t) p.0 rest s in
    let other : (b : ℕ) → is_numeric b ≡ false → eqb x b ≡ false = λ b f. differs is_numeric b f x p.1 in
    rw (other 34 refl, other 91 refl, other 123 refl, other 116 refl, other 102 refl, q.0, q.1)

-- ## Values, items and members, in front of what may follow

-- the first byte of a value's text is none of ']', ',' and '}'
starts : (b : ℕ) → is_numeric b ≡ false → eqb 34 b ≡ false → eqb 91 b ≡ false → eqb 123 b ≡ false → eqb 116 b ≡ false → eqb 102 b ≡ false
    → (v : Json) → Plain v → (rest : List ℕ) → eqb (head (compact v ++ rest)) b ≡ false
unfolding compact quoted bytes head is_numeric is_in
starts b n q a o t f null p rest = absurd p
starts b n q a o t f (boolean true) p rest = t
starts b n q a o t f (boolean false) p rest = f
starts b n q a o t f (number []) p rest = absurd (true≢false (sym p.1 ∙ refl))
starts b n q a o t f (number (x ∷ xs)) p rest = differs is_numeric b n x p.1
starts b n q a o t f (string s) p rest = q
starts b n q a o t f (array is) p rest = a
starts b n q a o t f (object ms) p rest = o

-- a key's text, its colon and what follows are parted
module _ (k : List ℕ) (p : is_text k ≡ true) (rest : List ℕ) where
  key_is : key_of (34 ∷ k ++ 34 ∷ 58 ∷ rest) ≡ k
  unfolding tail
  key_is = before_at 34 k (text_lacks k p) (58 ∷ rest)

  past_key_lem : past_key (34 ∷ k ++ 34 ∷ 58 ∷ rest) ≡ rest
  unfolding tail
  past_key_lem = rw (beyond_at 34 k (text_lacks k p) (58 ∷ rest))

-- one item, one member, from how its value and the rest are read
module _ (n : ℕ) where
  item_back : (v : Json) (is : Items) (xs ys rest : List ℕ) → read_value n xs ≡ (v, ys) → read_more n ys ≡ (is, rest)
      → read_item (suc n) xs ≡ (item v is, rest)
  unfolding read_item
  item_back v is xs ys rest e f = rw (e, f)

  member_back : (k : List ℕ) (v : Json) (ms : Members) (xs ys rest : List ℕ) → is_text k ≡ true → read_value n xs ≡ (v, ys)
      → read_rest n ys ≡ (ms, rest) → read_member (suc n) (34 ∷ k ++ 34 ∷ 58 ∷ xs) ≡ (member k v ms, rest)
  unfolding read_member
  member_back k v ms xs ys rest p e f = rw (key_is k p xs, past_key_lem k p xs, e, f)

  array_back : (is : Items) (xs rest : List ℕ) → read_items n xs ≡ (is, rest) → read_value (suc n) (91 ∷ xs) ≡ (array is, rest)
  unfolding read_value head tail
  array_back is xs rest e = rw e

  object_back : (ms : Members) (xs rest : List ℕ) → read_members n xs ≡ (ms, rest) → read_value (suc n) (123 ∷ xs) ≡ (object ms, rest)
  unfolding read_value head tail
  object_back ms xs rest e = rw e

array_text : (is : Items) (rest : List ℕ) → compact (array is) ++ rest ≡ 91 ∷ compact_items is ++ 93 ∷ rest
unfolding compact bytes
array_text is rest = simp append_assoc

object_text : (ms : Members) (rest : List ℕ) → compact (object ms) ++ rest ≡ 123 ∷ compact_members ms ++ 125 ∷ rest
unfolding compact bytes
object_text ms rest = simp append_assoc

member_text_lem : (k : List ℕ) (v : Json) (ms : Members) (rest : List ℕ)
    → (quoted k ++ bytes ":" ++ compact v ++ more_members ms) ++ rest ≡ 34 ∷ k ++ 34 ∷ 58 ∷ (compact v ++ (more_members ms ++ rest))
unfolding quoted bytes
member_text_lem k v ms rest = simp append_assoc

first_item : (n : ℕ) (v : Json) (is js : Items) (rest : List ℕ) → Plain v
    → read_item n (compact v ++ (more_items is ++ 93 ∷ rest)) ≡ (js, rest)
    → read_items (suc n) (compact_items (item v is) ++ 93 ∷ rest) ≡ (js, rest)
unfolding read_items compact_items is_numeric is_in
first_item n v is js rest p e =
    let ys = more_items is ++ 93 ∷ rest in
    ap (read_items (suc n)) (append_assoc (compact v) (more_items is) (93 ∷ rest))
    ∙ ap (λ t. cond t (no_items, tail (compact v ++ ys)) (read_item n (compact v ++ ys))) (starts 93 refl refl refl refl refl refl v p ys)
    ∙ e

next_item : (n : ℕ) (v : Json) (is js : Items) (rest : List ℕ)
    → read_item n (compact v ++ (more_items is ++ 93 ∷ rest)) ≡ (js, rest) → read_more (suc n) (more_items (item v is) ++ 93 ∷ rest) ≡ (js, rest)
unfolding read_more more_items bytes head tail
next_item n v is js rest e = ap (read_item n) (append_assoc (compact v) (more_items is) (93 ∷ rest)) ∙ e

first_member : (n : ℕ) (k : List ℕ) (v : Json) (ms js : Members) (rest : List ℕ)
    → read_member n (34 ∷ k ++ 34 ∷ 58 ∷ (compact v ++ (more_members ms ++ 125 ∷ rest))) ≡ (js, rest)
    → read_members (suc n) (compact_members (member k v ms) ++ 125 ∷ rest) ≡ (js, rest)
unfolding read_members compact_members head
first_member n k v ms js rest e = ap (read_members (suc n)) (member_text_lem k v ms (125 ∷ rest)) ∙ e

next_member : (n : ℕ) (k : List ℕ) (v : Json) (ms js : Members) (rest : List ℕ)
    → read_member n (34 ∷ k ++ 34 ∷ 58 ∷ (compact v ++ (more_members ms ++ 125 ∷ rest))) ≡ (js, rest)
    → read_rest (suc n) (more_members (member k v ms) ++ 125 ∷ rest) ≡ (js, rest)
unfolding read_rest more_members head tail bytes
next_member n k v ms js rest e = ap (read_member n) (member_text_lem k v ms (125 ∷ rest)) ∙ e

items_stop : (is : Items) (rest : List ℕ) → Stop (more_items is ++ 93 ∷ rest)
unfolding more_items bytes Stop head is_numeric is_in
items_stop no_items rest = refl
items_stop (item v is) rest = refl

members_stop : (ms : Members) (rest : List ℕ) → Stop (more_members ms ++ 125 ∷ rest)
unfolding more_members bytes Stop head is_numeric is_in
members_stop no_members rest = refl
members_stop (member k v ms) rest = refl

mutual
  unfolding read_value compact bytes size head tail is_numeric is_in

  pub value_back : (v : Json) → Plain v → (n : ℕ) → size v ≤ n → (rest : List ℕ) → Stop rest → read_value n (compact v ++ rest) ≡ (v, rest)
  value_back null p n h rest s = absurd p
  value_back (boolean b) p zero h rest s = absurd (omega arith)
  value_back (boolean true) p (suc n) h rest s = refl
  value_back (boolean false) p (suc n) h rest s = refl
  value_back (number t) p zero h rest s = absurd (omega arith)
  value_back (number t) p (suc n) h rest s = number_back t p n rest s
  value_back (string t) p zero h rest s = absurd (omega arith)
  value_back (string t) p (suc n) h rest s = ap (read_value (suc n)) (quoted_is t rest) ∙ string_back t p n rest
  value_back (array is) p zero h rest s = absurd (omega arith)
  value_back (array is) p (suc n) h rest s =
      ap (read_value (suc n)) (array_text is rest)
      ∙ array_back n is (compact_items is ++ 93 ∷ rest) rest (items_back is p n (omega arith) rest)
  value_back (object ms) p zero h rest s = absurd (omega arith)
  value_back (object ms) p (suc n) h rest s =
      ap (read_value (suc n)) (object_text ms rest)
      ∙ object_back n ms (compact_members ms ++ 125 ∷ rest) rest (members_back ms p n (omega arith) rest)

  items_back : (is : Items) → PlainItems is → (n : ℕ) → items_size is ≤ n → (rest : List ℕ)
      → read_items n (compact_items is ++ 93 ∷ rest) ≡ (is, rest)
  items_back no_items p zero h rest = absurd (omega arith)
  items_back no_items p (suc n) h rest = refl
  items_back (item v is) p zero h rest = absurd (omega arith)
  items_back (item v is) p (suc zero) h rest = absurd (omega arith)
  items_back (item v is) p (suc (suc n)) h rest =
      let ys = more_items is ++ 93 ∷ rest in
      first_item (suc n) v is (item v is) rest p.0 (item_back n v is (compact v ++ ys) ys rest
      (value_back v p.0 n (omega arith) ys (items_stop is rest)) (more_back is p.1 n (omega arith) rest))

  more_back : (is : Items) → PlainItems is → (n : ℕ) → items_size is ≤ n → (rest : List ℕ)
      → read_more n (more_items is ++ 93 ∷ rest) ≡ (is, rest)
  more_back no_items p zero h rest = absurd (omega arith)
  more_back no_items p (suc n) h rest = refl
  more_back (item v is) p zero h rest = absurd (omega arith)
  more_back (item v is) p (suc zero) h rest = absurd (omega arith)
  more_back (item v is) p (suc (suc n)) h rest =
      let ys = more_items is ++ 93 ∷ rest in
      next_item (suc n) v is (item v is) rest (item_back n v is (compact v ++ ys) ys rest
      (value_back v p.0 n (omega arith) ys (items_stop is rest)) (more_back is p.1 n (omega arith) rest))

  members_back : (ms : Members) → PlainMembers ms → (n : ℕ) → members_size ms ≤ n → (rest : List ℕ)
      → read_members n (compact_members ms ++ 125 ∷ rest) ≡ (ms, rest)
  members_back no_members p zero h rest = absurd (omega arith)
  members_back no_members p (suc n) h rest = refl
  members_back (member k v ms) p zero h rest = absurd (omega arith)
  members_back (member k v ms) p (suc zero) h rest = absurd (omega arith)
  members_back (member k v ms) p (suc (suc n)) h rest =
      let ys = more_members ms ++ 125 ∷ rest in
      first_member (suc n) k v ms (member k v ms) rest (member_back n k v ms (compact v ++ ys) ys rest p.0
      (value_back v p.1 n (omega arith) ys (members_stop ms rest)) (rest_back ms p.2 n (omega arith) rest))

  rest_back : (ms : Members) → PlainMembers ms → (n : ℕ) → members_size ms ≤ n → (rest : List ℕ)
      → read_rest n (more_members ms ++ 125 ∷ rest) ≡ (ms, rest)
  rest_back no_members p zero h rest = absurd (omega arith)
  rest_back no_members p (suc n) h rest = refl
  rest_back (member k v ms) p zero h rest = absurd (omega arith)
  rest_back (member k v ms) p (suc zero) h rest = absurd (omega arith)
  rest_back (member k v ms) p (suc (suc n)) h rest =
      let ys = more_members ms ++ 125 ∷ rest in
      next_member (suc n) k v ms (member k v ms) rest (member_back n k v ms (compact v ++ ys) ys rest p.0
      (value_back v p.1 n (omega arith) ys (members_stop ms rest)) (rest_back ms p.2 n (omega arith) rest))
