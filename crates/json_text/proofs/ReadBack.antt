-- What is read is a readable tree, and the compact text of a readable tree is read as that tree, whatever may follow a value. Assumes nothing.
use Rattle.std.specs.Prelude.{Option, Some, None}
use Prim.Native.Nat.{ℕ, zero, suc, ◌≤◌, ◌<◌}
use native.Mathlib.Omega.{arith}
use mathlib.Core.Path.{◌≡◌, refl, sym, ap, ap₂, ◌∙◌}
use mathlib.Core.Bool.{Bool, true, false, cond, ◌&&◌, and-eq-true_iff}
use mathlib.Core.List.{List, [], ◌∷◌, ◌++◌, append_assoc, append-nil}
use lib.ListN.{length, length-append}
use lib.Dec.{eqb, leb}
use borrow.Author.Tests.{eqb-true, leb-true, eq-eqb, le-leb}
use Rattle.ascii.specs.Text.{bytes}
use Rattle.ascii.specs.Bytes.{◌>>=◌, head, tail, drop_while, after, is_in, is_digit, is_space}
use Rattle.decimal.specs.Token as Token
use Rattle.json_text.specs.Json.{Json, null, boolean, number, string, array, object, Items, no_items, item, Members, no_members, member}
use Rattle.json_text.specs.Json.{skip, up_to, inside, chars, string_end, giving, scalar, spaced, items, array_end, key, members, object_end}
use Rattle.json_text.specs.Json.{bare, value, text}
use Rattle.json_text.specs.Json.{quoted, compact, compact_items, more_items, compact_members, more_members}
use Rattle.json_text.specs.Readable.{IsToken, IsRaw, Readable, ReadableItems, ReadableMembers}
use Rattle.json_text.specs.Theorems.{CompactIsReadBack, ReadableTrees}
use Rattle.json_text.proofs.ReadAgain.{Of, failed, gave, of_cond, of_bind, of_some, Any, Follows, takes_keeps, stays, number_takes, up_to_is}
use Rattle.json_text.proofs.ReadAgain.{Stop, stop_end, stop_comma, stop_bracket, stop_brace, Quoted, chars_quoted, inside_is}

abbrev Reader : Type 0
Reader = List ℕ → Option (Json × List ℕ)

-- ## What is read is readable

pub of_giving : {P : Json × List ℕ → Type 0} {Q : List ℕ → Type 0} (f : List ℕ → Json) {o : Option (List ℕ)}
    → Of Q o → ((r : List ℕ) → Q r → P (f r, r)) → Of P (giving f o)
of_giving f failed h = failed
of_giving f (gave {a = r} q) h = gave (h r q)

all : (o : Option (List ℕ)) → Of Any o
all None = failed
all (Some r) = gave tt

-- the bytes that were read up to a quote
raw : {xs r : List ℕ} (q : Quoted xs r) → IsRaw q.s
unfolding string_end
raw q = q.again (length (q.s ++ 34 ∷ [])) [] (simp length-append (omega arith))

abbrev Gives : ℕ → Reader → Type 0
Gives n f = (xs : List ℕ) → Of (λ p. Readable n p.0) (f xs)

scalar_gives : (n : ℕ) → Gives n scalar
unfolding scalar string_end
scalar_gives n xs =
    of_cond (eqb (head xs) 34)
    (of_giving (λ r. string (inside (tail xs) r)) (chars_quoted (length (tail xs)) (tail xs)) λ r q. rw (q.is, inside_is) (raw q))
    (of_cond (eqb (head xs) 110) (of_giving (λ r. null) (all (after (bytes "null") xs)) λ r q. tt)
    (of_cond (eqb (head xs) 116) (of_giving (λ r. boolean true) (all (after (bytes "true") xs)) λ r q. tt)
    (of_cond (eqb (head xs) 102) (of_giving (λ r. boolean false) (all (after (bytes "false") xs)) λ r q. tt)
    (of_giving (λ r. number (up_to xs r)) (takes_keeps {f = Token.number} number_takes xs) λ r p.
    rw (p.is, up_to_is) (rw append-nil at (p.again [] stop_end))))))

key_gives : (xs : List ℕ) → Of (λ p. IsRaw p.0) (key xs)
unfolding key string_end
key_gives xs =
    let ys : List ℕ = tail (skip xs) in
    of_cond (eqb (head (skip xs)) 34)
    (of_bind (chars_quoted (length ys) ys) λ r q. of_cond (eqb (head (skip r)) 58) (gave (rw (q.is, inside_is) (raw q))) failed)
    failed

module _ (n : ℕ) (f : Reader) (h : Gives n f) where
  spaced_gives : Gives n (spaced f)
  unfolding spaced
  spaced_gives xs = of_bind (h (skip xs)) λ p r. gave r

  items_gives : (m : ℕ) (xs : List ℕ) → Of (λ p. ReadableItems n p.0) (items f m xs)
  unfolding items
  items_gives zero xs = failed
  items_gives (suc m) xs = of_bind (h xs) λ p r.
      of_cond (eqb (head p.1) 93) (gave (r, tt))
      (of_cond (eqb (head p.1) 44) (of_bind (items_gives m (tail p.1)) λ q s. gave (r, s)) failed)

  members_gives : (m : ℕ) (xs : List ℕ) → Of (λ p. ReadableMembers n p.0) (members f m xs)
  unfolding members
  members_gives zero xs = failed
  members_gives (suc m) xs = of_bind (key_gives xs) λ k j. of_bind (h k.1) λ p r.
      of_cond (eqb (head p.1) 125) (gave (j, r, tt))
      (of_cond (eqb (head p.1) 44) (of_bind (members_gives m (tail p.1)) λ q s. gave (j, r, s)) failed)

  array_gives : Gives (suc n) (array_end f)
  unfolding array_end
  array_gives xs = of_cond (eqb (head (skip xs)) 93) (gave tt) (of_bind (items_gives (length xs) xs) λ p r. gave r)

  object_gives : Gives (suc n) (object_end f)
  unfolding object_end
  object_gives xs = of_cond (eqb (head (skip xs)) 125) (gave tt) (of_bind (members_gives (length xs) xs) λ p r. gave r)

bare_gives : (n : ℕ) → Gives n (bare n)
unfolding bare
bare_gives zero xs = scalar_gives zero xs
bare_gives (suc n) xs =
    let inner = spaced_gives n (bare n) (bare_gives n) in
    of_cond (eqb (head xs) 91) (array_gives n (value n) inner (tail xs))
    (of_cond (eqb (head xs) 123) (object_gives n (value n) inner (tail xs)) (scalar_gives (suc n) xs))

text_gives : (xs : List ℕ) → Of (Readable 8) (text xs)
unfolding text
text_gives xs = of_bind (spaced_gives 8 (bare 8) (bare_gives 8) xs) λ p r. of_cond (eqb (length p.1) 0) (gave r) failed

-- ## Tokens and strings are read again, whatever follows them

raw_again : (s : List ℕ) → IsRaw s → (n : ℕ) (rest : List ℕ) → length s < n → chars n (s ++ 34 ∷ rest) ≡ Some rest
unfolding string_end
raw_again s e = go (of_some (rw e at (chars_quoted (length (s ++ 34 ∷ [])) (s ++ 34 ∷ []))))
  where
    go : Quoted (s ++ 34 ∷ []) [] → (n : ℕ) (rest : List ℕ) → length s < n → chars n (s ++ 34 ∷ rest) ≡ Some rest
    go q = rw (sym (inside_is s []) ∙ ap (λ z. inside z []) q.is ∙ inside_is q.s []) q.again

raw_end : (s : List ℕ) → IsRaw s → (rest : List ℕ) → string_end (s ++ 34 ∷ rest) ≡ Some rest
unfolding string_end
raw_end s e rest = raw_again s e (length (s ++ 34 ∷ rest)) rest (simp length-append (omega arith))

digit_starts : (x : ℕ) → is_digit x ≡ true → is_in 45 57 x ≡ true
unfolding is_in
digit_starts x h =
    let p = (and-eq-true_iff (leb 48 x) (leb x 57)).0 h in
    ap₂ ◌&&◌ (le-leb 45 x (omega (arith, leb-true 48 x p.0))) p.1

-- a token begins with a minus (45) or a digit
token_starts : (x : ℕ) (t : List ℕ) → IsToken (x ∷ t) → is_in 45 57 x ≡ true
unfolding Token.number Token.minus Token.int Token.digits head tail is_in
token_starts x t e = go (eqb x 45) refl (eqb x 48) refl (is_digit x) refl e
  where
    go :
        (a : Bool) → eqb x 45 ≡ a → (b : Bool) → eqb x 48 ≡ b → (c : Bool) → is_digit x ≡ c
        → (Token.int (cond a t (x ∷ t)) >>= Token.frac >>= Token.exp) ≡ Some []
        → is_in 45 57 x ≡ true
    go true f b g c h e = rw (eqb-true x 45 f)
    go false f true g c h e = rw (eqb-true x 48 g)
    go false f false g true h e = digit_starts x h
    go false f false g false h e = let z : ◌≡◌ {A = ℕ} 0 1 = cc in absurd (omega arith)

after_is : (w rest : List ℕ) → after w (w ++ rest) ≡ Some rest
unfolding after
after_is [] rest = refl
after_is (x ∷ w) rest = rw (eq-eqb x x refl) (after_is w rest)

-- so it begins with no other byte
starts_other : (x : ℕ) → is_in 45 57 x ≡ true → (c : ℕ) → is_in 45 57 c ≡ false → eqb x c ≡ false
starts_other x h c f = go (eqb x c) refl
  where
    go : (b : Bool) → eqb x c ≡ b → b ≡ false
    go true e = let z : x ≡ c = eqb-true x c e in cc
    go false e = refl

-- ## Past the first byte

-- the compact text of v begins with a byte that is neither a space nor ']' (93), and f reads it
record Spelled (f : Reader) (v : Json) : Type 0 where
  x : ℕ
  t : List ℕ
  is : compact v ≡ x ∷ t
  space : eqb x 32 ≡ false
  bracket : eqb x 93 ≡ false
  again : (rest : List ℕ) → Stop rest → f (x ∷ t ++ rest) ≡ Some (v, rest)

-- a text that begins as a scalar does
scalar_first : (n x : ℕ) (t : List ℕ) → eqb x 91 ≡ false → eqb x 123 ≡ false → bare n (x ∷ t) ≡ scalar (x ∷ t)
unfolding bare head
scalar_first zero x t e f = refl
scalar_first (suc n) x t e f = rw (e, f)

null_spelled : (n : ℕ) → Spelled (bare n) null
unfolding scalar head compact bytes
null_spelled n = record {
  x = 110;
  t = bytes "ull";
  is = refl;
  space = refl;
  bracket = refl;
  again = λ rest s. rw (scalar_first n 110 (bytes "ull" ++ rest) refl refl, after_is (bytes "null") rest);
}

boolean_spelled : (n : ℕ) (b : Bool) → Spelled (bare n) (boolean b)
unfolding scalar head compact bytes
boolean_spelled n true = record {
  x = 116;
  t = bytes "rue";
  is = refl;
  space = refl;
  bracket = refl;
  again = λ rest s. rw (scalar_first n 116 (bytes "rue" ++ rest) refl refl, after_is (bytes "true") rest);
}
boolean_spelled n false = record {
  x = 102;
  t = bytes "alse";
  is = refl;
  space = refl;
  bracket = refl;
  again = λ rest s. rw (scalar_first n 102 (bytes "alse" ++ rest) refl refl, after_is (bytes "false") rest);
}

string_spelled : (n : ℕ) (s : List ℕ) → IsRaw s → Spelled (bare n) (string s)
unfolding scalar head tail compact quoted
string_spelled n s e = record {
  x = 34;
  t = s ++ 34 ∷ [];
  is = refl;
  space = refl;
  bracket = refl;
  again = λ rest i. rw (scalar_first n 34 ((s ++ 34 ∷ []) ++ rest) refl refl, append_assoc s (34 ∷ []) rest, raw_end s e rest, inside_is s rest);
}

number_spelled : (n : ℕ) (t : List ℕ) → IsToken t → Spelled (bare n) (number t)
unfolding scalar head compact is_in
number_spelled n [] e = let z : ◌≡◌ {A = ℕ} 0 1 = cc number_takes.0 in absurd (omega arith)
number_spelled n (x ∷ t) e = go (of_some (rw e at (number_takes.1 x t)))
  where
    other : (c : ℕ) → is_in 45 57 c ≡ false → eqb x c ≡ false
    other = starts_other x (token_starts x t e)

    go : Follows (λ z. Token.number (x ∷ z)) Stop Any t [] → Spelled (bare n) (number (x ∷ t))
    go p =
        let is : t ≡ p.t = p.is ∙ append-nil p.t in
        let again : (rest : List ℕ) → Stop rest → Token.number (x ∷ t ++ rest) ≡ Some rest = λ rest s. rw is (p.again rest s) in
        record {
          x = x;
          t = t;
          is = refl;
          space = other 32 refl;
          bracket = other 93 refl;
          again = λ rest s. rw (
            scalar_first n x (t ++ rest) (other 91 refl) (other 123 refl),
            other 34 refl,
            other 110 refl,
            other 116 refl,
            other 102 refl,
            again rest s,
            up_to_is (x ∷ t) rest,
          );
        }

-- ## With spaces around it

-- f reads the compact text of v
record Written (f : Reader) (v : Json) : Type 0 where
  space : (rest : List ℕ) → eqb (head (compact v ++ rest)) 32 ≡ false
  bracket : (rest : List ℕ) → eqb (head (compact v ++ rest)) 93 ≡ false
  again : (rest : List ℕ) → Stop rest → f (compact v ++ rest) ≡ Some (v, rest)

spaced_written : (f : Reader) {v : Json} → Spelled f v → Written (spaced f) v
unfolding spaced head drop_while
spaced_written f s = record {
  space = λ rest. rw s.is s.space;
  bracket = λ rest. rw s.is s.bracket;
  again = λ rest i. rw (s.is, s.space, s.again rest i, stays is_space rest i.space);
}

-- ## Keys

pub quoted_is : (s rest : List ℕ) → quoted s ++ rest ≡ 34 ∷ s ++ 34 ∷ rest
unfolding quoted
quoted_is s rest = rw append_assoc

pub key_again : (k : List ℕ) → IsRaw k → (rest : List ℕ) → key (quoted k ++ 58 ∷ rest) ≡ Some (k, rest)
unfolding key drop_while head tail
key_again k e rest = rw (quoted_is k (58 ∷ rest), raw_end k e (58 ∷ rest)) (ap (λ s. Some (s, rest)) (inside_is k (58 ∷ rest)))

-- ## Arrays and objects, of values that g reads

-- the text from the first item on, and from the first member on
pub items_text : (v : Json) (is : Items) (rest : List ℕ) → compact_items (item v is) ++ rest ≡ compact v ++ (more_items is ++ rest)
unfolding compact
items_text v is rest = append_assoc (compact v) (more_items is) rest

pub members_text_lem : (k : List ℕ) (v : Json) (ms : Members) (rest : List ℕ)
    → compact_members (member k v ms) ++ rest ≡ quoted k ++ 58 ∷ (compact v ++ (more_members ms ++ rest))
unfolding compact bytes
members_text_lem k v ms rest = simp append_assoc

module _ (g : Reader) where
  -- a turn for each byte is enough
  abbrev ItemsAgain : Items → Type 0
  ItemsAgain is = (n : ℕ) (rest : List ℕ) → length (compact_items is ++ 93 ∷ rest) ≤ n
      → items g n (compact_items is ++ 93 ∷ rest) ≡ Some (is, rest)

  abbrev MembersAgain : Members → Type 0
  MembersAgain ms = (n : ℕ) (rest : List ℕ) → length (compact_members ms ++ 125 ∷ rest) ≤ n
      → members g n (compact_members ms ++ 125 ∷ rest) ≡ Some (ms, rest)

  -- the text of the items begins with neither a space nor ']', stands behind a comma where an item precedes it, and is read
  record Listed (is : Items) : Type 0 where
    space : (rest : List ℕ) → eqb (head (compact_items is ++ rest)) 32 ≡ false
    bracket : (rest : List ℕ) → eqb (head (compact_items is ++ rest)) 93 ≡ false
    more : more_items is ≡ 44 ∷ compact_items is
    again : ItemsAgain is

  record Joined (ms : Members) : Type 0 where
    starts : (rest : List ℕ) → head (compact_members ms ++ rest) ≡ 34
    more : more_members ms ≡ 44 ∷ compact_members ms
    again : MembersAgain ms

  module _ {v : Json} (w : Written g v) where
    first_item : (is : Items) → ItemsAgain (item v is) → Listed (item v is)
    unfolding compact bytes
    first_item is a = record {
      space = λ rest. rw items_text (w.space (more_items is ++ rest));
      bracket = λ rest. rw items_text (w.bracket (more_items is ++ rest));
      more = refl;
      again = a;
    }

    last_item : ItemsAgain (item v no_items)
    unfolding compact items head tail
    last_item zero rest b = absurd (omega (arith, simp length-append at b))
    last_item (suc n) rest b = rw (items_text v no_items (93 ∷ rest), w.again (93 ∷ rest) (stop_bracket rest))

    next_item : {is : Items} → Listed is → ItemsAgain (item v is)
    unfolding items head tail
    next_item l zero rest b = absurd (omega (arith, simp (items_text, l.more, length-append) at b))
    next_item {is = is} l (suc n) rest b =
        let ys : List ℕ = compact_items is ++ 93 ∷ rest in
        rw (
          items_text v is (93 ∷ rest),
          l.more,
          w.again (44 ∷ ys) (stop_comma ys),
          l.again n rest (omega (arith, simp (length-append (compact v)) at (rw (items_text, l.more) at b))),
        )

    module _ {k : List ℕ} (j : (rest : List ℕ) → key (quoted k ++ 58 ∷ rest) ≡ Some (k, rest)) where
      first_member : (ms : Members) → MembersAgain (member k v ms) → Joined (member k v ms)
      unfolding compact bytes quoted head
      first_member ms a = record { starts = λ rest. refl; more = refl; again = a }

      last_member : MembersAgain (member k v no_members)
      unfolding compact members head tail
      last_member zero rest b = absurd (omega (arith, simp length-append at b))
      last_member (suc n) rest b =
          rw (members_text_lem k v no_members (125 ∷ rest), j (compact v ++ 125 ∷ rest), w.again (125 ∷ rest) (stop_brace rest))

      next_member : {ms : Members} → Joined ms → MembersAgain (member k v ms)
      unfolding members head tail
      next_member l zero rest b = absurd (omega (arith, simp (members_text_lem, l.more, length-append) at b))
      next_member {ms} l (suc n) rest b =
          let ys : List ℕ = compact_members ms ++ 125 ∷ rest in
          rw (
            members_text_lem k v ms (125 ∷ rest),
            l.more,
            j (compact v ++ 44 ∷ ys),
            w.again (44 ∷ ys) (stop_comma ys),
            l.again n rest
                (omega (arith, simp (length-append (quoted k), length-append (compact v)) at (rw (members_text_lem, l.more) at b))),
          )

  array_again : {is : Items} → Listed is
      → (rest : List ℕ) → array_end g (compact_items is ++ 93 ∷ rest) ≡ Some (array is, rest)
  unfolding array_end
  array_again {is} l rest =
      let xs : List ℕ = compact_items is ++ 93 ∷ rest in
      rw (stays is_space xs (l.space (93 ∷ rest)), l.bracket (93 ∷ rest), l.again (length xs) rest (omega arith))

  object_again : {ms : Members} → Joined ms
      → (rest : List ℕ) → object_end g (compact_members ms ++ 125 ∷ rest) ≡ Some (object ms, rest)
  unfolding object_end
  object_again {ms} l rest =
      let xs : List ℕ = compact_members ms ++ 125 ∷ rest in
      rw (stays is_space xs (rw l.starts), l.starts, l.again (length xs) rest (omega arith))

  -- any items, and any members
  abbrev Listing : Items → Type 0
  Listing no_items = Unit {0}
  Listing (item v is) = Listed (item v is)

  abbrev Joining : Members → Type 0
  Joining no_members = Unit {0}
  Joining (member k v ms) = Joined (member k v ms)

  more_items_lem : {v : Json} (is : Items) → Written g v → Listing is → Listed (item v is)
  more_items_lem no_items w l = first_item w no_items (last_item w)
  more_items_lem (item u is) w l = first_item w (item u is) (next_item w l)

  more_members_lem : {k : List ℕ} {v : Json} (ms : Members) → IsRaw k → Written g v → Joining ms → Joined (member k v ms)
  more_members_lem {k} no_members e w l = first_member w (key_again k e) no_members (last_member w (key_again k e))
  more_members_lem {k} (member j u ms) e w l = first_member w (key_again k e) (member j u ms) (next_member w (key_again k e) l)

array_spelled : (n : ℕ) (is : Items) → Listing (value n) is → Spelled (bare (suc n)) (array is)
unfolding bare array_end compact bytes drop_while head tail
array_spelled n no_items l =
    record { x = 91; t = 93 ∷ []; is = refl; space = refl; bracket = refl; again = λ rest s. refl }
array_spelled n (item v is) l = record {
  x = 91;
  t = compact_items (item v is) ++ 93 ∷ [];
  is = refl;
  space = refl;
  bracket = refl;
  again = λ rest s. rw append_assoc (array_again (value n) l rest);
}

object_spelled : (n : ℕ) (ms : Members) → Joining (value n) ms → Spelled (bare (suc n)) (object ms)
unfolding bare object_end compact bytes drop_while head tail
object_spelled n no_members l =
    record { x = 123; t = 125 ∷ []; is = refl; space = refl; bracket = refl; again = λ rest s. refl }
object_spelled n (member k v ms) l = record {
  x = 123;
  t = compact_members (member k v ms) ++ 125 ∷ [];
  is = refl;
  space = refl;
  bracket = refl;
  again = λ rest s. rw append_assoc (object_again (value n) l rest);
}

-- ## Values

mutual
  spelled : (v : Json) (n : ℕ) → Readable n v → Spelled (bare n) v
  spelled null n r = null_spelled n
  spelled (boolean b) n r = boolean_spelled n b
  spelled (number t) n r = number_spelled n t r
  spelled (string s) n r = string_spelled n s r
  spelled (array is) zero r = absurd r
  spelled (array is) (suc n) r = array_spelled n is (listing is n r)
  spelled (object ms) zero r = absurd r
  spelled (object ms) (suc n) r = object_spelled n ms (joining ms n r)

  listing : (is : Items) (n : ℕ) → ReadableItems n is → Listing (value n) is
  listing no_items n r = tt
  listing (item v is) n r = more_items_lem (value n) is (spaced_written (bare n) (spelled v n r.0)) (listing is n r.1)

  joining : (ms : Members) (n : ℕ) → ReadableMembers n ms → Joining (value n) ms
  joining no_members n r = tt
  joining (member k v ms) n r =
      more_members_lem (value n) ms r.0 (spaced_written (bare n) (spelled v n r.1)) (joining ms n r.2)

-- a value in front of what may follow one, and the members of an object up to its end
pub value_again : (n : ℕ) (v : Json) → Readable n v → (rest : List ℕ) → Stop rest → value n (compact v ++ rest) ≡ Some (v, rest)
value_again n v r rest s = (spaced_written (bare n) (spelled v n r)).again rest s

pub members_end : (n : ℕ) (ms : Members) → ReadableMembers n ms → (rest : List ℕ) → object_end (value n) (compact_members ms ++ 125 ∷ rest) ≡ Some (object ms, rest)
unfolding object_end compact drop_while head tail
members_end n no_members r rest = refl
members_end n (member k v ms) r rest = object_again (value n) (joining (member k v ms) n r) rest

readable_back : (v : Json) → Readable 8 v → text (compact v) ≡ Some v
unfolding text
readable_back v r =
    let w = spaced_written (bare 8) (spelled v 8 r) in
    rw (rw append-nil at (w.again [] stop_end))

pub readable_trees : ReadableTrees
readable_trees = record { of_texts = λ xs v e. of_some (rw e at (text_gives xs)); read_back = readable_back }

pub compact_read_back : CompactIsReadBack
compact_read_back xs v e = readable_back v (readable_trees.of_texts xs v e)
