-- The counts of `chars`, `items` and `members` never cut a text short: with any more than there are bytes they read the same.
-- The reason: no reader leaves more than it was given, and each turn takes a byte at least. Assumes nothing.
use Rattle.std.specs.Prelude.{Option, Some, None}
use Prim.Native.Nat.{ℕ, zero, suc, ◌≤◌}
use native.Mathlib.Omega.{arith}
use mathlib.Core.Path.{◌≡◌, refl, sym, ◌∙◌}
use mathlib.Core.Bool.{Bool, true, false, cond}
use mathlib.Core.List.{List, [], ◌∷◌}
use lib.ListN.{length}
use lib.Dec.{eqb}
use Rattle.ascii.specs.Text.{bytes}
use Rattle.ascii.specs.Bytes.{◌>>=◌, head, tail, drop_while, after, is_in, is_digit, is_printable, is_space}
use Rattle.ascii.proofs.Follows.{then_same}
use Rattle.decimal.specs.Token.{digits, minus, int, frac, sign, is_e, exp}
use Rattle.decimal.specs.Token as Token
use Rattle.json_text.specs.Json.{Json, null, boolean, number, string, Items, no_items, item, Members, no_members, member, up_to, inside, is_hex, is_escape, skip, hex, hex4, escape, char, chars, string_end, giving, scalar, spaced, items, array_end, key, members, object_end, bare, value}

-- at most n bytes
record Short (n : ℕ) (xs : List ℕ) : Type 0 where
  short : length xs ≤ n

-- what is left is at most n bytes, if anything was read
data Within {A : Type 0} (n : ℕ) : Option (A × List ℕ) → Type 0 where
  failed : Within n None
  left : {p : A × List ℕ} → Short n p.1 → Within n (Some p)

data Rest (n : ℕ) : Option (List ℕ) → Type 0 where
  failed : Rest n None
  left : {r : List ℕ} → Short n r → Rest n (Some r)

module _ {n : ℕ} where
  l_cond : (b : Bool) {x y : List ℕ} → Short n x → Short n y → Short n (cond b x y)
  l_cond true p q = p
  l_cond false p q = q

  l_tail : {xs : List ℕ} → Short n xs → Short n (tail xs)
  unfolding tail
  l_tail {xs = []} h = h
  l_tail {xs = x ∷ xs} h = record { short = omega arith }

  l_drop : (p : ℕ → Bool) {xs : List ℕ} → Short n xs → Short n (drop_while p xs)
  unfolding drop_while
  l_drop p {xs = []} h = h
  l_drop p {xs = x ∷ xs} h = l_cond (p x) (l_drop p {xs = xs} (record { short = omega arith })) h

  r_cond : (b : Bool) {x y : Option (List ℕ)} → Rest n x → Rest n y → Rest n (cond b x y)
  r_cond true p q = p
  r_cond false p q = q

  r_then : {o : Option (List ℕ)} {f : List ℕ → Option (List ℕ)} → Rest n o → ((r : List ℕ) → Short n r → Rest n (f r)) → Rest n (o >>= f)
  r_then failed h = failed
  r_then (left {r = r} p) h = h r p

  r_digits1 : {xs : List ℕ} → Short n xs → Rest n (digits xs)
  unfolding digits
  r_digits1 {xs} h = r_cond (is_digit (head xs)) (left (l_drop is_digit h)) failed

  l_minus : {xs : List ℕ} → Short n xs → Short n (minus xs)
  unfolding minus
  l_minus {xs} h = l_cond (eqb (head xs) 45) (l_tail h) h

  l_sign : {xs : List ℕ} → Short n xs → Short n (sign xs)
  unfolding sign
  l_sign {xs} h = l_cond (eqb (head xs) 43) (l_tail h) (l_minus h)

  r_int : {xs : List ℕ} → Short n xs → Rest n (int xs)
  unfolding int
  r_int {xs} h = r_cond (eqb (head xs) 48) (left (l_tail h)) (r_digits1 h)

  r_frac : {xs : List ℕ} → Short n xs → Rest n (frac xs)
  unfolding frac
  r_frac {xs} h = r_cond (eqb (head xs) 46) (r_digits1 (l_tail h)) (left h)

  r_exp : {xs : List ℕ} → Short n xs → Rest n (exp xs)
  unfolding exp
  r_exp {xs} h = r_cond (is_e (head xs)) (r_digits1 (l_sign (l_tail h))) (left h)

  r_number : {xs : List ℕ} → Short n xs → Rest n (Token.number xs)
  unfolding Token.number
  r_number h = r_then (r_then (r_int (l_minus h)) (λ r g. r_frac g)) (λ r g. r_exp g)

  r_hex : {xs : List ℕ} → Short n xs → Rest n (hex xs)
  unfolding hex
  r_hex {xs} h = r_cond (is_hex (head xs)) (left (l_tail h)) failed

  r_hex4 : {xs : List ℕ} → Short n xs → Rest n (hex4 xs)
  unfolding hex4
  r_hex4 h = r_then (r_then (r_then (r_hex h) (λ r g. r_hex g)) (λ r g. r_hex g)) (λ r g. r_hex g)

  r_escape : {xs : List ℕ} → Short n xs → Rest n (escape xs)
  unfolding escape
  r_escape {xs} h = r_cond (eqb (head xs) 117) (r_hex4 (l_tail h)) (r_cond (is_escape (head xs)) (left (l_tail h)) failed)

  r_word : (w : List ℕ) {xs : List ℕ} → Short n xs → Rest n (after w xs)
  unfolding after
  r_word [] h = left h
  r_word (w ∷ ws) {xs = []} h = failed
  r_word (w ∷ ws) {xs = x ∷ xs} h = r_cond (eqb x w) (r_word ws {xs = xs} (record { short = omega arith })) failed

-- a character takes a byte
r_char : {n : ℕ} {xs : List ℕ} → Short (suc n) xs → Rest n (char xs)
unfolding char head tail is_in
r_char {n} {xs = []} h = failed
r_char {n} {xs = x ∷ xs} h = let g : Short n xs = record { short = omega arith } in r_cond (eqb x 92) (r_escape g) (r_cond (is_printable x) (left g) failed)

nil : {xs : List ℕ} → Short 0 xs → xs ≡ []
nil {xs = []} h = refl
nil {xs = x ∷ xs} h = absurd (omega arith)

out : {n : ℕ} {r : List ℕ} → Rest n (Some r) → Short n r
out (left h) = h

chars_nil : (n : ℕ) → chars n [] ≡ None
unfolding chars char head tail is_in
chars_nil zero = refl
chars_nil (suc n) = refl

chars_same : (n m : ℕ) {xs : List ℕ} → Short n xs → Short m xs → chars n xs ≡ chars m xs
unfolding chars
chars_same zero m h g = rw (nil h) (sym (chars_nil m))
chars_same (suc n) zero h g = rw (nil g) (chars_nil (suc n))
chars_same (suc n) (suc m) {xs} h g = rw (then_same (char xs) (chars n) (chars m) (λ r e. chars_same n m (out (rw e at (r_char h))) (out (rw e at (r_char g)))))

pub string_enough : (n : ℕ) (xs : List ℕ) → length xs ≤ n → string_end xs ≡ chars n xs
unfolding string_end
string_enough n xs h = chars_same (length xs) n (record { short = omega arith }) (record { short = h })

-- ## Values: the same, with what was read

r_chars : (m : ℕ) {n : ℕ} {xs : List ℕ} → Short n xs → Rest n (chars m xs)
unfolding chars
r_chars zero h = failed
r_chars (suc m) {xs = xs} h = r_cond (eqb (head xs) 34) (left (l_tail h)) (r_then (r_char (up h)) (λ r g. r_chars m g))
  where
    up : {n : ℕ} {xs : List ℕ} → Short n xs → Short (suc n) xs
    up h = record { short = omega arith }

module _ {n : ℕ} where
  w_cond : {A : Type 0} (b : Bool) {x y : Option (A × List ℕ)} → Within n x → Within n y → Within n (cond b x y)
  w_cond true p q = p
  w_cond false p q = q

  w_then : {A B : Type 0} {o : Option (A × List ℕ)} {f : A × List ℕ → Option (B × List ℕ)} → Within n o → ((p : A × List ℕ) → Short n p.1 → Within n (f p)) → Within n (o >>= f)
  w_then failed h = failed
  w_then (left {p = p} g) h = h p g

  w_giving : (f : List ℕ → Json) {o : Option (List ℕ)} → Rest n o → Within n (giving f o)
  w_giving f failed = failed
  w_giving f (left h) = left h

  w_scalar : {xs : List ℕ} → Short n xs → Within n (scalar xs)
  unfolding scalar string_end
  w_scalar {xs} h =
      w_cond (eqb (head xs) 34) (w_giving (λ r. string (inside (tail xs) r)) (r_chars (length (tail xs)) (l_tail h)))
      (w_cond (eqb (head xs) 110) (w_giving (λ r. null) (r_word (bytes "null") h))
      (w_cond (eqb (head xs) 116) (w_giving (λ r. boolean true) (r_word (bytes "true") h))
      (w_cond (eqb (head xs) 102) (w_giving (λ r. boolean false) (r_word (bytes "false") h))
      (w_giving (λ r. number (up_to xs r)) (r_number h)))))

  w_key : {xs : List ℕ} → Short n xs → Within n (key xs)
  unfolding key string_end
  w_key {xs} h = w_cond (eqb (head (skip xs)) 34) (go (r_chars (length (tail (skip xs))) (l_tail (l_drop is_space h)))) failed
    where
      go : {o : Option (List ℕ)} → Rest n o → Within n (o >>= λ r. cond (eqb (head (skip r)) 58) (Some (inside (tail (skip xs)) r, tail (skip r))) None)
      go failed = failed
      go (left {r = r} g) = w_cond (eqb (head (skip r)) 58) (left (l_tail (l_drop is_space g))) failed

out_p : {A : Type 0} {n : ℕ} {p : A × List ℕ} → Within n (Some p) → Short n p.1
out_p (left h) = h

then_none : {A B : Type 0} (o : Option A) → ◌≡◌ {A = Option B} (o >>= λ a. None) None
then_none None = refl
then_none (Some a) = refl

less : {n : ℕ} (x : ℕ) {xs : List ℕ} → Short (suc n) (x ∷ xs) → Short n xs
less x h = record { short = omega arith }

-- items and members, read by an f that leaves no more than it was given
module _ (f : List ℕ → Option (Json × List ℕ)) (w : (n : ℕ) (xs : List ℕ) → Short n xs → Within n (f xs)) where
  abbrev Turn : ℕ → Json → List ℕ → Option (Items × List ℕ)
  Turn n v q = cond (eqb (head q) 93) (Some (item v no_items, tail q)) (cond (eqb (head q) 44) (items f n (tail q) >>= λ r. Some (item v r.0, r.1)) None)

  w_items : (m : ℕ) {n : ℕ} {xs : List ℕ} → Short n xs → Within n (items f m xs)
  unfolding items
  w_items zero h = failed
  w_items (suc m) {n} {xs} h = w_then (w n xs h) (λ p g. w_cond (eqb (head p.1) 93) (left (l_tail g)) (w_cond (eqb (head p.1) 44) (w_then (w_items m (l_tail g)) (λ q k. left k)) failed))

  items_nil : (n : ℕ) → items f n [] ≡ None
  unfolding items head
  items_nil zero = refl
  items_nil (suc n) = then_same (f []) _ (λ p. None) (λ p e. rw (nil (out_p (rw e at (w 0 [] (record { short = omega arith })))))) ∙ then_none (f [])

  turn : (a b : ℕ) (v : Json) (q : List ℕ) → ((ys : List ℕ) → Short a ys → Short b ys → items f a ys ≡ items f b ys) → Short (suc a) q → Short (suc b) q → Turn a v q ≡ Turn b v q
  unfolding head tail
  turn a b v [] ih h g = refl
  turn a b v (x ∷ ys) ih h g = rw (ih ys (less x h) (less x g))

  items_same : (a b : ℕ) (xs : List ℕ) → Short a xs → Short b xs → items f a xs ≡ items f b xs
  unfolding items
  items_same zero b xs h g = rw (nil h) (sym (items_nil b))
  items_same (suc a) zero xs h g = rw (nil g) (items_nil (suc a))
  items_same (suc a) (suc b) xs h g = then_same (f xs) _ _ (λ p e. turn a b p.0 p.1 (items_same a b) (out_p (rw e at (w (suc a) xs h))) (out_p (rw e at (w (suc b) xs g))))

  abbrev Pair : ℕ → List ℕ → Json → List ℕ → Option (Members × List ℕ)
  Pair n k v q = cond (eqb (head q) 125) (Some (member k v no_members, tail q)) (cond (eqb (head q) 44) (members f n (tail q) >>= λ r. Some (member k v r.0, r.1)) None)

  w_members : (m : ℕ) {n : ℕ} {xs : List ℕ} → Short n xs → Within n (members f m xs)
  unfolding members
  w_members zero h = failed
  w_members (suc m) {n} {xs} h = w_then (w_key h) (λ k j. w_then (w n k.1 j) (λ p g. w_cond (eqb (head p.1) 125) (left (l_tail g)) (w_cond (eqb (head p.1) 44) (w_then (w_members m (l_tail g)) (λ q k. left k)) failed)))

  members_nil : (n : ℕ) → members f n [] ≡ None
  unfolding members key head drop_while
  members_nil zero = refl
  members_nil (suc n) = refl

  pair : (a b : ℕ) (k : List ℕ) (v : Json) (q : List ℕ) → ((ys : List ℕ) → Short a ys → Short b ys → members f a ys ≡ members f b ys) → Short (suc a) q → Short (suc b) q → Pair a k v q ≡ Pair b k v q
  unfolding head tail
  pair a b k v [] ih h g = refl
  pair a b k v (x ∷ ys) ih h g = rw (ih ys (less x h) (less x g))

  members_same : (a b : ℕ) (xs : List ℕ) → Short a xs → Short b xs → members f a xs ≡ members f b xs
  unfolding members
  members_same zero b xs h g = rw (nil h) (sym (members_nil b))
  members_same (suc a) zero xs h g = rw (nil g) (members_nil (suc a))
  members_same (suc a) (suc b) xs h g =
      then_same (key xs) _ _ (λ k e. then_same (f k.1) _ _ (λ p d. pair a b k.0 p.0 p.1 (members_same a b)
      (out_p (rw d at (w (suc a) k.1 (out_p (rw e at (w_key h)))))) (out_p (rw d at (w (suc b) k.1 (out_p (rw e at (w_key g))))))))

  w_array : {n : ℕ} {xs : List ℕ} → Short n xs → Within n (array_end f xs)
  unfolding array_end
  w_array {xs = xs} h = w_cond (eqb (head (skip xs)) 93) (left (l_tail (l_drop is_space h))) (w_then (w_items (length xs) h) (λ p g. left g))

  w_object : {n : ℕ} {xs : List ℕ} → Short n xs → Within n (object_end f xs)
  unfolding object_end
  w_object {xs = xs} h = w_cond (eqb (head (skip xs)) 125) (left (l_tail (l_drop is_space h))) (w_then (w_members (length xs) h) (λ p g. left g))

  w_spaced : (n : ℕ) (xs : List ℕ) → Short n xs → Within n (spaced f xs)
  unfolding spaced
  w_spaced n xs h = w_then (w n (skip xs) (l_drop is_space h)) (λ p g. left (l_drop is_space g))

w_bare : (d n : ℕ) (xs : List ℕ) → Short n xs → Within n (bare d xs)
unfolding bare
w_bare zero n xs h = w_scalar h
w_bare (suc d) n xs h =
    let g = w_spaced (bare d) (w_bare d) in
    w_cond (eqb (head xs) 91) (w_array (spaced (bare d)) g (l_tail h)) (w_cond (eqb (head xs) 123) (w_object (spaced (bare d)) g (l_tail h)) (w_scalar h))

pub items_enough : (d n : ℕ) (xs : List ℕ) → length xs ≤ n → items (value d) (length xs) xs ≡ items (value d) n xs
items_enough d n xs h = items_same (value d) (w_spaced (bare d) (w_bare d)) (length xs) n xs (record { short = omega arith }) (record { short = h })

pub members_enough : (d n : ℕ) (xs : List ℕ) → length xs ≤ n → members (value d) (length xs) xs ≡ members (value d) n xs
members_enough d n xs h = members_same (value d) (w_spaced (bare d) (w_bare d)) (length xs) n xs (record { short = omega arith }) (record { short = h })
