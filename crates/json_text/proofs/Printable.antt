-- No reader takes a byte outside 32 to 126. Assumes nothing.
use Rattle.std.specs.Prelude.{Option}
use Prim.Native.Nat.{ℕ, zero, suc, ◌≤◌}
use native.Mathlib.Omega.{arith}
use mathlib.Core.Path.{◌≡◌, refl, ◌∙◌, ap}
use mathlib.Core.Bool.{Bool, true, false, cond, ◌||◌}
use mathlib.Core.List.{List, [], ◌∷◌}
use lib.ListN.{length}
use lib.Dec.{eqb, leb}
use borrow.Author.Tests.{eqb-true, leb-true, le-leb}
use Rattle.ascii.specs.Text.{bytes}
use Rattle.ascii.specs.Bytes.{head, tail, all, drop_while, after, is_in, is_digit, is_printable, is_space}
use Rattle.ascii.proofs.Lists.{both}
use Rattle.decimal.specs.Token.{digits, minus, int, frac, sign, is_e, exp}
use Rattle.decimal.specs.Token as Token
use Rattle.json_text.specs.Json.{Json, null, boolean, number, string}
use Rattle.json_text.specs.Json.{is_hex, is_escape, hex, hex4, escape, char, chars, string_end, skip, up_to, inside, scalar, spaced}
use Rattle.json_text.specs.Json.{items, array_end, key, members, object_end, bare, value, text}
use Rattle.json_text.specs.Theorems.{TextsArePrintable}
use Rattle.json_text.proofs.ReadAgain.{Of, failed, gave, of_case, of_map, of_bind, of_some}
use Rattle.json_text.proofs.ReadBack.{of_giving}

-- what was taken of xs is printable: r is left
abbrev Took : List ℕ → List ℕ → Type 0
Took xs r = all is_printable xs ≡ all is_printable r

-- ## Bytes

pub either : {C : Type 0} (a b : Bool) → (a ≡ true → C) → (b ≡ true → C) → (a || b) ≡ true → C
either true b p q h = p refl
either false b p q h = q h

pub within : (lo hi x : ℕ) → 32 ≤ lo → hi ≤ 126 → is_in lo hi x ≡ true → is_printable x ≡ true
unfolding is_in
within lo hi x l h e =
    let i = both (leb lo x) (leb x hi) e in
    let u = leb-true lo x i.0 in
    let v = leb-true x hi i.1 in
    rw (le-leb 32 x (omega arith), le-leb x 126 (omega arith)) refl

pub is : (k x : ℕ) → is_printable k ≡ true → eqb x k ≡ true → is_printable x ≡ true
is k x p e = ap is_printable (eqb-true x k e) ∙ p

pub digit : (x : ℕ) → is_digit x ≡ true → is_printable x ≡ true
digit x = within 48 57 x (omega arith) (omega arith)

e_byte : (x : ℕ) → is_e x ≡ true → is_printable x ≡ true
unfolding is_in
e_byte x = either (eqb x 101) (eqb x 69) (is 101 x refl) (is 69 x refl)

hex_byte : (x : ℕ) → is_hex x ≡ true → is_printable x ≡ true
unfolding is_hex
hex_byte x h = either (is_in 48 57 x || is_in 65 70 x) (is_in 97 102 x)
    (either (is_in 48 57 x) (is_in 65 70 x) (within 48 57 x (omega arith) (omega arith)) (within 65 70 x (omega arith) (omega arith)))
    (within 97 102 x (omega arith) (omega arith)) h

escape_byte : (x : ℕ) → is_escape x ≡ true → is_printable x ≡ true
unfolding is_escape is_in
escape_byte x =
    either _ (eqb x 116) (either _ (eqb x 114) (either _ (eqb x 110) (either _ (eqb x 102) (either _ (eqb x 98) (either _ (eqb x 92) (either (eqb x 34) (eqb x 47)
    (is 34 x refl) (is 47 x refl)) (is 92 x refl)) (is 98 x refl)) (is 102 x refl)) (is 110 x refl)) (is 114 x refl)) (is 116 x refl)

byte : (xs : List ℕ) → is_printable (head xs) ≡ true → Took xs (tail xs)
unfolding head tail all
byte [] h = refl
byte (x ∷ xs) h = rw h refl

at : (k : ℕ) (xs : List ℕ) → is_printable k ≡ true → eqb (head xs) k ≡ true → Took xs (tail xs)
at k xs p e = byte xs (is k (head xs) p e)

from : (xs ys : List ℕ) → Took xs ys → {o : Option (List ℕ)} → Of (Took ys) o → Of (Took xs) o
from xs ys p h = of_map h (λ r q. p ∙ q)

past : (p : ℕ → Bool) → ((x : ℕ) → p x ≡ true → is_printable x ≡ true) → (xs : List ℕ) → Took xs (drop_while p xs)
unfolding drop_while all
past p f [] = refl
past p f (x ∷ xs) = go (p x) refl (past p f xs)
  where
    go : (b : Bool) → p x ≡ b → Took xs (drop_while p xs) → Took (x ∷ xs) (cond b (drop_while p xs) (x ∷ xs))
    go true e h = rw (f x e) h
    go false e h = refl

skipped : (xs : List ℕ) → Took xs (skip xs)
unfolding is_in
skipped xs = past is_space (λ x. is 32 x refl) xs

-- ## Numbers

of_digits : (xs : List ℕ) → Of (Took xs) (digits xs)
unfolding digits
of_digits xs = of_case (is_digit (head xs)) (λ _. gave (past is_digit digit xs)) (λ _. failed)

one_of : (k : ℕ) (xs ys : List ℕ) → is_printable k ≡ true → Took xs ys → Took xs (cond (eqb (head xs) k) (tail xs) ys)
one_of k xs ys h p = go (eqb (head xs) k) refl
  where
    go : (b : Bool) → eqb (head xs) k ≡ b → Took xs (cond b (tail xs) ys)
    go true e = at k xs h e
    go false e = p

past_minus : (xs : List ℕ) → Took xs (minus xs)
unfolding minus is_in
past_minus xs = one_of 45 xs xs refl refl

past_sign : (xs : List ℕ) → Took xs (sign xs)
unfolding sign is_in
past_sign xs = one_of 43 xs (minus xs) refl (past_minus xs)

of_int : (xs : List ℕ) → Of (Took xs) (int xs)
unfolding int is_in
of_int xs = of_case (eqb (head xs) 48) (λ e. gave (at 48 xs refl e)) (λ _. of_digits xs)

of_frac : (xs : List ℕ) → Of (Took xs) (frac xs)
unfolding frac is_in
of_frac xs = of_case (eqb (head xs) 46) (λ e. from xs (tail xs) (at 46 xs refl e) (of_digits (tail xs))) (λ _. gave refl)

of_exp : (xs : List ℕ) → Of (Took xs) (exp xs)
unfolding exp
of_exp xs =
    of_case (is_e (head xs)) (λ e. from xs (sign (tail xs)) (byte xs (e_byte (head xs) e) ∙ past_sign (tail xs)) (of_digits (sign (tail xs)))) (λ _. gave refl)

of_number : (xs : List ℕ) → Of (Took xs) (Token.number xs)
unfolding Token.number
of_number xs = of_bind (of_bind (from xs (minus xs) (past_minus xs) (of_int (minus xs))) (λ r p. from xs r p (of_frac r))) (λ r p. from xs r p (of_exp r))

of_word : (w xs : List ℕ) → all is_printable w ≡ true → Of (Took xs) (after w xs)
unfolding after all
of_word [] xs h = gave refl
of_word (w ∷ ws) [] h = failed
of_word (w ∷ ws) (x ∷ xs) h =
    let i = both (is_printable w) (all is_printable ws) h in
    of_case (eqb x w) (λ e. of_map (of_word ws xs i.1) (λ r g. rw (is w x i.0 e) g)) (λ _. failed)

-- ## Strings

of_hex : (xs : List ℕ) → Of (Took xs) (hex xs)
unfolding hex
of_hex xs = of_case (is_hex (head xs)) (λ e. gave (byte xs (hex_byte (head xs) e))) (λ _. failed)

of_hex4 : (xs : List ℕ) → Of (Took xs) (hex4 xs)
unfolding hex4
of_hex4 xs = of_bind (of_bind (of_bind (of_hex xs) (λ r p. from xs r p (of_hex r))) (λ r p. from xs r p (of_hex r))) (λ r p. from xs r p (of_hex r))

of_escape : (xs : List ℕ) → Of (Took xs) (escape xs)
unfolding escape is_in
of_escape xs =
    of_case (eqb (head xs) 117) (λ e. from xs (tail xs) (at 117 xs refl e) (of_hex4 (tail xs))) λ _.
    of_case (is_escape (head xs)) (λ e. gave (byte xs (escape_byte (head xs) e))) (λ _. failed)

of_char : (xs : List ℕ) → Of (Took xs) (char xs)
unfolding char is_in
of_char xs =
    of_case (eqb (head xs) 92) (λ e. from xs (tail xs) (at 92 xs refl e) (of_escape (tail xs))) λ _.
    of_case (is_printable (head xs)) (λ e. gave (byte xs e)) (λ _. failed)

of_chars : (n : ℕ) (xs : List ℕ) → Of (Took xs) (chars n xs)
unfolding chars is_in
of_chars zero xs = failed
of_chars (suc n) xs =
    of_case (eqb (head xs) 34) (λ e. gave (at 34 xs refl e)) λ _. of_bind (of_char xs) λ y p. from xs y p (of_chars n y)

-- ## Values

abbrev Read : {A : Type 0} → List ℕ → A × List ℕ → Type 0
Read xs p = Took xs p.1

of_scalar : (xs : List ℕ) → Of (Read xs) (scalar xs)
unfolding scalar string_end all bytes is_in
of_scalar xs =
    of_case (eqb (head xs) 34)
    (λ e. of_giving (λ r. string (inside (tail xs) r)) (of_chars (length (tail xs)) (tail xs)) (λ r p. at 34 xs refl e ∙ p)) λ _.
    of_case (eqb (head xs) 110) (λ _. of_giving (λ r. null) (of_word (bytes "null") xs refl) (λ r p. p)) λ _.
    of_case (eqb (head xs) 116) (λ _. of_giving (λ r. boolean true) (of_word (bytes "true") xs refl) (λ r p. p)) λ _.
    of_case (eqb (head xs) 102) (λ _. of_giving (λ r. boolean false) (of_word (bytes "false") xs refl) (λ r p. p)) λ _.
    of_giving (λ r. number (up_to xs r)) (of_number xs) (λ r p. p)

of_key : (xs : List ℕ) → Of (Read xs) (key xs)
unfolding key string_end is_in
of_key xs =
    let ys : List ℕ = skip xs in
    of_case (eqb (head ys) 34)
    (λ e. of_bind (of_chars (length (tail ys)) (tail ys)) λ r p. of_case (eqb (head (skip r)) 58)
    (λ g. gave (skipped xs ∙ at 34 ys refl e ∙ p ∙ skipped r ∙ at 58 (skip r) refl g))
    (λ _. failed))
    (λ _. failed)

module _ (f : List ℕ → Option (Json × List ℕ)) (of-f : (xs : List ℕ) → Of (Read xs) (f xs)) where
  of_spaced : (xs : List ℕ) → Of (Read xs) (spaced f xs)
  unfolding spaced
  of_spaced xs = of_bind (of-f (skip xs)) λ p e. gave (skipped xs ∙ e ∙ skipped p.1)

  of_items_lem : (n : ℕ) (xs : List ℕ) → Of (Read xs) (items f n xs)
  unfolding items is_in
  of_items_lem zero xs = failed
  of_items_lem (suc n) xs = of_bind (of-f xs) λ p e.
      of_case (eqb (head p.1) 93) (λ g. gave (e ∙ at 93 p.1 refl g)) λ _.
      of_case (eqb (head p.1) 44) (λ g. of_bind (of_items_lem n (tail p.1)) λ q l. gave (e ∙ at 44 p.1 refl g ∙ l)) (λ _. failed)

  of_members : (n : ℕ) (xs : List ℕ) → Of (Read xs) (members f n xs)
  unfolding members is_in
  of_members zero xs = failed
  of_members (suc n) xs = of_bind (of_key xs) λ k j. of_bind (of-f k.1) λ p e.
      of_case (eqb (head p.1) 125) (λ g. gave (j ∙ e ∙ at 125 p.1 refl g)) λ _.
      of_case (eqb (head p.1) 44) (λ g. of_bind (of_members n (tail p.1)) λ q l. gave (j ∙ e ∙ at 44 p.1 refl g ∙ l)) (λ _. failed)

  of_array : (xs : List ℕ) → Of (Read xs) (array_end f xs)
  unfolding array_end is_in
  of_array xs =
      of_case (eqb (head (skip xs)) 93) (λ g. gave (skipped xs ∙ at 93 (skip xs) refl g)) λ _.
      of_bind (of_items_lem (length xs) xs) λ p l. gave l

  of_object : (xs : List ℕ) → Of (Read xs) (object_end f xs)
  unfolding object_end is_in
  of_object xs =
      of_case (eqb (head (skip xs)) 125) (λ g. gave (skipped xs ∙ at 125 (skip xs) refl g)) λ _.
      of_bind (of_members (length xs) xs) λ p l. gave l

of_bare : (d : ℕ) (xs : List ℕ) → Of (Read xs) (bare d xs)
unfolding bare is_in
of_bare zero xs = of_scalar xs
of_bare (suc d) xs =
    let of-value = of_spaced (bare d) (of_bare d) in
    of_case (eqb (head xs) 91) (λ e. of_map (of_array (value d) of-value (tail xs)) (λ p g. at 91 xs refl e ∙ g)) λ _.
    of_case (eqb (head xs) 123) (λ e. of_map (of_object (value d) of-value (tail xs)) (λ p g. at 123 xs refl e ∙ g)) λ _.
    of_scalar xs

nil : (xs : List ℕ) → eqb (length xs) 0 ≡ true → all is_printable xs ≡ true
unfolding all
nil [] e = refl
nil (x ∷ xs) e = absurd (let q = eqb-true (length (x ∷ xs)) 0 e in omega arith)

of_text : (xs : List ℕ) → Of (λ (v : Json). all is_printable xs ≡ true) (text xs)
unfolding text
of_text xs = of_bind (of_spaced (bare 8) (of_bare 8) xs) λ p e.
    of_case (eqb (length p.1) 0) (λ z. gave (e ∙ nil p.1 z)) (λ _. failed)

pub texts_are_printable : TextsArePrintable
texts_are_printable xs v e = of_some (rw e at (of_text xs))
