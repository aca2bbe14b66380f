-- Laws of records that are counted where they stand. Assumes nothing.
use Rattle.std.specs.Prelude.{None}
use Prim.Native.Nat.{ℕ, ◌+◌, ◌-◌, ◌*◌, ◌/◌, ◌%◌, ◌≤◌, ◌<◌}
use native.Mathlib.Nat.{div-add-mod', zero-add, add-zero, add_assoc}
use native.Mathlib.Omega.{arith}
use borrow.Author.Tests.{eq-eqb, ne_eqb}
use Rattle.std.proofs.lemmas.Bool.{eqb-true}
use mir.Syntax.{w16}
use Rattle.std.specs.List.{starts_with}
use Rattle.std.specs.Int.{from_be_bytes, from_bool}
use mathlib.Core.Bool.{Bool, true, false, cond, not, ◌&&◌, false≢true}
use mathlib.Core.List.{List, [], ◌∷◌, ◌++◌, append_assoc}
use mathlib.Core.Path.{◌≡◌, refl, sym, ap, ap₂, ◌∙◌}
use lib.Dec.{eqb}
use lib.ListN.{length, take, drop, length-append, length-drop, drop_of_length-le}
use lib.Seq.{sets-eq, take_all, take-append_seam, drop-append_seam, drop-drop}
use Rattle.ascii.specs.Text.{bytes}
use Rattle.ascii.specs.Bytes.{head, all, after, is_some}
use Rattle.ascii.specs.Numbers.{two_bytes}
use Rattle.ascii.specs.Clauses.Writer.{Puts}
use Rattle.ascii.specs.Clauses.Reader.{ByteAt}
use Rattle.ascii.proofs.Lists.{all_parts}
use Rattle.counter.specs.declared.Counts.{Counts}
use Rattle.message.specs.Reply.{counted, counts_text, reply_line, begins, is_error}
use Rattle.message.specs.Clauses.Said.{counted_text}
use Rattle.outbox.specs.Outbox.{Record, final, update, order_change, order_command, mark, client, body, encode, encode_all}
use Rattle.outbox.specs.Sent.{error_to, update_to, errors_sent, updates_sent}
use Rattle.outbox.specs.Clauses.Written.{sealed, LineRoom, RoomFor}
use Rattle.outbox.specs.Clauses.Tallied.{size_at, is_to, error_at, update_at, Holds, tally_of}
use Rattle.outbox.specs.declared.tally.Tally.{Tally}
use Rattle.outbox.proofs.Written.{line_of}

-- ## Texts that begin with a word

-- a word without a line feed begins a line with its line feed where it begins the line
line_begins : (w : List ℕ) → all (λ b. not (eqb 10 b)) w ≡ true → (l x : List ℕ) → begins w (l ++ 10 ∷ x) ≡ begins w l
unfolding begins after
line_begins [] h l x = refl
line_begins (b ∷ w) h [] x = go (eqb 10 b) (all_parts (λ b. not (eqb 10 b)) b w h).0
  where
    go : (t : Bool) → not t ≡ true → is_some (cond t (after w x) None) ≡ false
    go true e = absurd (false≢true e)
    go false e = refl
line_begins (b ∷ w) h (y ∷ l) x = go (eqb y b) (line_begins w (all_parts (λ b. not (eqb 10 b)) b w h).1 l x)
  where
    go : (t : Bool) → is_some (after w (l ++ 10 ∷ x)) ≡ is_some (after w l) → is_some (cond t (after w (l ++ 10 ∷ x)) None) ≡ is_some (cond t (after w l) None)
    go true e = e
    go false e = refl

swapped : (x y : ℕ) → eqb x y ≡ eqb y x
swapped x y = go (eqb x y) refl
  where
    go : (t : Bool) → eqb x y ≡ t → t ≡ eqb y x
    go true e = sym (eq-eqb y x (sym (eqb-true x y e)))
    go false e = sym (ne_eqb y x (λ h. false≢true (sym e ∙ eq-eqb x y (sym h))))

-- the front of a text is compared with the word
front_begins : (w xs : List ℕ) → starts_with eqb xs w ≡ begins w xs
unfolding begins after
front_begins [] xs = refl
front_begins (b ∷ w) [] = refl
front_begins (b ∷ w) (y ∷ xs) = rw (swapped b y) (go (eqb y b) (front_begins w xs))
  where
    go : (t : Bool) → starts_with eqb xs w ≡ is_some (after w xs) → (t && starts_with eqb xs w) ≡ is_some (cond t (after w xs) None)
    go true e = e
    go false e = refl

module _ (out : List ℕ) (at : ℕ) where
  pub error_past : length out < at → false ≡ begins (bytes "error_") (drop at out)
  unfolding begins after bytes
  error_past h = let l : length out ≤ at = omega arith in rw (drop_of_length-le out l)

  pub error_front : at ≤ length out → {t : Bool} → t ≡ starts_with eqb (take (length out - at) (drop at out)) (bytes "error_")
      → t ≡ begins (bytes "error_") (drop at out)
  error_front h {t} e =
      let d = length-drop at out in
      let w : take (length out - at) (drop at out) ≡ drop at out = take_all (length out - at) (drop at out) (omega arith) in
      rw w at e ∙ front_begins (bytes "error_") (drop at out)

-- ## A record and what follows it

client_in : (r : Record) (y : List ℕ) → head (drop 2 (encode r ++ y)) ≡ client r
unfolding encode mark client bytes head
client_in (final c r) y = refl
client_in (update c r) y = refl
client_in (order_change c p v) y = refl
client_in (order_command c p v) y = refl

high_in : (r : Record) (y : List ℕ) → head (drop 3 (encode r ++ y)) ≡ length (body r) / 256
unfolding encode mark two_bytes bytes head
high_in (final c r) y = refl
high_in (update c r) y = refl
high_in (order_change c p v) y = refl
high_in (order_command c p v) y = refl

low_in : (r : Record) (y : List ℕ) → head (drop 4 (encode r ++ y)) ≡ length (body r) % 256
unfolding encode mark two_bytes bytes head
low_in (final c r) y = refl
low_in (update c r) y = refl
low_in (order_change c p v) y = refl
low_in (order_command c p v) y = refl

body_in : (r : Record) (y : List ℕ) → drop 5 (encode r ++ y) ≡ body r ++ y
unfolding encode mark two_bytes bytes
body_in (final c r) y = refl
body_in (update c r) y = refl
body_in (order_change c p v) y = refl
body_in (order_command c p v) y = refl

-- ## What is counted of it

feedless : all (λ b. not (eqb 10 b)) (bytes "error_") ≡ true
unfolding all bytes
feedless = refl

module _ (d : ℕ) (y : List ℕ) where
  -- of the four marks one begins so
  error_in : (r : Record)
      → cond (eqb (head (encode r ++ y)) 82 && eqb (client r) d && begins (bytes "error_") (body r ++ y)) 1 0 ≡ error_to d r
  unfolding encode mark client body bytes head error_to is_error
  error_in (final c r) =
      ap (λ (t : Bool). cond (eqb c d && t) 1 0)
      (ap (begins (bytes "error_")) (append_assoc (reply_line r) (10 ∷ []) y) ∙ line_begins (bytes "error_") feedless (reply_line r) y)
  error_in (update c r) = refl
  error_in (order_change c p v) = refl
  error_in (order_command c p v) = refl

  update_in : (r : Record) → cond (eqb (head (encode r ++ y)) 85 && eqb (client r) d) 1 0 ≡ update_to d r
  unfolding encode mark client bytes head update_to
  update_in (final c r) = refl
  update_in (update c r) = refl
  update_in (order_change c p v) = refl
  update_in (order_command c p v) = refl

-- a record that stands at a position
module _ (r : Record) (y out : List ℕ) (at : ℕ) (h : drop at out ≡ encode r ++ y) where
  on : (k : ℕ) → drop (at + k) out ≡ drop k (encode r ++ y)
  on k = sym (drop-drop k at out) ∙ ap (drop k) h

  is_client : head (drop (at + 2) out) ≡ client r
  is_client = ap head (on 2) ∙ client_in r y

  is_body : drop (at + 5) out ≡ body r ++ y
  is_body = on 5 ∙ body_in r y

  is_size : size_at out at ≡ length (body r)
  unfolding size_at
  is_size =
      let high = ap head (on 3) ∙ high_in r y in
      let low = ap head (on 4) ∙ low_in r y in
      let e = div-add-mod' (length (body r)) 256 in
      rw (high, low) (omega (arith, e))

  is_past : drop (at + 5 + size_at out at) out ≡ y
  is_past =
      ap (λ (k : ℕ). drop (at + 5 + k) out) is_size ∙ sym (drop-drop (length (body r)) (at + 5) out) ∙ ap (drop (length (body r))) is_body
      ∙ drop-append_seam (body r) y

  is_error_lem : (d : ℕ) → error_at out at d ≡ error_to d r
  unfolding error_at is_to
  is_error_lem d = rw (h, is_client, is_body) (error_in d y r)

  is_update_lem : (d : ℕ) → update_at out at d ≡ update_to d r
  unfolding update_at is_to
  is_update_lem d = rw (h, is_client) (update_in d y r)

size_of : (r : Record) → length (encode r) ≡ 5 + length (body r)
unfolding encode mark two_bytes bytes
size_of (final c r) = omega arith
size_of (update c r) = omega arith
size_of (order_change c p v) = omega arith
size_of (order_command c p v) = omega arith

-- ## The record at a position, by the code's tests

module _ (out : List ℕ) (at m d : ℕ) {b : ℕ} (first : ByteAt out at b) where
  pub not_marked : (b ≡ m → ⊥) → eqb b m ≡ is_to out at m d
  unfolding is_to
  not_marked h = rw (← first.is, ne_eqb b m h)

  pub marked : b ≡ m → {e : ℕ} → ByteAt out (at + 2) e → eqb e d ≡ is_to out at m d
  unfolding is_to
  marked h {e} second = rw (← first.is, eq-eqb b m h, ← second.is)

-- a test as a number
as_number : (t : Bool) → from_bool t ≡ cond t 1 0
as_number true = refl
as_number false = refl

module _ (out : List ℕ) (at d : ℕ) {t : Bool} where
  pub no_reply : t ≡ is_to out at 82 d → t ≡ false → {r : ℕ} → r ≡ from_bool t → r ≡ error_at out at d
  unfolding error_at
  no_reply e f i = i ∙ rw (← e, f)

  pub a_reply : t ≡ is_to out at 82 d → t ≡ true → {u : Bool} → u ≡ begins (bytes "error_") (drop (at + 5) out)
      → {r : ℕ} → r ≡ from_bool u → r ≡ error_at out at d
  unfolding error_at
  a_reply e f {u} g i = i ∙ as_number u ∙ rw (← e, f, ← g)

  pub update_counted : t ≡ is_to out at 85 d → {r : ℕ} → r ≡ from_bool t → r ≡ update_at out at d
  unfolding update_at
  update_counted e i = i ∙ as_number t ∙ rw (← e)

pub big_endian : (h l : ℕ) → from_be_bytes w16 (h ∷ l ∷ []) ≡ 256 * h + l
big_endian h l = omega arith

one_or_none : (b : Bool) → cond b 1 0 ≤ 1
one_or_none true = omega arith
one_or_none false = omega arith

module _ (out : List ℕ) (at d e : ℕ) where
  pub error_low : e ≡ error_at out at d → e ≤ 1
  unfolding error_at
  error_low h = rw h (one_or_none (is_to out at 82 d && begins (bytes "error_") (drop (at + 5) out)))

  pub update_low : e ≡ update_at out at d → e ≤ 1
  unfolding update_at
  update_low h = rw h (one_or_none (is_to out at 85 d))

-- ## All records: the walk over them

-- at a position, of the records rs, these are left
pub record Partway (out rest : List ℕ) (written d : ℕ) (rs : List Record) (at errors updates : ℕ) : Type 0 where
  pub left : List Record
  pub is : drop at out ≡ encode_all left ++ rest
  pub ends : at + length (encode_all left) ≡ written
  pub errors_are : errors_sent d rs ≡ errors + errors_sent d left
  pub updates_are : updates_sent d rs ≡ updates + updates_sent d left

-- whatever records there are
abbrev pub Walks : List ℕ → ℕ → ℕ → ℕ → ℕ → ℕ → Type 0
Walks out written d at errors updates = (rs : List Record) (g : Holds out written rs) → Partway out g.rest written d rs at errors updates

abbrev made : ℕ → ℕ → Tally
made x y = record { errors = x; updates = y }

module _ (out : List ℕ) (written d : ℕ) where
  pub walk_begins : Walks out written d 0 0 0
  walk_begins rs g = record { left = rs; is = g.is; ends = zero-add _ ∙ sym g.ends; errors_are = sym (zero-add _); updates_are = sym (zero-add _) }

  pub walk_ends : (at errors updates : ℕ) → written ≤ at → Walks out written d at errors updates
      → (rs : List Record) → Holds out written rs → ◌≡◌ {A = Tally} (record { errors = errors; updates = updates }) (tally_of d rs)
  unfolding encode_all errors_sent updates_sent
  walk_ends at errors updates h f rs g = go (f rs g).left (f rs g).ends (f rs g).errors_are (f rs g).updates_are
    where
      go : (left : List Record) → at + length (encode_all left) ≡ written → errors_sent d rs ≡ errors + errors_sent d left
          → updates_sent d rs ≡ updates + updates_sent d left → ◌≡◌ {A = Tally} (record { errors = errors; updates = updates }) (tally_of d rs)
      go [] e a b = sym (ap₂ (λ (x y : ℕ). made x y) (a ∙ add-zero errors) (b ∙ add-zero updates))
      go (r ∷ left) e a b = absurd (omega (arith, size_of r, length-append (encode r) (encode_all left)))

  pub walk_on : (at errors updates : ℕ) → at < written → Walks out written d at errors updates
      → (e u p : ℕ) → e ≡ error_at out at d → u ≡ update_at out at d → p ≡ at + 5 + size_at out at → Walks out written d p (errors + e) (updates + u)
  unfolding encode_all errors_sent updates_sent
  walk_on at errors updates h f e u p i j k rs g = go (f rs g).left (f rs g).is (f rs g).ends (f rs g).errors_are (f rs g).updates_are
    where
      go : (left : List Record) → drop at out ≡ encode_all left ++ g.rest → at + length (encode_all left) ≡ written → errors_sent d rs ≡ errors + errors_sent d left
          → updates_sent d rs ≡ updates + updates_sent d left → Partway out g.rest written d rs p (errors + e) (updates + u)
      go [] q z a b = absurd (omega arith)
      go (r ∷ left) q z a b =
          let y = encode_all left ++ g.rest in
          let s : drop at out ≡ encode r ++ y = q ∙ append_assoc (encode r) (encode_all left) g.rest in
          let n = is_size r y out at s in
          record {
            left = left;
            is = ap (λ (m : ℕ). drop m out) k ∙ is_past r y out at s;
            ends = omega (arith, size_of r, length-append (encode r) (encode_all left));
            errors_are = a ∙ ap (λ (m : ℕ). errors + (m + errors_sent d left)) (sym (i ∙ is_error_lem r y out at s d)) ∙ sym (add_assoc errors e (errors_sent d left));
            updates_are = b ∙ ap (λ (m : ℕ). updates + (m + updates_sent d left)) (sym (j ∙ is_update_lem r y out at s d)) ∙ sym (add_assoc updates u (updates_sent d left));
          }

-- ## What was written stands at the front

module _ {d xs e : List ℕ} {p : ℕ} (x : Puts d 0 xs e p) (h : p ≤ length d) where
  size : p ≡ length xs
  size = x.ends ∙ zero-add (length xs)

  split : e ≡ xs ++ drop (0 + length xs) d
  split = x.is ∙ sets-eq xs d 0 (let z = x.ends in omega arith)

  pub front : take p e ≡ xs
  front = ap (λ (k : ℕ). take k e) size ∙ ap (take (length xs)) split ∙ take-append_seam xs (drop (0 + length xs) d)

pub puts_holds : {d e : List ℕ} {rs : List Record} {p : ℕ} → Puts d 0 (encode_all rs) e p → p ≤ length d → Holds e p rs
puts_holds {d} {e} {rs} x h = record { rest = drop (0 + length (encode_all rs)) d; is = split x h; ends = size x h }

-- the text of counts
module _ (x : Counts) (m : ℕ) {d text : List ℕ} {p : ℕ} (w : Puts d 0 (counts_text x m) text p × (p ≤ length d)) where
  text_is : take p text ≡ counts_text x m
  text_is = front w.0 w.1

  pub text_part : p ≡ length (take p text)
  text_part = size w.0 w.1 ∙ ap length (sym text_is)

  module _ (out : List ℕ) (at c t : ℕ) where
    pub text_room : RoomFor out at (final c (counted x m t)) → LineRoom out at (bytes "RP") c (counted_text (take p text) t)
    unfolding reply_line counted_text
    text_room h = rw text_is (line_of out at c (counted x m t) h)

    pub text_put : {e : List ℕ} {q : ℕ} → Puts out at (sealed (bytes "RP") c (counted_text (take p text) t ++ bytes "\n")) e q
        → Puts out at (encode (final c (counted x m t))) e q
    unfolding sealed encode mark client body reply_line counted_text
    text_put y = rw text_is at y
