-- Numbers, texts and flags: what is written is read, and what is read is what was written. Assumes nothing.
use Rattle.std.specs.Prelude.{Option, Some, None}
use Prim.Native.Nat.{ℕ, zero, suc, ◌+◌, ◌*◌, ◌-◌, ◌/◌, ◌%◌, ◌^◌, ◌≤◌, ◌<◌}
use native.Mathlib.Nat.{two-pow-succ}
use native.Mathlib.Omega.{arith}
use mathlib.Core.Path.{◌≡◌, refl, sym, ap, ap₂, ◌∙◌}
use mathlib.Core.Bool.{Bool, true, false, cond, ◌&&◌}
use mathlib.Core.List.{List, [], ◌∷◌, ◌++◌, append_assoc}
use lib.Dec.{ltb, leb, eqb}
use lib.IntN.{ℤ, pos, negsuc}
use lib.ListN.{length, get_or, take, drop, length-append, take-append-drop}
use lib.Seq.{take-suc, take_all, take_at, drop_at, length-take-le}
use lib.Pow.{are_bytes, pow-add}
use lib.Arith.{digits_lt, digits_div, digits_mod}
use borrow.Author.Tests.{le-leb, lt-leb, leb-true, lt-ltb, le-ltb, ltb-true, ltb-false}
use Rattle.ascii.specs.Bytes.{part}
use Rattle.ascii.specs.Numbers.{big_endian_from, big_endian, twos_complement, unsigned, signed}
use Rattle.ascii.proofs.Lists.{both}
use Rattle.ascii.proofs.Endian.{from_last}
use Rattle.datainfo.specs.Layout.{counted, flag}
use Rattle.fit.proofs.Shapes.{nothing, just, steps}
use Rattle.encode.specs.Encode.{unsigned_bytes, signed_bytes, flag_byte, text_bytes}
use Rattle.encode.specs.Fits.{text_fits, unsigned_fits, signed_fits}

-- ## Lists of bytes

pub bytes_cons : (b : ℕ) (xs : List ℕ) → are_bytes (b ∷ xs) ≡ true → (b < 256) × (are_bytes xs ≡ true)
bytes_cons b xs h = let z = both (ltb b 256) (are_bytes xs) h in (ltb-true b 256 z.0, z.1)

pub bytes_join : (a b : List ℕ) → are_bytes a ≡ true → are_bytes b ≡ true → are_bytes (a ++ b) ≡ true
bytes_join [] b h k = k
bytes_join (x ∷ a) b h k = let z = both (ltb x 256) (are_bytes a) h in rw z.0 (bytes_join a b z.1 k)

pub bytes_parts : (a b : List ℕ) → are_bytes (a ++ b) ≡ true → (are_bytes a ≡ true) × (are_bytes b ≡ true)
bytes_parts [] b h = (refl, h)
bytes_parts (x ∷ a) b h =
    let z = both (ltb x 256) (are_bytes (a ++ b)) h in
    let y = bytes_parts a b z.1 in
    (rw z.0 y.0, y.1)

-- ## Parts

pub part_back : (a r : List ℕ) (k : ℕ) → length a ≡ k → part k (a ++ r) ≡ Some (a, r)
unfolding part
part_back a r k e =
    let h : k ≤ length (a ++ r) = rw length-append (omega arith) in
    rw (le-leb k (length (a ++ r)) h, take_at a r k e, drop_at a r k e)

-- xs is a, and r after it
pub record Front (xs a r : List ℕ) : Type 0 where
  pub whole : xs ≡ a ++ r

-- what was read from bytes: e in front of r, where p is the test that the layout has room for it
pub record Got (e : List ℕ) (p : Bool) (xs r : List ℕ) : Type 0 where
  pub is : Front xs e r
  pub fits : p ≡ true
  pub left : are_bytes r ≡ true

-- one thing after the other
pub chain : {x a y b z : List ℕ} → Front x a y → Front y b z → Front x (a ++ b) z
chain {a = a} {b = b} {z = z} e f = record { whole = e.whole ∙ ap (λ (u : List ℕ). a ++ u) f.whole ∙ sym (append_assoc a b z) }

pub along : {e f x y z : List ℕ} {p q : Bool} → Got e p x y → Got f q y z → Got (e ++ f) (p && q) x z
along s t = record { is = chain s.is t.is; fits = ap₂ ◌&&◌ s.fits t.fits; left = t.left }

pub part_from : (k : ℕ) (xs a r : List ℕ) → part k xs ≡ Some (a, r) → (xs ≡ a ++ r) × (length a ≡ k)
unfolding part
part_from k xs a r = go (leb k (length xs)) refl
  where
    go : (b : Bool) → leb k (length xs) ≡ b → cond {A = Option (List ℕ × List ℕ)} b (Some (take k xs, drop k xs)) None ≡ Some (a, r)
        → (xs ≡ a ++ r) × (length a ≡ k)
    go true h e =
        let q = just e in
        let f : take k xs ≡ a = ap (λ p. p.0) q in
        let g : drop k xs ≡ r = ap (λ p. p.1) q in
        (sym (take-append-drop k xs) ∙ rw (f, g), ap length (sym f) ∙ length-take-le k xs (leb-true k (length xs) h))
    go false h e = absurd (nothing e)

-- ## Unsigned numbers

pub unsigned_length : (k n : ℕ) → length (unsigned_bytes k n) ≡ k
unfolding unsigned_bytes
unsigned_length zero n = refl
unsigned_length (suc k) n = let h = unsigned_length k (n / 256) in rw length-append (omega arith)

-- one byte more
wider : (k : ℕ) → 2 ^ (8 * suc k) ≡ 2 ^ (8 * k) * 256
wider k = let e : 8 * suc k ≡ 8 * k + 8 = omega arith in rw (e, pow-add)

unsigned_value : (k n : ℕ) → n < 2 ^ (8 * k) → big_endian (unsigned_bytes k n) ≡ n
unfolding unsigned_bytes big_endian big_endian_from
unsigned_value zero n h = omega arith
unsigned_value (suc k) n h =
    let w = wider k in
    let l : n / 256 < 2 ^ (8 * k) = omega arith in
    from_last 0 (unsigned_bytes k (n / 256)) (n % 256) ∙ rw (unsigned_value k (n / 256) l) (omega arith)

pub unsigned_back : (k n : ℕ) (r : List ℕ) → n < 2 ^ (8 * k) → unsigned k (unsigned_bytes k n ++ r) ≡ Some (n, r)
unfolding unsigned
unsigned_back k n r h = rw (part_back (unsigned_bytes k n) r k (unsigned_length k n), unsigned_value k n h)

pub unsigned_bytes_lem : (k n : ℕ) → are_bytes (unsigned_bytes k n) ≡ true
unfolding unsigned_bytes
unsigned_bytes_lem zero n = refl
unsigned_bytes_lem (suc k) n = bytes_join (unsigned_bytes k (n / 256)) (n % 256 ∷ []) (unsigned_bytes_lem k (n / 256)) (rw (lt-ltb (n % 256) 256 (omega arith)))

-- k bytes, as a number
record IsNumber (k : ℕ) (bs : List ℕ) : Type 0 where
  again : unsigned_bytes k (big_endian bs) ≡ bs
  low : big_endian bs < 2 ^ (8 * k)

number_is_lem : (k : ℕ) (bs : List ℕ) → length bs ≡ k → are_bytes bs ≡ true → IsNumber k bs
unfolding unsigned_bytes big_endian big_endian_from
number_is_lem zero [] e h = record { again = refl; low = omega arith }
number_is_lem zero (b ∷ bs) e h = absurd (omega arith)
number_is_lem (suc k) bs e h =
    let a = take k bs in
    let b = get_or bs k 0 in
    let s : bs ≡ a ++ (b ∷ []) = sym (take_all (suc k) bs (omega arith)) ∙ take-suc bs k 0 (omega arith) in
    let p = bytes_parts a (b ∷ []) (rw s at h) in
    let l = (bytes_cons b [] p.1).0 in
    let n = number_is_lem k a (length-take-le k bs (omega arith)) p.0 in
    let v : big_endian_from 0 bs ≡ big_endian_from 0 a * 256 + b = ap (big_endian_from 0) s ∙ from_last 0 a b in
    record {
      again = rw (v, digits_div (big_endian_from 0 a) l, digits_mod (big_endian_from 0 a) l, n.again) (sym s);
      low = rw (v, wider k) (digits_lt n.low l);
    }

pub unsigned_from : (k n : ℕ) (xs r : List ℕ) → are_bytes xs ≡ true → unsigned k xs ≡ Some (n, r) → Got (unsigned_bytes k n) (unsigned_fits k n) xs r
unfolding unsigned unsigned_fits
unsigned_from k n xs r h e =
    steps (part k xs) _ e
    (λ p q f.
    let s = part_from k xs p.0 p.1 q in
    let b = bytes_parts p.0 p.1 (rw s.0 at h) in
    let m = number_is_lem k p.0 s.1 b.0 in
    let v : big_endian p.0 ≡ n = ap (λ a. a.0) (just f) in
    let t : p.1 ≡ r = ap (λ a. a.1) (just f) in
    record {
      is = record { whole = rw (← v, m.again, ← t) s.0 };
      fits = rw (← v) (lt-ltb (big_endian p.0) (2 ^ (8 * k)) m.low);
      left = rw (← t) b.1;
    })

-- ## Signed numbers

twice : (k : ℕ) → 1 ≤ k → 2 ^ (8 * k) ≡ 2 * 2 ^ (8 * k - 1)
twice k h = let e : 8 * k ≡ suc (8 * k - 1) = omega arith in ap (λ (j : ℕ). 2 ^ j) e ∙ two-pow-succ (8 * k - 1) ∙ omega arith

pub signed_back : (k : ℕ) (z : ℤ) (r : List ℕ) → 1 ≤ k → signed_fits k z ≡ true → signed k (signed_bytes k z ++ r) ≡ Some (z, r)
unfolding signed signed_bytes signed_fits twos_complement
signed_back k (pos n) r o h =
    let l = ltb-true n (2 ^ (8 * k - 1)) h in
    let t = twice k o in
    rw (part_back (unsigned_bytes k n) r k (unsigned_length k n), unsigned_value k n (omega arith), h)
signed_back k (negsuc n) r o h =
    let l = ltb-true n (2 ^ (8 * k - 1)) h in
    let t = twice k o in
    let m = 2 ^ (8 * k) - 1 - n in
    rw (part_back (unsigned_bytes k m) r k (unsigned_length k m), unsigned_value k m (omega arith), le-ltb m (2 ^ (8 * k - 1)) (omega arith))
    (ap (λ (j : ℕ). Some (negsuc j, r)) (omega arith))

pub signed_bytes_lem : (k : ℕ) (z : ℤ) → are_bytes (signed_bytes k z) ≡ true
unfolding signed_bytes
signed_bytes_lem k (pos n) = unsigned_bytes_lem k n
signed_bytes_lem k (negsuc n) = unsigned_bytes_lem k (2 ^ (8 * k) - 1 - n)

record Complement (k n : ℕ) (z : ℤ) : Type 0 where
  again : signed_bytes k z ≡ unsigned_bytes k n
  fits : signed_fits k z ≡ true

complement : (k n : ℕ) → 1 ≤ k → n < 2 ^ (8 * k) → Complement k n (twos_complement k n)
unfolding signed_bytes signed_fits twos_complement
complement k n o l = go (ltb n (2 ^ (8 * k - 1))) refl
  where
    go : (b : Bool) → ltb n (2 ^ (8 * k - 1)) ≡ b → Complement k n (cond b (pos n) (negsuc (2 ^ (8 * k) - 1 - n)))
    go true h = record { again = refl; fits = h }
    go false h =
        let m = ltb-false n (2 ^ (8 * k - 1)) h in
        let t = twice k o in
        record { again = ap (unsigned_bytes k) (omega arith); fits = lt-ltb (2 ^ (8 * k) - 1 - n) (2 ^ (8 * k - 1)) (omega arith) }

pub signed_from : (k : ℕ) (z : ℤ) (xs r : List ℕ) → 1 ≤ k → are_bytes xs ≡ true → signed k xs ≡ Some (z, r) → Got (signed_bytes k z) (signed_fits k z) xs r
unfolding signed
signed_from k z xs r o h e =
    steps (part k xs) _ e
    (λ p q f.
    let s = part_from k xs p.0 p.1 q in
    let b = bytes_parts p.0 p.1 (rw s.0 at h) in
    let m = number_is_lem k p.0 s.1 b.0 in
    let c = complement k (big_endian p.0) o m.low in
    let v : twos_complement k (big_endian p.0) ≡ z = ap (λ a. a.0) (just f) in
    let t : p.1 ≡ r = ap (λ a. a.1) (just f) in
    record { is = record { whole = rw (← v, c.again, m.again, ← t) s.0 }; fits = rw (← v) c.fits; left = rw (← t) b.1 })

-- ## A byte, a text, a flag

pub byte_back : (b : ℕ) (r : List ℕ) → unsigned 1 (b ∷ r) ≡ Some (b, r)
unfolding unsigned big_endian big_endian_from
byte_back b r = rw (part_back (b ∷ []) r 1 refl) (ap (λ (n : ℕ). Some (n, r)) (omega arith))

pub record Byte (b : ℕ) (xs r : List ℕ) : Type 0 where
  pub is : xs ≡ b ∷ r
  pub low : b < 256
  pub left : are_bytes r ≡ true

-- a count byte, and what it counts
pub counts : {c n : ℕ} {x y e r : List ℕ} {p : Bool} → Byte c x y → n ≡ c → Got e p y r → Got (n ∷ e) p x r
counts b i g =
    record { is = record { whole = b.is ∙ ap₂ (λ (k : ℕ) (u : List ℕ). k ∷ u) (sym i) g.is.whole }; fits = g.fits; left = g.left }

pub byte_from : (b : ℕ) (xs r : List ℕ) → are_bytes xs ≡ true → unsigned 1 xs ≡ Some (b, r) → Byte b xs r
unfolding unsigned part
byte_from b [] r h e = absurd (nothing e)
byte_from b (x ∷ xs) r h e =
    let q = just (sym (byte_back x xs) ∙ e) in
    let z = bytes_cons x xs h in
    let f : x ≡ b = ap (λ a. a.0) q in
    let g : xs ≡ r = ap (λ a. a.1) q in
    record { is = rw (f, g); low = rw (← f) z.0; left = rw (← g) z.1 }

pub text_back : (x r : List ℕ) → counted (text_bytes x ++ r) ≡ Some (x, r)
unfolding counted text_bytes
text_back x r = rw (byte_back (length x) (x ++ r), part_back x r (length x) refl)

pub text_bytes_lem : (x : List ℕ) → length x ≤ 255 → are_bytes x ≡ true → are_bytes (text_bytes x) ≡ true
unfolding text_bytes
text_bytes_lem x l h = rw (lt-ltb (length x) 256 (omega arith)) h

pub text_from : (x xs r : List ℕ) → are_bytes xs ≡ true → counted xs ≡ Some (x, r) → Got (text_bytes x) (text_fits x) xs r
unfolding counted text_bytes text_fits
text_from x xs r h e =
    steps (unsigned 1 xs) _ e
    (λ p q f.
    let b = byte_from p.0 xs p.1 h q in
    let s = part_from p.0 p.1 x r f in
    record {
      is = record { whole = b.is ∙ rw (s.1, ← s.0) };
      fits = le-leb (length x) 255 (let l = b.low in let m = s.1 in omega arith);
      left = (bytes_parts x r (rw s.0 at b.left)).1;
    })

pub flag_back : (b : Bool) (r : List ℕ) → flag (flag_byte b ∷ r) ≡ Some (b, r)
unfolding flag flag_byte
flag_back true r = rw (byte_back 1 r)
flag_back false r = rw (byte_back 0 r)

pub flag_bytes : (b : Bool) (xs : List ℕ) → are_bytes xs ≡ true → are_bytes (flag_byte b ∷ xs) ≡ true
unfolding flag_byte
flag_bytes true xs h = h
flag_bytes false xs h = h

pub flag_from : (b : Bool) (xs r : List ℕ) → are_bytes xs ≡ true → flag xs ≡ Some (b, r) → Got (flag_byte b ∷ []) true xs r
unfolding flag flag_byte
flag_from b xs r h e =
    steps (unsigned 1 xs) _ e
    (λ p q f. let c = byte_from p.0 xs p.1 h q in go p.0 p.1 c f)
  where
    go : (n : ℕ) (y : List ℕ) → Byte n xs y → cond {A = Option (Bool × List ℕ)} (leb n 1) (Some (eqb n 1, y)) None ≡ Some (b, r)
        → Got (flag_byte b ∷ []) true xs r
    go zero y c f =
        let v : false ≡ b = ap (λ a. a.0) (just f) in
        let t : y ≡ r = ap (λ a. a.1) (just f) in
        record { is = record { whole = rw (← v, ← t) c.is }; fits = refl; left = rw (← t) c.left }
    go (suc zero) y c f =
        let v : true ≡ b = ap (λ a. a.0) (just f) in
        let t : y ≡ r = ap (λ a. a.1) (just f) in
        record { is = record { whole = rw (← v, ← t) c.is }; fits = refl; left = rw (← t) c.left }
    go (suc (suc n)) y c f = absurd (nothing (rw (lt-leb (suc (suc n)) 1 (omega arith)) at f))
