-- Laws of the code that sizes a text, one for each way through a function. A flag or a number that the code has stands before what it is.
-- Assumes nothing.
use Rattle.std.specs.Option.{is_some}
use Rattle.std.specs.Prelude.{Option, Some, None}
use Prim.Native.Nat.{ℕ, ◌+◌, ◌-◌, ◌%◌, ◌≤◌, ◌<◌}
use native.Mathlib.Nat.{add-zero, zero-add}
use native.Mathlib.Omega.{arith}
use mathlib.Core.Path.{◌≡◌, refl, sym, ap, ◌∙◌}
use mathlib.Core.Bool.{Bool, true, false, cond, ◌&&◌, and-false, false≢true}
use mathlib.Core.List.{List, [], ◌∷◌}
use lib.Dec.{leb, eqb, eqb-suc-zero}
use lib.ListN.{length, get_or, drop, length-drop}
use lib.Seq.{get_or-drop, drop-drop}
use borrow.Author.Tests.{leb-true, lt-ltb, eq-eqb, ne_eqb}
use Rattle.ascii.specs.Bytes.{is_in, is_digit}
use Rattle.ascii.specs.Clauses.Reader.{ByteAt}
use Rattle.ascii.proofs.Bytes.{head_drop}
use Rattle.base64_text.specs.Base64.{sextet, is_sextet, is_whole, padded, more, blob_size}
use Rattle.base64_text.specs.Clauses.Answer.{six_bits, whole_at, last_size}
use Rattle.base64_text.proofs.Digits.{both}

-- ## The six bits of a digit

pub in_low : (lo hi b : ℕ) {t : Bool} → t ≡ is_in lo hi b → t ≡ true → lo ≤ b
unfolding is_in
in_low lo hi b e h = leb-true lo b (both (leb lo b) (sym e ∙ h)).0

module _ (b : ℕ) {u : Bool} (hu : u ≡ is_in 65 90 b) where
  pub sextet_upper : u ≡ true → b - 65 ≡ sextet b
  unfolding sextet
  sextet_upper h = simp (sym hu ∙ h)

  module _ (nu : u ≡ false) {v : Bool} (hv : v ≡ is_in 97 122 b) where
    pub sextet_lower : v ≡ true → b - 71 ≡ sextet b
    unfolding sextet
    sextet_lower h = simp (sym hu ∙ nu, sym hv ∙ h)

    module _ (nv : v ≡ false) {w : Bool} (hw : w ≡ is_digit b) where
      pub sextet_digit : w ≡ true → b + 4 ≡ sextet b
      unfolding sextet
      sextet_digit h = simp (sym hu ∙ nu, sym hv ∙ nv, sym hw ∙ h)

      module _ (nw : w ≡ false) where
        pub sextet_plus : b ≡ 43 → 62 ≡ sextet b
        unfolding sextet
        sextet_plus h = simp (sym hu ∙ nu, sym hv ∙ nv, sym hw ∙ nw, eq-eqb b 43 h)

        pub sextet_slash : (b ≡ 43 → ⊥) → b ≡ 47 → 63 ≡ sextet b
        unfolding sextet
        sextet_slash n h = simp (sym hu ∙ nu, sym hv ∙ nv, sym hw ∙ nw, ne_eqb b 43 n, eq-eqb b 47 h)

        pub sextet_none : (b ≡ 43 → ⊥) → (b ≡ 47 → ⊥) → 64 ≡ sextet b
        unfolding sextet
        sextet_none n m = simp (sym hu ∙ nu, sym hv ∙ nv, sym hw ∙ nw, ne_eqb b 43 n, ne_eqb b 47 m)

-- with six bits it is a digit
pub digit : (b n : ℕ) → n ≡ sextet b → n < 64 → Some n ≡ six_bits b
unfolding six_bits is_sextet
digit b n e h = rw (← e, lt-ltb n 64 h)

pub not_digit : (b : ℕ) → 64 ≡ sextet b → None ≡ six_bits b
unfolding six_bits is_sextet
not_digit b e = rw (← e)

pub bits_told : (b : ℕ) → is_some (six_bits b) ≡ is_sextet b
unfolding six_bits
bits_told b = go (is_sextet b)
  where
    go : (t : Bool) → is_some (cond t (Some (sextet b)) None) ≡ t
    go true = refl
    go false = refl

module _ (b : ℕ) {o : Option ℕ} (h : o ≡ six_bits b) where
  no_bits : o ≡ None → is_sextet b ≡ false
  no_bits e = sym (bits_told b) ∙ rw (← h, e)

  has_bits : {x : ℕ} → o ≡ Some x → is_sextet b ≡ true
  has_bits e = sym (bits_told b) ∙ rw (← h, e)

  its_bits : {x : ℕ} → o ≡ Some x → x ≡ sextet b
  unfolding six_bits
  its_bits e = just (sym e ∙ h ∙ rw (has_bits e))
    where
      just : {x y : ℕ} → Some x ≡ Some y → x ≡ y
      just e = cc

-- ## Four digits at a position

flag : {t : List ℕ} {i b : ℕ} → ByteAt t i b → {u v : Bool} → u ≡ is_sextet b → u ≡ v → is_sextet (get_or t i 0) ≡ v
flag {t} {i} x e h = rw (← (x.is ∙ head_drop t i)) (sym e ∙ h)

module _ {t : List ℕ} {i a : ℕ} (xa : ByteAt t i a) {u : Bool} (hu : u ≡ is_sextet a) where
  pub whole_first : u ≡ false → false ≡ whole_at t i
  unfolding is_whole
  whole_first h = simp (flag xa hu h)

  module _ (pu : u ≡ true) {b : ℕ} (xb : ByteAt t (i + 1) b) {v : Bool} (hv : v ≡ is_sextet b) where
    pub whole_second : v ≡ false → false ≡ whole_at t i
    unfolding is_whole
    whole_second h = simp (flag xa hu pu, flag xb hv h)

    module _ (pv : v ≡ true) {c : ℕ} (xc : ByteAt t (i + 2) c) {w : Bool} (hw : w ≡ is_sextet c) where
      pub whole_third : w ≡ false → false ≡ whole_at t i
      unfolding is_whole
      whole_third h = simp (flag xa hu pu, flag xb hv pv, flag xc hw h)

      pub whole_all : w ≡ true → {d : ℕ} → ByteAt t (i + 3) d → {r : Bool} → r ≡ is_sextet d
          → r ≡ whole_at t i
      unfolding is_whole
      whole_all h x e = simp (flag xa hu pu, flag xb hv pv, flag xc hw h) (sym (flag x e refl))

-- ## A padded group

module _ (a b c d : ℕ) {o : Option ℕ} (ho : o ≡ six_bits a) where
  pub padded_first : o ≡ None → None ≡ padded a b c d
  unfolding padded
  padded_first h = simp (no_bits a ho h)

  module _ (x : ℕ) (po : o ≡ Some x) {q : Option ℕ} (hq : q ≡ six_bits b) where
    pub padded_second : q ≡ None → None ≡ padded a b c d
    unfolding padded
    padded_second h = simp (has_bits a ho po, no_bits b hq h)

    module _ (y : ℕ) (pq : q ≡ Some y) where
      pub padded_end : (d ≡ 61 → ⊥) → None ≡ padded a b c d
      unfolding padded
      padded_end h = simp (has_bits a ho po, has_bits b hq pq, ne_eqb d 61 h)

      module _ (hd : d ≡ 61) where
        pub two_pads : c ≡ 61 → y % 16 ≡ 0 → Some 1 ≡ padded a b c d
        unfolding padded
        two_pads hc h = simp (has_bits a ho po, has_bits b hq pq, eq-eqb d 61 hd, eq-eqb c 61 hc, ← (its_bits b hq pq), eq-eqb (y % 16) 0 h)

        pub two_pads_bad : c ≡ 61 → (y % 16 ≡ 0 → ⊥) → None ≡ padded a b c d
        unfolding padded
        two_pads_bad hc h = simp (has_bits a ho po, has_bits b hq pq, eq-eqb d 61 hd, eq-eqb c 61 hc, ← (its_bits b hq pq), ne_eqb (y % 16) 0 h)

        module _ (nc : c ≡ 61 → ⊥) {r : Option ℕ} (hr : r ≡ six_bits c) where
          pub padded_third : r ≡ None → None ≡ padded a b c d
          unfolding padded
          padded_third h = simp (has_bits a ho po, has_bits b hq pq, eq-eqb d 61 hd, ne_eqb c 61 nc, no_bits c hr h)

          module _ (z : ℕ) (pr : r ≡ Some z) where
            pub one_pad : z % 4 ≡ 0 → Some 2 ≡ padded a b c d
            unfolding padded
            one_pad h = simp (has_bits a ho po, has_bits b hq pq, eq-eqb d 61 hd, ne_eqb c 61 nc, has_bits c hr pr, ← (its_bits c hr pr), eq-eqb (z % 4) 0 h)

            pub one_pad_bad : (z % 4 ≡ 0 → ⊥) → None ≡ padded a b c d
            unfolding padded
            one_pad_bad h = simp (has_bits a ho po, has_bits b hq pq, eq-eqb d 61 hd, ne_eqb c 61 nc, has_bits c hr pr, ← (its_bits c hr pr), ne_eqb (z % 4) 0 h)

-- ## What follows the whole groups

module _ (t : List ℕ) (i : ℕ) where
  pub last_none : length t - i ≡ 0 → Some 0 ≡ last_size (drop i t)
  unfolding last_size
  last_none h = simp (length-drop, h)

  pub last_padded : length t - i ≡ 4 → {o : Option ℕ} → o ≡ padded (get_or t i 0) (get_or t (i + 1) 0) (get_or t (i + 2) 0) (get_or t (i + 3) 0)
      → o ≡ last_size (drop i t)
  unfolding last_size
  last_padded h e = simp (length-drop, h, get_or-drop, add-zero) e

  pub last_bad : (length t - i ≡ 0 → ⊥) → (length t - i ≡ 4 → ⊥) → None ≡ last_size (drop i t)
  unfolding last_size
  last_bad h k = simp (length-drop, ne_eqb _ 0 h, ne_eqb _ 4 k)

-- it is two bytes at most
data Low : Option ℕ → Type 0 where
  no : Low None
  yes : {m : ℕ} → m ≤ 2 → Low (Some m)

either : (t : Bool) {o p : Option ℕ} → Low o → Low p → Low (cond t o p)
either true x y = x
either false x y = y

padded_low : (a b c d : ℕ) → Low (padded a b c d)
unfolding padded
padded_low a b c d =
    either (is_sextet a && is_sextet b && eqb d 61)
    (either (eqb c 61)
    (either (eqb (sextet b % 16) 0) (yes (omega arith)) no)
    (either (is_sextet c && eqb (sextet c % 4) 0) (yes (omega arith)) no))
    no

last_size_low : (xs : List ℕ) → Low (last_size xs)
unfolding last_size
last_size_low xs =
    either (eqb (length xs) 0) (yes (omega arith))
    (either (eqb (length xs) 4) (padded_low (get_or xs 0 0) (get_or xs 1 0) (get_or xs 2 0) (get_or xs 3 0)) no)

few : {m : ℕ} → Low (Some m) → m ≤ 2
few (yes h) = h

pub last_low : (t : List ℕ) (i : ℕ) {s : Option ℕ} → s ≡ last_size (drop i t) → (m : ℕ) → s ≡ Some m → m ≤ 2
last_low t i hs m e = few (rw (← hs, e) at (last_size_low (drop i t)))

-- ## The whole groups

more_none : (o : Option ℕ) → more 0 o ≡ o
unfolding more
more_none None = refl
more_none (Some m) = ap Some (zero-add m)

more_more : (n k : ℕ) (o : Option ℕ) → more n (more k o) ≡ more (n + k) o
unfolding more
more_more n k None = refl
more_more n k (Some m) = ap Some (omega arith)

-- past the end there is no digit
no_digit : is_sextet 0 ≡ false
unfolding is_sextet sextet is_in
no_digit = refl

at_least_four : (xs : List ℕ) → is_whole (get_or xs 0 0) (get_or xs 1 0) (get_or xs 2 0) (get_or xs 3 0) ≡ true
    → (4 ≤ length xs) × (blob_size xs ≡ more 3 (blob_size (drop 4 xs)))
unfolding is_whole blob_size
at_least_four [] h = absurd (false≢true (simp no_digit at h))
at_least_four (a ∷ []) h = absurd (false≢true (simp (no_digit, and-false) at h))
at_least_four (a ∷ b ∷ []) h = absurd (false≢true (simp (no_digit, and-false) at h))
at_least_four (a ∷ b ∷ c ∷ []) h = absurd (false≢true (simp (no_digit, and-false) at h))
at_least_four (a ∷ b ∷ c ∷ d ∷ xs) h = (omega arith, rw h)

no_more : (xs : List ℕ) → is_whole (get_or xs 0 0) (get_or xs 1 0) (get_or xs 2 0) (get_or xs 3 0) ≡ false → blob_size xs ≡ last_size xs
unfolding blob_size last_size
no_more [] h = refl
no_more (a ∷ []) h = refl
no_more (a ∷ b ∷ []) h = refl
no_more (a ∷ b ∷ c ∷ []) h = refl
no_more (a ∷ b ∷ c ∷ d ∷ []) h = rw h
no_more (a ∷ b ∷ c ∷ d ∷ x ∷ xs) h = simp (h, eqb-suc-zero, ne_eqb (length (a ∷ b ∷ c ∷ d ∷ x ∷ xs)) 4 (omega arith))

at_drop : (t : List ℕ) (i : ℕ)
    → is_whole (get_or (drop i t) 0 0) (get_or (drop i t) 1 0) (get_or (drop i t) 2 0) (get_or (drop i t) 3 0) ≡ whole_at t i
at_drop t i = simp (get_or-drop, add-zero)

module _ (t : List ℕ) (i : ℕ) {r : Bool} (hr : r ≡ whole_at t i) where
  pub whole_fits : r ≡ true → i + 4 ≤ length t
  whole_fits h = let f = (at_least_four (drop i t) (at_drop t i ∙ sym hr ∙ h)).0 in omega (arith, length-drop i t)

  pub whole_less : r ≡ true → length t - (i + 4) < length t - i
  whole_less h = let f = whole_fits h in omega arith

  module _ (n : ℕ) (at : blob_size t ≡ more n (blob_size (drop i t))) where
    pub sized_more : r ≡ true → blob_size t ≡ more (n + 3) (blob_size (drop (i + 4) t))
    sized_more h = at ∙ rw ((at_least_four (drop i t) (at_drop t i ∙ sym hr ∙ h)).1, more_more, drop-drop)

    module _ (h : r ≡ false) {s : Option ℕ} (hs : s ≡ last_size (drop i t)) where
      pub sized_bad : s ≡ None → None ≡ blob_size t
      unfolding more
      sized_bad e = sym (at ∙ rw (no_more (drop i t) (at_drop t i ∙ sym hr ∙ h), ← hs, e))

      pub sized_of : (m : ℕ) → s ≡ Some m → Some (n + m) ≡ blob_size t
      unfolding more
      sized_of m e = sym (at ∙ rw (no_more (drop i t) (at_drop t i ∙ sym hr ∙ h), ← hs, e))

pub sized_none : (t : List ℕ) → blob_size t ≡ more 0 (blob_size (drop 0 t))
sized_none t = sym (more_none (blob_size t))
