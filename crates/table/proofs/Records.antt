-- Laws of the records of a table, one for each way through a function that reads one. Assumes nothing.
use Rattle.std.specs.Prelude.{Option, Some, None}
use Prim.Native.Nat.{ℕ, zero, suc, ◌+◌, ◌-◌, ◌≤◌, ◌<◌}
use native.Mathlib.Omega.{arith}
use mathlib.Core.Path.{◌≡◌, refl, sym, ap, ◌∙◌}
use mathlib.Core.Bool.{Bool, true, false, cond, ◌&&◌, false≢true}
use mathlib.Core.List.{List, [], ◌∷◌}
use lib.ListN.{length, get_or, take, drop, length-drop}
use lib.Seq.{take-length, drop-drop}
use lib.Dec.{eqb}
use borrow.Author.Tests.{le-leb, lt-leb, eq-eqb, ne_eqb, eqb-true, eqb-false}
use Rattle.std.specs.Cmp.Lexicographic.{pointwise}
use Rattle.std.specs.List.{starts_with}
use Rattle.ascii.specs.Bytes.{◌>>=◌, is_some, after, part}
use Rattle.ascii.specs.Numbers.{unsigned}
use Rattle.ascii.specs.Clauses.Read.{ReadsValue}
use Rattle.ascii.specs.Clauses.Reader.{Ends}
use Rattle.datainfo.specs.Layout.{counted}
use Rattle.datainfo.proofs.Ends.{one_byte, no_byte}
use Rattle.table.specs.Layout.{begins, flag}
use Rattle.table.specs.declared.layout.Part.{Part}
use Rattle.table.specs.Clauses.At.{bytes_of, Inside, SizedIs, Sized, texts_at, TextsAre, FlagIs}

-- ## Marks

eqb_turned : (a b : ℕ) → eqb a b ≡ eqb b a
eqb_turned a b = go (eqb a b) refl
  where
    go : (t : Bool) → eqb a b ≡ t → t ≡ eqb b a
    go true e = sym (eq-eqb b a (sym (eqb-true a b e)))
    go false e = sym (ne_eqb b a (λ z. eqb-false a b e (sym z)))

-- std's test of a slice's front
pub front_begins : (xs m : List ℕ) → starts_with eqb xs m ≡ begins m xs
unfolding begins after
front_begins xs [] = refl
front_begins [] (w ∷ m) = refl
front_begins (x ∷ xs) (w ∷ m) = rw (eqb_turned w x) (go (eqb x w) (front_begins xs m))
  where
    go : (b : Bool) → pointwise eqb m (take (length m) xs) ≡ is_some (after m xs) → (b && pointwise eqb m (take (length m) xs)) ≡ is_some (cond b (after m xs) None)
    go true e = e
    go false e = refl

pub rest_begins : (s : List ℕ) (at : ℕ) (m : List ℕ) → starts_with eqb (take (length s - at) (drop at s)) m ≡ begins m (drop at s)
rest_begins s at m = rw (← (length-drop at s), take-length) (front_begins (drop at s) m)

past : (m xs : List ℕ) → begins m xs ≡ true → (after m xs ≡ Some (drop (length m) xs)) × (length m ≤ length xs)
unfolding begins after
past [] xs e = (refl, omega arith)
past (w ∷ m) [] e = absurd (false≢true e)
past (w ∷ m) (x ∷ xs) e = go (eqb x w) (past m xs) e
  where
    go : (b : Bool) → (is_some (after m xs) ≡ true → (after m xs ≡ Some (drop (length m) xs)) × (length m ≤ length xs)) → is_some (cond b (after m xs) None) ≡ true → (cond b (after m xs) None ≡ Some (drop (length m) xs)) × (suc (length m) ≤ suc (length xs))
    go true f z = let i = f z in let l = i.1 in (i.0, omega arith)
    go false f z = absurd (false≢true z)

module _ (s : List ℕ) (at a b : ℕ) (t : Bool) (h : t ≡ begins (a ∷ b ∷ []) (drop at s)) where
  pub mark_past : at ≤ length s → t ≡ true → Ends s (Some (at + 2)) (after (a ∷ b ∷ []) (drop at s))
  mark_past w e =
      let i = past (a ∷ b ∷ []) (drop at s) (sym h ∙ e) in
      let l : 2 ≤ length (drop at s) = i.1 in
      (i.0 ∙ ap (λ (r : List ℕ). Some r) (drop-drop 2 at s), omega (arith, length-drop at s))

  pub mark_missing : t ≡ false → after (a ∷ b ∷ []) (drop at s) ≡ None
  unfolding begins
  mark_missing e = go (after (a ∷ b ∷ []) (drop at s)) (sym h ∙ e)
    where
      go : (o : Option (List ℕ)) → is_some o ≡ false → o ≡ None
      go None z = refl
      go (Some r) z = absurd (false≢true (sym z))

-- ## Lengths with bytes

module _ (s : List ℕ) (at k : ℕ) (r : Option (ℕ × ℕ)) (h : ReadsValue s r (unsigned k (drop at s))) where
  pub sized_short : r ≡ None → (unsigned k (drop at s) >>= λ p. part p.0 p.1) ≡ None
  sized_short e = simp (rw e at h)

  module _ (n from : ℕ) (e : r ≡ Some (n, from)) where
    pub sized_within : from ≤ length s
    sized_within = (rw e at h).1

    pub sized_long : length s - from < n → (unsigned k (drop at s) >>= λ p. part p.0 p.1) ≡ None
    unfolding part
    sized_long l = simp ((rw e at h).0, length-drop, lt-leb _ _ l)

    pub sized_good : n ≤ length s - from → SizedIs s at k (record { from = from; to = from + n })
    unfolding part bytes_of
    sized_good l =
        let w = sized_within in
        let z : from + n - from ≡ n = omega arith in
        record {
          size = rw z (rw e at h).0;
          held = rw z (simp (length-drop, le-leb _ _ l, drop-drop));
          inside = record { order = omega arith; within = omega arith };
        }

counted_sized : (xs : List ℕ) → counted xs ≡ (unsigned 1 xs >>= λ p. part p.0 p.1)
unfolding counted
counted_sized xs = refl

-- a text
module _ (s : List ℕ) (at : ℕ) (r : Option Part) (h : Sized s at 1 r) where
  pub text_bad : r ≡ None → counted (drop at s) ≡ None
  text_bad e = counted_sized _ ∙ rw e at h

  module _ (p : Part) (e : r ≡ Some p) where
    pub text_inside : Inside s p
    text_inside = (rw e at h).inside

    pub text_is : counted (drop at s) ≡ Some (bytes_of s p, drop p.to s)
    text_is = counted_sized _ ∙ rw (rw e at h).size (rw e at h).held

-- a mark and two texts
module _ (s : List ℕ) (at : ℕ) (m : List ℕ) (n : Option ℕ) (hn : Ends s n (after m (drop at s))) where
  pub texts_unmarked : n ≡ None → texts_at m (drop at s) ≡ None
  unfolding texts_at
  texts_unmarked e = simp (rw e at hn)

  module _ (a : ℕ) (en : n ≡ Some a) (r : Option Part) (h : Sized s a 1 r) where
    pub texts_none : r ≡ None → texts_at m (drop at s) ≡ None
    unfolding texts_at
    texts_none e = simp ((rw en at hn).0, text_bad s a r h e)

    module _ (p : Part) (e : r ≡ Some p) (q : Option Part) (k : Sized s p.to 1 q) where
      pub texts_one : q ≡ None → texts_at m (drop at s) ≡ None
      unfolding texts_at
      texts_one z = simp ((rw en at hn).0, text_is s a r h p e, text_bad s p.to q k z)

      pub texts_two : (d : Part) → q ≡ Some d → TextsAre s p d (texts_at m (drop at s))
      unfolding texts_at
      texts_two d z =
          record {
            is = simp ((rw en at hn).0, text_is s a r h p e, text_is s p.to q k d z);
            between = (rw z at k).size;
            name = text_inside s a r h p e;
            description = text_inside s p.to q k d z;
          }

-- ## Flags

module _ (s : List ℕ) (at : ℕ) where
  pub flag_none : length s ≤ at → flag (drop at s) ≡ None
  unfolding flag
  flag_none h = simp (no_byte s at h)

  module _ (h : at < length s) where
    pub flag_zero : get_or s at 0 ≡ 0 → FlagIs s (Some (false, (at + 1))) (flag (drop at s))
    unfolding flag
    flag_zero e = (simp (one_byte s at h, e), omega arith)

    pub flag_one : get_or s at 0 ≡ 1 → FlagIs s (Some (true, (at + 1))) (flag (drop at s))
    unfolding flag
    flag_one e = (simp (one_byte s at h, e), omega arith)

    pub flag_other : (get_or s at 0 ≡ 0 → ⊥) → (get_or s at 0 ≡ 1 → ⊥) → flag (drop at s) ≡ None
    unfolding flag
    flag_other z o = simp (one_byte s at h, lt-leb _ _ (more (get_or s at 0) z o))
      where
        more : (b : ℕ) → (b ≡ 0 → ⊥) → (b ≡ 1 → ⊥) → 1 < b
        more zero z o = absurd (z refl)
        more (suc zero) z o = absurd (o refl)
        more (suc (suc b)) z o = omega arith
