-- Laws of the code that reads a number and a datainfo's limits. Assumes nothing.
use Rattle.std.specs.Prelude.{Option, Some, None}
use Prim.Native.Nat.{ℕ, suc, ◌+◌, ◌*◌, ◌-◌, ◌≤◌, ◌<◌}
use native.Mathlib.Numerals.{add-one}
use native.Mathlib.Omega.{arith}
use mathlib.Core.Bool.{Bool, true, false, cond, ◌&&◌}
use mathlib.Core.List.{List, [], ◌∷◌}
use mathlib.Core.Path.{◌≡◌, refl, sym, ap, ap₂, ◌∙◌}
use lib.IntN.{ℤ, pos, negsuc}
use lib.ListN.{length, get_or, drop, drop_of_length-le}
use lib.Seq.{drop-cons}
use lib.Signed.{le_z}
use mir.Syntax.{w64}
use mir.Val.{to_z, of_z, SFits}
use mir.Facts.{to_z-of_z}
use Rattle.std.specs.Char.{is_ascii_digit}
use Rattle.ascii.specs.Bytes.{is_in, is_digit}
use Rattle.ascii.specs.Numbers.{unsigned, signed}
use Rattle.ascii.specs.Clauses.Read.{ReadsValue}
use Rattle.decimal.specs.Decimal.{numeral_from, numeral}
use Rattle.datainfo.specs.Datainfo.{Datainfo}
use Rattle.datainfo.specs.Layout.{limit, double_at, int_at, enum_at, string_at, array_at, tuple_at, struct_at, scaled_at, blob_at, partial_at, variants, elements}
use Rattle.datainfo.specs.Layout.{fields, typed, datainfo_in}
use Rattle.datainfo.specs.Clauses.Obeyed.{ReadsLimit}
use Rattle.fit.proofs.Shapes.{nothing, just, either, steps}
use Rattle.figures.specs.Figures.{is_narrow, is_summed}
use Rattle.figures.specs.Clauses.Tally.{Small, LimitsNarrow, ScaledNarrow, TellsSummed, SetTo, Marks, mark_of, above}
use Rattle.figures.proofs.Stored.{stored_small}

-- ## Digits

abbrev more : ℕ → ℕ → ℕ
more n b = cond (is_digit b) (n * 10 + (b - 48)) n

digit_same : (b : ℕ) → is_ascii_digit b ≡ is_digit b
unfolding is_in
digit_same b = refl

pub byte_other : (n b : ℕ) → false ≡ is_ascii_digit b → n ≡ more n b
byte_other n b e = rw (← (digit_same b), ← e) refl

pub byte_digit : (n b d : ℕ) → true ≡ is_ascii_digit b → d ≡ b - 48 → n * 10 + d ≡ more n b
byte_digit n b d e f = rw (f, ← (digit_same b), ← e) refl

more_grows : (n b : ℕ) → n ≤ more n b
more_grows n b = go (is_digit b) refl
  where
    go : (t : Bool) → is_digit b ≡ t → n ≤ more n b
    go true e = rw e (omega arith)
    go false e = rw e (omega arith)

-- what follows makes no smaller number
grows : (n : ℕ) (xs : List ℕ) → n ≤ numeral_from n xs
unfolding numeral_from
grows n [] = omega arith
grows n (b ∷ xs) = omega (arith, more_grows n b, grows (more n b) xs)

module _ (t : List ℕ) (n i : ℕ) where
  pub digits_room : Small t → numeral_from 0 t ≡ numeral_from n (drop i t) → n ≤ 2147483648
  digits_room h e = omega (arith, grows n (drop i t))

  pub digits_more : (m : ℕ) → i < length t → m ≡ more n (get_or t i 0) → numeral_from 0 t ≡ numeral_from n (drop i t)
      → numeral_from 0 t ≡ numeral_from m (drop (i + 1) t)
  unfolding numeral_from
  digits_more m h x e = e ∙ rw (drop-cons t i 0 h, add-one i) (ap (λ (k : ℕ). numeral_from k (drop (suc i) t)) (sym x))

  pub digits_all : length t ≤ i → numeral_from 0 t ≡ numeral_from n (drop i t) → n ≡ numeral_from 0 t
  unfolding numeral_from
  digits_all h e = sym (e ∙ ap (numeral_from n) (drop_of_length-le t h))

-- ## Limits

-- a number of the code
abbrev held : ℤ → ℤ
held z = to_z w64 (of_z w64 z)

least_held : held (negsuc 2147483647) ≡ negsuc 2147483647
least_held = to_z-of_z {w = w64} (record { sfits = omega arith })

greatest_held : held (pos 2147483647) ≡ pos 2147483647
greatest_held = to_z-of_z {w = w64} (record { sfits = omega arith })

module _ (lo hi l m : ℤ) (f : SFits w64 lo) (low : l ≡ negsuc 2147483647) where
  tested : le_z (held l) (held lo) ≡ le_z (negsuc 2147483647) lo
  tested = ap₂ le_z (ap held low ∙ least_held) (to_z-of_z f)

  pub narrow_no : le_z (held l) (held lo) ≡ false → le_z (held l) (held lo) ≡ is_narrow lo hi
  unfolding is_narrow
  narrow_no h = h ∙ sym (ap (λ b. b && le_z hi (pos 2147483647)) (sym tested ∙ h))

  pub narrow_yes : SFits w64 hi → m ≡ pos 2147483647 → le_z (held l) (held lo) ≡ true → le_z (held hi) (held m) ≡ is_narrow lo hi
  unfolding is_narrow
  narrow_yes g high h =
      ap₂ le_z (to_z-of_z g) (ap held high ∙ greatest_held)
      ∙ sym (ap (λ b. b && le_z hi (pos 2147483647)) (sym tested ∙ h))

module _ (s : List ℕ) (at : ℕ) (r : Bool) (u : Option (ℤ × ℤ × ℕ)) (k : ReadsLimit s u (limit (drop at s))) where
  pub scaled_1 : u ≡ None → ScaledNarrow (drop at s) r
  scaled_1 e = record { is = λ a. absurd (nothing (sym (rw e at k) ∙ a)) }

  pub scaled_good : (m p : ℤ) (a : ℕ) → u ≡ Some (m, p, a) → LimitsNarrow (drop a s) r → ScaledNarrow (drop at s) r
  scaled_good m p a e h =
      record { is = λ x. let q = just (sym (rw e at k).0 ∙ x) in rw (← ap (λ z. z.1) q) h }

-- ## Which datainfos are summed

abbrev Summed : Option (Datainfo × List ℕ) → Bool → Type 0
Summed o r = (d : Datainfo) (x : List ℕ) → o ≡ Some (d, x) → r ≡ is_summed d

int_summed : (xs : List ℕ) (r : Bool) → LimitsNarrow xs r → Summed (int_at xs) r
unfolding int_at is_summed
int_summed xs r n d x e =
    steps (signed 8 xs) _ e λ o a e. steps (signed 8 o.1) _ e λ p b e.
    n.is a b ∙ ap is_summed (ap (λ q. q.0) (just e))

scaled_summed : (xs : List ℕ) (r : Bool) → ScaledNarrow xs r → Summed (scaled_at xs) r
unfolding scaled_at is_summed
scaled_summed xs r n d x e =
    steps (limit xs) _ e λ l c e. steps (signed 8 l.1) _ e λ o a e. steps (signed 8 o.1) _ e λ p b e.
    (n.is c).is a b ∙ ap is_summed (ap (λ q. q.0) (just e))

module _ (inner : List ℕ → Option (Datainfo × List ℕ)) (xs : List ℕ) where
  double_not : Summed (double_at xs) false
  unfolding double_at is_summed
  double_not d x e = steps (limit xs) _ e λ o a e. steps (limit o.1) _ e λ p b e. ap is_summed (ap (λ q. q.0) (just e))

  bool_not : Summed (Some (Datainfo.bool, xs)) false
  unfolding is_summed
  bool_not d x e = ap is_summed (ap (λ q. q.0) (just e))

  enum_not : Summed (enum_at xs) false
  unfolding enum_at is_summed
  enum_not d x e = steps (unsigned 1 xs) _ e λ o a e. steps (variants o.0 o.1) _ e λ p b e. ap is_summed (ap (λ q. q.0) (just e))

  string_not : Summed (string_at xs) false
  unfolding string_at is_summed
  string_not d x e = steps (unsigned 2 xs) _ e λ o a e. steps (unsigned 2 o.1) _ e λ p b e. ap is_summed (ap (λ q. q.0) (just e))

  blob_not : Summed (blob_at xs) false
  unfolding blob_at is_summed
  blob_not d x e = steps (unsigned 2 xs) _ e λ o a e. steps (unsigned 2 o.1) _ e λ p b e. ap is_summed (ap (λ q. q.0) (just e))

  array_not : Summed (array_at inner xs) false
  unfolding array_at is_summed
  array_not d x e =
      steps (unsigned 2 xs) _ e λ o a e. steps (unsigned 2 o.1) _ e λ p b e. steps (inner p.1) _ e λ q c e.
      ap is_summed (ap (λ z. z.0) (just e))

  tuple_not : Summed (tuple_at inner xs) false
  unfolding tuple_at is_summed
  tuple_not d x e = steps (unsigned 1 xs) _ e λ o a e. steps (elements inner o.0 o.1) _ e λ p b e. ap is_summed (ap (λ q. q.0) (just e))

  struct_not : Summed (struct_at inner xs) false
  unfolding struct_at is_summed
  struct_not d x e = steps (unsigned 1 xs) _ e λ o a e. steps (fields inner 8 o.0 o.1) _ e λ p b e. ap is_summed (ap (λ q. q.0) (just e))

  partial_not : Summed (partial_at inner xs) false
  unfolding partial_at is_summed
  partial_not d x e = steps (unsigned 1 xs) _ e λ o a e. steps (fields inner 11 o.0 o.1) _ e λ p b e. ap is_summed (ap (λ q. q.0) (just e))

  typed_not : (k : ℕ) → (k ≡ 2 → ⊥) → (k ≡ 9 → ⊥) → Summed (typed inner k xs) false
  unfolding typed
  typed_not k i s d x e =
      either k 1 (double_at xs) _ e (λ n. double_not d x) λ n e.
      either k 2 (int_at xs) _ e (λ n. absurd (i n)) λ n e.
      either k 3 (Some (Datainfo.bool, xs)) _ e (λ n. bool_not d x) λ n e.
      either k 4 (enum_at xs) _ e (λ n. enum_not d x) λ n e.
      either k 5 (string_at xs) _ e (λ n. string_not d x) λ n e.
      either k 6 (array_at inner xs) _ e (λ n. array_not d x) λ n e.
      either k 7 (tuple_at inner xs) _ e (λ n. tuple_not d x) λ n e.
      either k 8 (struct_at inner xs) _ e (λ n. struct_not d x) λ n e.
      either k 9 (scaled_at xs) _ e (λ n. absurd (s n)) λ n e.
      either k 10 (blob_at xs) _ e (λ n. blob_not d x) λ n e.
      either k 11 (partial_at inner xs) _ e (λ n. partial_not d x) λ n e.
      absurd (nothing e)

-- the code's ways: by the type byte
module _ (s : List ℕ) (info : ℕ) (r : Bool) (u : Option (ℕ × ℕ)) (h : ReadsValue s u (unsigned 1 (drop info s))) where
  pub summed_short : u ≡ None → TellsSummed s info r
  unfolding datainfo_in
  summed_short e = record { is = λ x. steps (unsigned 1 (drop info s)) _ x λ o a f. absurd (nothing (sym (rw e at h) ∙ a)) }

  module _ (k at : ℕ) (e : u ≡ Some (k, at)) where
    by_type : Summed (typed (datainfo_in 3) k (drop at s)) r → TellsSummed s info r
    unfolding datainfo_in
    by_type f =
        record {
          is = λ x. steps (unsigned 1 (drop info s)) _ x λ o a g.
              let p = just (sym a ∙ (rw e at h).0) in
              f _ _ (rw (ap (λ q. q.0) p, ap (λ q. q.1) p) at g);
        }

    pub summed_int : k ≡ 2 → LimitsNarrow (drop at s) r → TellsSummed s info r
    unfolding typed
    summed_int z n = by_type (rw z (int_summed (drop at s) r n))

    pub summed_scaled : k ≡ 9 → ScaledNarrow (drop at s) r → TellsSummed s info r
    unfolding typed
    summed_scaled z n = by_type (rw z (scaled_summed (drop at s) r n))

    pub summed_not : (k ≡ 2 → ⊥) → (k ≡ 9 → ⊥) → r ≡ false → TellsSummed s info r
    summed_not i j z = by_type λ d x e. z ∙ typed_not (datainfo_in 3) (drop at s) k i j d x e

-- ## The mark of a setting

module _ (s : List ℕ) (info : ℕ) (v : List ℕ) (x : SetTo s info v) (b : Bool) (t : TellsSummed s info b) where
  pub mark_small : b ≡ true → Small v
  mark_small e = stored_small x.datainfo v (sym (t.is x.reads) ∙ e) x.stored

  pub mark_number : (r : ℕ) → b ≡ true → (r ≡ above (numeral v)) × (r ≤ 4294967296) → Marks s info v r
  unfolding mark_of
  mark_number r e h = record { is = λ f. rw (← t.is f, e) h.0; low = h.1 }

  pub mark_none : b ≡ false → Marks s info v 0
  unfolding mark_of
  mark_none e = record { is = λ f. rw (← t.is f, e) refl; low = omega arith }
