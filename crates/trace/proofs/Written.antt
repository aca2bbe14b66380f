-- A record that is written is read. Assumes nothing.
use Rattle.std.specs.Prelude.{Some}
use Prim.Native.Nat.{ℕ, zero, suc, ◌+◌, ◌*◌, ◌≤◌, ◌<◌}
use native.Mathlib.Numerals.{add-one}
use native.Mathlib.Omega.{arith}
use mathlib.Core.Bool.{Bool, true, false}
use mathlib.Core.List.{List, [], ◌∷◌, ◌++◌}
use mathlib.Core.Path.{◌≡◌, refl, sym, ap, ◌∙◌}
use lib.Dec.{ltb}
use lib.ListN.{length, get_or, take, drop}
use lib.Seq.{take-suc, take_all, take-take, length-take-le}
use borrow.Author.Tests.{lt-ltb, le-ltb, ltb-true, ltb-false}
use Rattle.ascii.specs.Text.{bytes}
use Rattle.ascii.specs.Bytes.{same}
use Rattle.ascii.specs.Numbers.{big_endian, big_endian_from}
use Rattle.trace.specs.declared.Kind.{Kind}
use Rattle.trace.specs.declared.Kind.TheVariants.{Opening, Closing, Piece, Reading, Unreadable}
use Rattle.trace.specs.Trace.{kind_of, length_good, Entry, more, whole, size_in, judge_sized, judge_kind, judge}
use Rattle.trace.specs.Reader.{capped, advance, take_bytes}
use Rattle.trace.specs.Theorems.{between, mark_of, written, RecordsAreRead}
use Rattle.trace.proofs.Readings.{one_more_lem, front_part}

-- a record that has begun goes on: in its mark, in its head, in its bytes
in_mark : (xs : List ℕ) → length xs < 2 → judge xs ≡ more
unfolding judge
in_mark xs h = rw (lt-ltb (length xs) 2 h) refl

module _ (k : Kind) (xs : List ℕ) where
  in_head : 2 ≤ length xs → length xs < 13 → kind_of (take 2 xs) ≡ Some k → judge xs ≡ more
  unfolding judge judge_kind
  in_head l h m = rw (le-ltb (length xs) 2 l, m, lt-ltb (length xs) 13 h) refl

  in_body : 13 ≤ length xs → kind_of (take 2 xs) ≡ Some k → length_good k (size_in xs) ≡ true → length xs < 13 + size_in xs → judge xs ≡ more
  unfolding judge judge_kind judge_sized
  in_body l m g h = rw (le-ltb (length xs) 2 (omega arith), m, le-ltb (length xs) 13 l, g, lt-ltb (length xs) (13 + size_in xs) h) refl

-- all bytes of a record, byte by byte
module _ (k : Kind) (all : List ℕ) (marked : kind_of (take 2 all) ≡ Some k) (good : length_good k (size_in all) ≡ true)
    (full : length all ≡ 13 + size_in all) (o : ℕ) where
  abbrev entry : Entry
  entry = record { kind = k; number = get_or all 2 0; time = big_endian (take 8 (drop 3 all)); offered = take (size_in all) (drop 13 all) }

  comes_whole : judge all ≡ whole entry
  unfolding judge judge_kind judge_sized
  comes_whole =
      rw (le-ltb (length all) 2 (omega arith), marked, le-ltb (length all) 13 (omega arith), good, le-ltb (length all) (13 + size_in all) (omega arith))
      refl

  goes_on_lem : (i : ℕ) → i < length all → judge (take i all) ≡ more
  goes_on_lem i h = by_mark (ltb i 2) refl
    where
      long : length (take i all) ≡ i
      long = length-take-le i all (omega arith)

      by_head : 2 ≤ i → (t : Bool) → ltb i 13 ≡ t → judge (take i all) ≡ more
      by_head l true e =
          let m = ltb-true i 13 e in
          in_head k (take i all) (omega (arith, long)) (omega (arith, long)) (ap kind_of (take-take 2 i all l) ∙ marked)
      by_head l false e =
          let m = ltb-false i 13 e in
          let same : size_in (take i all) ≡ size_in all = ap big_endian (front_part all i 11 2 m) in
          in_body k (take i all) (omega (arith, long)) (ap kind_of (take-take 2 i all l) ∙ marked) (ap (length_good k) same ∙ good)
          (omega (arith, long, same))

      by_mark : (t : Bool) → ltb i 2 ≡ t → judge (take i all) ≡ more
      by_mark true e = let m = ltb-true i 2 e in in_mark (take i all) (omega (arith, long))
      by_mark false e = by_head (ltb-false i 2 e) (ltb i 13) refl

  reached : (i : ℕ) → i < length all → take_bytes (between o) (take i all) ≡ (record { held = take i all; offset = o; stopped = false }, [])
  unfolding take_bytes advance
  reached zero h = refl
  reached (suc i) h =
      let before = one_more_lem (between o) all i o (take i all) (omega arith) (reached i (omega arith)) in
      let joined : take (suc i) all ≡ take i all ++ (get_or all i 0 ∷ []) = take-suc all i 0 (omega arith) in
      let on : judge (take i all ++ (get_or all i 0 ∷ [])) ≡ more = ap judge (sym joined) ∙ goes_on_lem (suc i) h in
      ap (λ (n : ℕ). take_bytes (between o) (take n all)) (sym (add-one i)) ∙ before
      ∙ ap (advance o (take i all ++ (get_or all i 0 ∷ []))) on
      ∙ ap (λ (xs : List ℕ). (record { held = xs; offset = o; stopped = false }, [])) (sym joined)

  read : take_bytes (between o) all ≡ (between (capped (o + length all)), entry ∷ [])
  unfolding advance
  read = go (12 + size_in all) (omega arith)
    where
      go : (i : ℕ) → length all ≡ suc i → take_bytes (between o) all ≡ (between (capped (o + length all)), entry ∷ [])
      go i e =
          let h : i < length all = omega arith in
          let last = one_more_lem (between o) all i o (take i all) h (reached i h) in
          let joined : take i all ++ (get_or all i 0 ∷ []) ≡ all = sym (take-suc all i 0 h) ∙ take_all (suc i) all (omega arith) in
          ap (take_bytes (between o)) (sym (take_all (i + 1) all (omega arith))) ∙ last
          ∙ ap (λ (xs : List ℕ). advance o xs (judge xs)) joined ∙ ap (advance o all) comes_whole

marked_so : (k : Kind) → kind_of (mark_of k) ≡ Some k
unfolding kind_of mark_of same bytes
marked_so Opening = refl
marked_so Closing = refl
marked_so Piece = refl
marked_so Reading = refl
marked_so Unreadable = refl

module _ (k : Kind) (n o t0 t1 t2 t3 t4 t5 t6 t7 a b : ℕ) (bs : List ℕ) (sized : 256 * a + b ≡ length bs) (good : length_good k (length bs) ≡ true) where
  abbrev time : List ℕ
  time = t0 ∷ t1 ∷ t2 ∷ t3 ∷ t4 ∷ t5 ∷ t6 ∷ t7 ∷ []

  abbrev all : List ℕ
  all = written k n time a b bs

  size_is : size_in all ≡ length bs
  unfolding written mark_of bytes big_endian big_endian_from
  size_is = by k
    where
      by : (j : Kind) → size_in (written j n time a b bs) ≡ length bs
      by Opening = omega arith
      by Closing = omega arith
      by Piece = omega arith
      by Reading = omega arith
      by Unreadable = omega arith

  mark_is : take 2 all ≡ mark_of k
  unfolding written mark_of bytes
  mark_is = by k
    where
      by : (j : Kind) → take 2 (written j n time a b bs) ≡ mark_of j
      by Opening = refl
      by Closing = refl
      by Piece = refl
      by Reading = refl
      by Unreadable = refl

  long : length all ≡ 13 + length bs
  unfolding written mark_of bytes
  long = by k
    where
      by : (j : Kind) → length (written j n time a b bs) ≡ 13 + length bs
      by Opening = omega arith
      by Closing = omega arith
      by Piece = omega arith
      by Reading = omega arith
      by Unreadable = omega arith

  marked : kind_of (take 2 all) ≡ Some k
  marked = ap kind_of mark_is ∙ marked_so k

  fits : length_good k (size_in all) ≡ true
  fits = ap (length_good k) size_is ∙ good

  full : length all ≡ 13 + size_in all
  full = long ∙ ap (λ (m : ℕ). 13 + m) (sym size_is)

  abbrev told : Entry
  told = record { kind = k; number = n; time = big_endian time; offered = bs }

  tells : entry k all marked fits full o ≡ told
  unfolding written mark_of bytes
  tells = by k
    where
      by : (j : Kind) → ◌≡◌ {A = Entry}
          (record {
            kind = k;
            number = get_or (written j n time a b bs) 2 0;
            time = big_endian (take 8 (drop 3 (written j n time a b bs)));
            offered = take (size_in all) (drop 13 (written j n time a b bs));
          })
          told
      by Opening = rw (size_is, take_all (length bs) bs (omega arith)) refl
      by Closing = rw (size_is, take_all (length bs) bs (omega arith)) refl
      by Piece = rw (size_is, take_all (length bs) bs (omega arith)) refl
      by Reading = rw (size_is, take_all (length bs) bs (omega arith)) refl
      by Unreadable = rw (size_is, take_all (length bs) bs (omega arith)) refl

  record_read : take_bytes (between o) all ≡ (between (capped (o + (13 + length bs))), told ∷ [])
  record_read =
      read k all marked fits full o
      ∙ ap (λ (m : ℕ). (between (capped (o + m)), entry k all marked fits full o ∷ [])) long
      ∙ ap (λ (e : Entry). (between (capped (o + (13 + length bs))), e ∷ [])) tells

pub records_are_read : RecordsAreRead
records_are_read k n o [] a b bs l s g = absurd (omega arith)
records_are_read k n o (t0 ∷ []) a b bs l s g = absurd (omega arith)
records_are_read k n o (t0 ∷ t1 ∷ []) a b bs l s g = absurd (omega arith)
records_are_read k n o (t0 ∷ t1 ∷ t2 ∷ []) a b bs l s g = absurd (omega arith)
records_are_read k n o (t0 ∷ t1 ∷ t2 ∷ t3 ∷ []) a b bs l s g = absurd (omega arith)
records_are_read k n o (t0 ∷ t1 ∷ t2 ∷ t3 ∷ t4 ∷ []) a b bs l s g = absurd (omega arith)
records_are_read k n o (t0 ∷ t1 ∷ t2 ∷ t3 ∷ t4 ∷ t5 ∷ []) a b bs l s g = absurd (omega arith)
records_are_read k n o (t0 ∷ t1 ∷ t2 ∷ t3 ∷ t4 ∷ t5 ∷ t6 ∷ []) a b bs l s g = absurd (omega arith)
records_are_read k n o (t0 ∷ t1 ∷ t2 ∷ t3 ∷ t4 ∷ t5 ∷ t6 ∷ t7 ∷ []) a b bs l s g = record_read k n o t0 t1 t2 t3 t4 t5 t6 t7 a b bs s g
records_are_read k n o (t0 ∷ t1 ∷ t2 ∷ t3 ∷ t4 ∷ t5 ∷ t6 ∷ t7 ∷ t8 ∷ t) a b bs l s g = absurd (omega arith)
