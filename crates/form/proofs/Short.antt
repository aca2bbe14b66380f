-- The numbers of the enums in a datainfo of the table are of four bytes, so their text is within the limits of a number's token. Assumes nothing.
use Rattle.std.specs.Prelude.{Option, Some, None}
use Prim.Native.Nat.{ℕ, zero, suc, ◌-◌, ◌^◌, ◌≤◌}
use native.Mathlib.Omega.{arith}
use mathlib.Core.Bool.{Bool, true, false, cond}
use mathlib.Core.List.{List, [], ◌∷◌}
use mathlib.Core.Path.{◌≡◌, refl}
use lib.Dec.{ltb, eqb}
use lib.IntN.{pos, negsuc}
use lib.ListN.{length}
use borrow.Author.Tests.{ltb-true}
use Rattle.ascii.specs.Bytes.{part}
use Rattle.ascii.specs.Numbers.{big_endian, twos_complement, unsigned, signed, integer}
use Rattle.ascii.proofs.Decimal.{integer_low}
use Rattle.json_text.proofs.ReadAgain.{Of, failed, gave, of_cond, of_bind, of_some}
use Rattle.datainfo.specs.Datainfo.{Variant, Datainfo, double, int, bool, enum, string, array, tuple, struct, scaled, blob, partial, Elements, no_elements, element, Fields, no_fields, field}
use Rattle.datainfo.specs.Layout.{counted, limit, double_at, int_at, variants, enum_at, string_at, array_at, elements, entry, joined, tuple_at, fields, struct_at, partial_at, scaled_at, blob_at, typed, datainfo_in}

abbrev pub ShortNumbers : List Variant → Type 0
ShortNumbers [] = Unit {0}
ShortNumbers (v ∷ vs) = (length (integer v.number) ≤ 32) × ShortNumbers vs

abbrev mutual
  pub Short : Datainfo → Type 0
  Short (double lo hi) = Unit {0}
  Short (int lo hi) = Unit {0}
  Short bool = Unit {0}
  Short (enum vs) = ShortNumbers vs
  Short (string lo hi) = Unit {0}
  Short (array lo hi d) = Short d
  Short (tuple ds) = ShortElements ds
  Short (struct fs) = ShortFields fs
  Short (scaled s lo hi) = Unit {0}
  Short (blob lo hi) = Unit {0}
  Short (partial ns fs) = ShortFields fs

  pub ShortElements : Elements → Type 0
  ShortElements no_elements = Unit {0}
  ShortElements (element d ds) = Short d × ShortElements ds

  pub ShortFields : Fields → Type 0
  ShortFields no_fields = Unit {0}
  ShortFields (field k d fs) = Short d × ShortFields fs

-- ## Numbers of four bytes

twos_short : (m : ℕ) → length (integer (twos_complement 4 m)) ≤ 32
unfolding twos_complement
twos_short m = go (ltb m (2 ^ 31)) refl
  where
    go : (b : Bool) → ltb m (2 ^ 31) ≡ b → length (integer (cond b (pos m) (negsuc (2 ^ 32 - 1 - m)))) ≤ 32
    go true e = omega (arith, integer_low (pos m) (omega (arith, ltb-true m (2 ^ 31) e)))
    go false e = omega (arith, integer_low (negsuc (2 ^ 32 - 1 - m)) (omega arith))

-- whatever was read
pub anything : {A : Type 0} (o : Option A) → Of (λ a. Unit {0}) o
anything None = failed
anything (Some a) = gave tt

number_short : (xs : List ℕ) → Of (λ p. length (integer p.0) ≤ 32) (signed 4 xs)
unfolding signed
number_short xs = of_bind (anything (part 4 xs)) λ p _. gave (twos_short (big_endian p.0))

variants_short : (n : ℕ) (xs : List ℕ) → Of (λ p. ShortNumbers p.0) (variants n xs)
unfolding variants
variants_short zero xs = gave tt
variants_short (suc n) xs =
    of_bind (anything (counted xs)) λ k _. of_bind (number_short k.1) λ v h. of_bind (variants_short n v.1) λ vs i. gave (h, i)

-- ## Datainfos

abbrev Gives : (List ℕ → Option (Datainfo × List ℕ)) → Type 0
Gives f = (xs : List ℕ) → Of (λ p. Short p.0) (f xs)

double_short : Gives double_at
unfolding double_at
double_short xs = of_bind (anything (limit xs)) λ lo _. of_bind (anything (limit lo.1)) λ hi _. gave tt

int_short : Gives int_at
unfolding int_at
int_short xs = of_bind (anything (signed 8 xs)) λ lo _. of_bind (anything (signed 8 lo.1)) λ hi _. gave tt

enum_short : Gives enum_at
unfolding enum_at
enum_short xs = of_bind (anything (unsigned 1 xs)) λ n _. of_bind (variants_short n.0 n.1) λ vs h. gave h

string_short : Gives string_at
unfolding string_at
string_short xs = of_bind (anything (unsigned 2 xs)) λ lo _. of_bind (anything (unsigned 2 lo.1)) λ hi _. gave tt

scaled_short : Gives scaled_at
unfolding scaled_at
scaled_short xs =
    of_bind (anything (limit xs)) λ s _. of_bind (anything (signed 8 s.1)) λ lo _. of_bind (anything (signed 8 lo.1)) λ hi _. gave tt

blob_short : Gives blob_at
unfolding blob_at
blob_short xs = of_bind (anything (unsigned 2 xs)) λ lo _. of_bind (anything (unsigned 2 lo.1)) λ hi _. gave tt

module _ (inner : List ℕ → Option (Datainfo × List ℕ)) (g : Gives inner) where
  array_short : Gives (array_at inner)
  unfolding array_at
  array_short xs =
      of_bind (anything (unsigned 2 xs)) λ lo _. of_bind (anything (unsigned 2 lo.1)) λ hi _. of_bind (g hi.1) λ d h. gave h

  elements_short : (n : ℕ) (xs : List ℕ) → Of (λ p. ShortElements p.0) (elements inner n xs)
  unfolding elements
  elements_short zero xs = gave tt
  elements_short (suc n) xs = of_bind (g xs) λ d h. of_bind (elements_short n d.1) λ ds i. gave (h, i)

  tuple_short : Gives (tuple_at inner)
  unfolding tuple_at
  tuple_short xs = of_bind (anything (unsigned 1 xs)) λ n _. of_bind (elements_short n.0 n.1) λ ds h. gave h

  fields_short : (k n : ℕ) (xs : List ℕ) → Of (λ p. ShortFields p.0.1) (fields inner k n xs)
  unfolding fields joined
  fields_short k zero xs = gave tt
  fields_short k (suc n) xs =
      of_bind (anything (entry k xs)) λ e _. of_bind (g e.1) λ d h. of_bind (fields_short k n d.1) λ m i. gave (h, i)

  struct_short : Gives (struct_at inner)
  unfolding struct_at
  struct_short xs = of_bind (anything (unsigned 1 xs)) λ n _. of_bind (fields_short 8 n.0 n.1) λ m h. gave h

  partial_short : Gives (partial_at inner)
  unfolding partial_at
  partial_short xs = of_bind (anything (unsigned 1 xs)) λ n _. of_bind (fields_short 11 n.0 n.1) λ m h. gave h

  typed_short : (k : ℕ) → Gives (typed inner k)
  unfolding typed
  typed_short k xs =
      of_cond (eqb k 1) (double_short xs)
      (of_cond (eqb k 2) (int_short xs)
      (of_cond (eqb k 3) (gave tt)
      (of_cond (eqb k 4) (enum_short xs)
      (of_cond (eqb k 5) (string_short xs)
      (of_cond (eqb k 6) (array_short xs)
      (of_cond (eqb k 7) (tuple_short xs)
      (of_cond (eqb k 8) (struct_short xs)
      (of_cond (eqb k 9) (scaled_short xs)
      (of_cond (eqb k 10) (blob_short xs)
      (of_cond (eqb k 11) (partial_short xs)
      failed))))))))))

datainfo_short : (n : ℕ) → Gives (datainfo_in n)
unfolding datainfo_in
datainfo_short zero xs = failed
datainfo_short (suc n) xs = of_bind (anything (unsigned 1 xs)) λ k _. typed_short (datainfo_in n) (datainfo_short n) k.0 k.1

-- a datainfo that was read from the table's bytes
pub read_short : (n : ℕ) (bs r : List ℕ) (d : Datainfo) → datainfo_in n bs ≡ Some (d, r) → Short d
read_short n bs r d e = of_some (rw e at (datainfo_short n bs))
