-- A datainfo that is read from the table's bytes has no more levels than it is read with. Assumes nothing.
use Rattle.std.specs.Prelude.{Option, Some}
use Prim.Native.Nat.{ℕ, zero, suc}
use mathlib.Core.List.{List}
use mathlib.Core.Path.{◌≡◌}
use lib.Dec.{eqb}
use Rattle.ascii.specs.Numbers.{unsigned, signed}
use Rattle.json_text.proofs.ReadAgain.{Of, failed, gave, of_cond, of_bind, of_some}
use Rattle.datainfo.specs.Datainfo.{Datainfo, double, int, bool, enum, string, array, tuple, struct, scaled, blob, partial, Elements, no_elements, element}
use Rattle.datainfo.specs.Datainfo.{Fields, no_fields, field}
use Rattle.datainfo.specs.Layout.{limit, double_at, int_at, variants, enum_at, string_at, array_at, elements, entry, joined, tuple_at, fields, struct_at}
use Rattle.datainfo.specs.Layout.{partial_at, scaled_at, blob_at, typed, datainfo_in}
use Rattle.form.proofs.Short.{anything}

-- what stands inside a datainfo
module _ (P : Datainfo → Type 0) where
  abbrev pub EachElement : Elements → Type 0
  EachElement no_elements = Unit {0}
  EachElement (element d ds) = P d × EachElement ds

  abbrev pub EachField : Fields → Type 0
  EachField no_fields = Unit {0}
  EachField (field k d fs) = P d × EachField fs

  abbrev pub Inside : Datainfo → Type 0
  Inside (double lo hi) = Unit {0}
  Inside (int lo hi) = Unit {0}
  Inside bool = Unit {0}
  Inside (enum vs) = Unit {0}
  Inside (string lo hi) = Unit {0}
  Inside (array lo hi d) = P d
  Inside (tuple ds) = EachElement ds
  Inside (struct fs) = EachField fs
  Inside (scaled s lo hi) = Unit {0}
  Inside (blob lo hi) = Unit {0}
  Inside (partial ns fs) = EachField fs

-- at most n levels: "a plain type is one"
abbrev pub Deep : ℕ → Datainfo → Type 0
Deep zero d = ⊥
Deep (suc n) d = Inside (Deep n) d

abbrev Gives : ℕ → (List ℕ → Option (Datainfo × List ℕ)) → Type 0
Gives n f = (xs : List ℕ) → Of (λ p. Deep n p.0) (f xs)

module _ (n : ℕ) where
  double_deep : Gives (suc n) double_at
  unfolding double_at
  double_deep xs = of_bind (anything (limit xs)) λ lo _. of_bind (anything (limit lo.1)) λ hi _. gave tt

  int_deep : Gives (suc n) int_at
  unfolding int_at
  int_deep xs = of_bind (anything (signed 8 xs)) λ lo _. of_bind (anything (signed 8 lo.1)) λ hi _. gave tt

  enum_deep : Gives (suc n) enum_at
  unfolding enum_at
  enum_deep xs = of_bind (anything (unsigned 1 xs)) λ k _. of_bind (anything (variants k.0 k.1)) λ vs _. gave tt

  string_deep : Gives (suc n) string_at
  unfolding string_at
  string_deep xs = of_bind (anything (unsigned 2 xs)) λ lo _. of_bind (anything (unsigned 2 lo.1)) λ hi _. gave tt

  scaled_deep : Gives (suc n) scaled_at
  unfolding scaled_at
  scaled_deep xs =
      of_bind (anything (limit xs)) λ s _. of_bind (anything (signed 8 s.1)) λ lo _. of_bind (anything (signed 8 lo.1)) λ hi _. gave tt

  blob_deep : Gives (suc n) blob_at
  unfolding blob_at
  blob_deep xs = of_bind (anything (unsigned 2 xs)) λ lo _. of_bind (anything (unsigned 2 lo.1)) λ hi _. gave tt

module _ (n : ℕ) (inner : List ℕ → Option (Datainfo × List ℕ)) (g : Gives n inner) where
  array_deep : Gives (suc n) (array_at inner)
  unfolding array_at
  array_deep xs =
      of_bind (anything (unsigned 2 xs)) λ lo _. of_bind (anything (unsigned 2 lo.1)) λ hi _. of_bind (g hi.1) λ d h. gave h

  elements_deep : (k : ℕ) (xs : List ℕ) → Of (λ p. EachElement (Deep n) p.0) (elements inner k xs)
  unfolding elements
  elements_deep zero xs = gave tt
  elements_deep (suc k) xs = of_bind (g xs) λ d h. of_bind (elements_deep k d.1) λ ds i. gave (h, i)

  tuple_deep : Gives (suc n) (tuple_at inner)
  unfolding tuple_at
  tuple_deep xs = of_bind (anything (unsigned 1 xs)) λ k _. of_bind (elements_deep k.0 k.1) λ ds h. gave h

  fields_deep : (k m : ℕ) (xs : List ℕ) → Of (λ p. EachField (Deep n) p.0.1) (fields inner k m xs)
  unfolding fields joined
  fields_deep k zero xs = gave tt
  fields_deep k (suc m) xs =
      of_bind (anything (entry k xs)) λ e _. of_bind (g e.1) λ d h. of_bind (fields_deep k m d.1) λ fs i. gave (h, i)

  struct_deep : Gives (suc n) (struct_at inner)
  unfolding struct_at
  struct_deep xs = of_bind (anything (unsigned 1 xs)) λ k _. of_bind (fields_deep 8 k.0 k.1) λ m h. gave h

  partial_deep : Gives (suc n) (partial_at inner)
  unfolding partial_at
  partial_deep xs = of_bind (anything (unsigned 1 xs)) λ k _. of_bind (fields_deep 11 k.0 k.1) λ m h. gave h

  typed_deep : (k : ℕ) → Gives (suc n) (typed inner k)
  unfolding typed
  typed_deep k xs =
      of_cond (eqb k 1) (double_deep n xs)
      (of_cond (eqb k 2) (int_deep n xs)
      (of_cond (eqb k 3) (gave tt)
      (of_cond (eqb k 4) (enum_deep n xs)
      (of_cond (eqb k 5) (string_deep n xs)
      (of_cond (eqb k 6) (array_deep xs)
      (of_cond (eqb k 7) (tuple_deep xs)
      (of_cond (eqb k 8) (struct_deep xs)
      (of_cond (eqb k 9) (scaled_deep n xs)
      (of_cond (eqb k 10) (blob_deep n xs)
      (of_cond (eqb k 11) (partial_deep xs)
      failed))))))))))

datainfo_deep : (n : ℕ) → Gives n (datainfo_in n)
unfolding datainfo_in
datainfo_deep zero xs = failed
datainfo_deep (suc n) xs = of_bind (anything (unsigned 1 xs)) λ k _. typed_deep n (datainfo_in n) (datainfo_deep n) k.0 k.1

pub read_deep : (n : ℕ) (bs r : List ℕ) (d : Datainfo) → datainfo_in n bs ≡ Some (d, r) → Deep n d
read_deep n bs r d e = of_some (rw e at (datainfo_deep n bs))
