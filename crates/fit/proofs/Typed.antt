-- Laws of a datainfo by its type byte, one for each way through the function that judges a value by it. Assumes nothing.
use Rattle.std.specs.Prelude.{Option, Some, None, Result}
use Prim.Native.Nat.{ℕ, zero, suc, ◌-◌}
use native.Mathlib.Numerals.{sub-one}
use mathlib.Core.Path.{◌≡◌, refl}
use mathlib.Core.Bool.{Bool, true, false}
use mathlib.Core.List.{List}
use lib.ListN.{drop}
use lib.Dec.{eqb}
use borrow.Author.Tests.{eqb-true, ne_eqb}
use Rattle.ascii.specs.Numbers.{unsigned}
use Rattle.ascii.specs.Clauses.Read.{ReadsValue}
use Rattle.json_text.specs.Json.{Json}
use Rattle.datainfo.specs.Datainfo.{Datainfo}
use Rattle.datainfo.specs.Layout.{array_at, tuple_at, typed, datainfo_in}
use Rattle.datainfo.specs.Clauses.Members.{members_at}
use Rattle.datainfo.proofs.Structs.{struct_members, partial_members}
use Rattle.fit.specs.Fit.{fit}
use Rattle.fit.specs.Clauses.Verdict.{Judges, JudgesStruct, numeric, plain}
use Rattle.fit.proofs.Judged.{judges_none, judges_like}
use Rattle.fit.specs.declared.Misfit.{Misfit}

-- a type that holds no datainfos
module _ (f : List ℕ → Option (Datainfo × List ℕ)) (k : ℕ) (xs : List ℕ) (n6 : k ≡ 6 → ⊥) (n7 : k ≡ 7 → ⊥) (n8 : k ≡ 8 → ⊥) (n11 : k ≡ 11 → ⊥) where
  typed_plain : typed f k xs ≡ plain k xs
  unfolding typed plain numeric
  typed_plain = one (eqb k 1) refl
    where
      ten : (b : Bool) → eqb k 10 ≡ b → eqb k 1 ≡ false → eqb k 2 ≡ false → eqb k 3 ≡ false → eqb k 4 ≡ false → eqb k 5 ≡ false → eqb k 9 ≡ false → typed f k xs ≡ plain k xs
      ten true h a b c d e g = rw (eqb-true k 10 h)
      ten false h a b c d e g = rw (a, b, c, d, e, g, h, ne_eqb k 6 n6, ne_eqb k 7 n7, ne_eqb k 8 n8, ne_eqb k 11 n11)

      nine : (b : Bool) → eqb k 9 ≡ b → eqb k 1 ≡ false → eqb k 2 ≡ false → eqb k 3 ≡ false → eqb k 4 ≡ false → eqb k 5 ≡ false → typed f k xs ≡ plain k xs
      nine true h a b c d e = rw (eqb-true k 9 h)
      nine false h a b c d e = ten (eqb k 10) refl a b c d e h

      five : (b : Bool) → eqb k 5 ≡ b → eqb k 1 ≡ false → eqb k 2 ≡ false → eqb k 3 ≡ false → eqb k 4 ≡ false → typed f k xs ≡ plain k xs
      five true h a b c d = rw (eqb-true k 5 h)
      five false h a b c d = nine (eqb k 9) refl a b c d h

      four : (b : Bool) → eqb k 4 ≡ b → eqb k 1 ≡ false → eqb k 2 ≡ false → eqb k 3 ≡ false → typed f k xs ≡ plain k xs
      four true h a b c = rw (eqb-true k 4 h)
      four false h a b c = five (eqb k 5) refl a b c h

      three : (b : Bool) → eqb k 3 ≡ b → eqb k 1 ≡ false → eqb k 2 ≡ false → typed f k xs ≡ plain k xs
      three true h a b = rw (eqb-true k 3 h)
      three false h a b = four (eqb k 4) refl a b h

      two : (b : Bool) → eqb k 2 ≡ b → eqb k 1 ≡ false → typed f k xs ≡ plain k xs
      two true h a = rw (eqb-true k 2 h)
      two false h a = three (eqb k 3) refl a h

      one : (b : Bool) → eqb k 1 ≡ b → typed f k xs ≡ plain k xs
      one true h = rw (eqb-true k 1 h)
      one false h = two (eqb k 2) refl h

module _ (s : List ℕ) (at levels : ℕ) (q : Option (Json × List ℕ)) (r : Result Unit Misfit) where
  pub fit_fifth : levels ≡ 0 → Judges (datainfo_in levels (drop at s)) q r
  unfolding datainfo_in
  fit_fifth e = judges_none (rw e)

  module _ (n : levels ≡ 0 → ⊥) (u : Option (ℕ × ℕ)) (k : ReadsValue s u (unsigned 1 (drop at s))) where
    pub fit_short : u ≡ None → Judges (datainfo_in levels (drop at s)) q r
    unfolding datainfo_in
    fit_short e = judges_none (go levels n)
      where
        go : (l : ℕ) → (l ≡ 0 → ⊥) → datainfo_in l (drop at s) ≡ None
        go zero z = absurd (z refl)
        go (suc l) z = simp (rw e at k)

    module _ (b i : ℕ) (e : u ≡ Some (b, i)) where
      is_typed : datainfo_in levels (drop at s) ≡ typed (datainfo_in (levels - 1)) b (drop i s)
      unfolding datainfo_in
      is_typed = go levels n
        where
          go : (l : ℕ) → (l ≡ 0 → ⊥) → datainfo_in l (drop at s) ≡ typed (datainfo_in (l - 1)) b (drop i s)
          go zero z = absurd (z refl)
          go (suc l) z = rw (sub-one (suc l)) (simp (rw e at k).0)

      pub fit_array : b ≡ 6 → Judges (array_at (datainfo_in (levels - 1)) (drop i s)) q r → Judges (datainfo_in levels (drop at s)) q r
      unfolding typed
      fit_array z h = judges_like is_typed (rw z h)

      pub fit_tuple : b ≡ 7 → Judges (tuple_at (datainfo_in (levels - 1)) (drop i s)) q r → Judges (datainfo_in levels (drop at s)) q r
      unfolding typed
      fit_tuple z h = judges_like is_typed (rw z h)

      pub fit_struct : b ≡ 8 → JudgesStruct (members_at (datainfo_in (levels - 1)) 8 (drop i s)) q r → Judges (datainfo_in levels (drop at s)) q r
      unfolding typed
      fit_struct z h = judges_like is_typed (rw z (record { is = λ e f. struct_members (datainfo_in (levels - 1)) (drop i s) e λ m a o. rw o (h.is a f) }))

      -- with all there, type 11 is as type 8
      pub fit_partial : b ≡ 11 → JudgesStruct (members_at (datainfo_in (levels - 1)) 11 (drop i s)) q r → Judges (datainfo_in levels (drop at s)) q r
      unfolding typed fit
      fit_partial z h = judges_like is_typed (rw z (record { is = λ e f. partial_members (datainfo_in (levels - 1)) (drop i s) e λ m a o. rw o (h.is a f) }))

      pub fit_plain : (b ≡ 6 → ⊥) → (b ≡ 7 → ⊥) → (b ≡ 8 → ⊥) → (b ≡ 11 → ⊥) → Judges (plain b (drop i s)) q r → Judges (datainfo_in levels (drop at s)) q r
      fit_plain n6 n7 n8 n11 h = judges_like is_typed (rw (typed_plain (datainfo_in (levels - 1)) b (drop i s) n6 n7 n8 n11) h)
