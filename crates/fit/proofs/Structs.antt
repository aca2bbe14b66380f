-- Laws of structs: what holds while the code walks over the fields. Assumes nothing.
use Rattle.std.specs.Prelude.{Option, Some, None, Result, Ok, Err}
use Prim.Native.Nat.{ℕ, ◌+◌, ◌-◌, ◌≤◌, ◌<◌}
use native.Mathlib.Omega.{arith}
use mathlib.Core.Path.{◌≡◌, sym, ap, ◌∙◌}
use mathlib.Core.Bool.{Bool, true, false}
use mathlib.Core.List.{List, []}
use lib.ListN.{drop}
use lib.Dec.{eqb}
use borrow.Author.Tests.{eqb-true}
use Rattle.ascii.specs.Bytes.{head, all, count, same}
use Rattle.ascii.specs.Numbers.{unsigned}
use Rattle.ascii.specs.Clauses.Reader.{ByteAt, Ends, rest}
use Rattle.ascii.specs.Clauses.Read.{ReadsValue}
use Rattle.ascii.proofs.Bytes.{tail_drop}
use Rattle.ascii.proofs.Lists.{both}
use Rattle.json_text.specs.Json.{object, Members, bare, value, object_end}
use Rattle.datainfo.specs.Datainfo.{Datainfo, Fields, no_fields, Parts, field_names}
use Rattle.datainfo.specs.Layout.{entry, joined, fields, datainfo_in}
use Rattle.datainfo.specs.Clauses.Members.{members_at}
use Rattle.datainfo.specs.Clauses.Obeyed.{name_in}
use Rattle.datainfo.proofs.Structs.{fields_none, fields_some, name_read}
use Rattle.fit.specs.Fit.{expect, worse, keys, each_once, value_at, fit, fields_fit}
use Rattle.fit.specs.Fit as Fit
use Rattle.fit.specs.Clauses.Verdict.{meaning, Judges, JudgesStruct, JudgesFields}
use Rattle.fit.specs.Clauses.Walk.{OfBoth, Finds}
use Rattle.fit.proofs.Judged.{worse_fits, fits_worse, worse_worse}
use Rattle.fit.proofs.Shapes.{nothing, just, steps, shape, tells_yes, tells_no, as_object_lem, group_object}
use Rattle.fit.proofs.Objects.{OnceIn, struct_short, struct_first}
use Rattle.fit.specs.declared.Misfit.{Misfit}
use Rattle.fit.specs.declared.Misfit.TheVariants.{WrongType}

-- ## The value of a struct

module _ (s : List ℕ) (at levels k : ℕ) (v : List ℕ) (p depth : ℕ) where
  struct_wrong : ((0 < depth) × (head (drop p v) ≡ 123) → ⊥) → JudgesStruct (members_at (datainfo_in levels) k (drop at s)) (bare depth (drop p v)) (Err WrongType)
  unfolding fit expect
  struct_wrong h = record { is = λ e f. rw (tells_no (as_object_lem (shape depth (drop p v) f)) h) }

  pub struct_shallow : depth ≡ 0 → JudgesStruct (members_at (datainfo_in levels) k (drop at s)) (bare depth (drop p v)) (Err WrongType)
  struct_shallow e = struct_wrong λ h. omega arith

  module _ (b : ℕ) (x : ByteAt v p b) where
    pub struct_other : (b ≡ 123 → ⊥) → JudgesStruct (members_at (datainfo_in levels) k (drop at s)) (bare depth (drop p v)) (Err WrongType)
    struct_other h = struct_wrong λ g. h (x.is ∙ g.1)

    module _ (h : depth ≡ 0 → ⊥) (g : b ≡ 123) (t : Bool)
        (o : OfBoth (members_at (datainfo_in levels) k (drop at s)) (object_end (value (depth - 1)) (drop (p + 1) v)) (λ fs ms. each_once (field_names fs) (keys ms)) t) where
      pub struct_uneven : t ≡ false → JudgesStruct (members_at (datainfo_in levels) k (drop at s)) (bare depth (drop p v)) (Err WrongType)
      unfolding fit expect
      struct_uneven z = record {
        is = λ e f. tells_yes (as_object_lem (shape depth (drop p v) f)) (omega arith, sym x.is ∙ g) λ ms i m.
            group_object (depth - 1) (drop (p + 1) v) (rw tail_drop at m) λ y q. rw (i, ← (o.is e q), z);
      }

      pub struct_even : t ≡ true → (r : Result Unit Misfit) → JudgesFields (members_at (datainfo_in levels) k (drop at s)) (object_end (value (depth - 1)) (drop (p + 1) v)) r
          → JudgesStruct (members_at (datainfo_in levels) k (drop at s)) (bare depth (drop p v)) r
      unfolding fit expect each_once
      struct_even z r j = record {
        is = λ {m = n} e f. tells_yes (as_object_lem (shape depth (drop p v) f)) (omega arith, sym x.is ∙ g) λ ms i m.
            group_object (depth - 1) (drop (p + 1) v) (rw tail_drop at m) λ y q.
            rw (i, ← (o.is e q), z) (j.is e q (both (OnceIn ms n.1) _ (sym (o.is e q) ∙ z)).0);
      }

-- ## Its fields

-- of the members, those from `field` on are left, each once among the keys; the worst verdict on those before is w
pub record ValuesLeft (s : List ℕ) (levels k : ℕ) (fs : Fields) (ms : Members) (w : Fit.Verdict) (field left : ℕ) : Type 0 where
  pub gs : Parts
  pub x : List ℕ
  pub reads : fields (datainfo_in levels) k left (drop field s) ≡ Some (gs, x)
  pub once : all (λ n. eqb (count (same n) (keys ms)) 1) (field_names gs.1) ≡ true
  pub is : fields_fit fs ms ≡ worse w (fields_fit gs.1 ms)

pub record ValuesAt (s : List ℕ) (at levels k : ℕ) (v : List ℕ) (p depth : ℕ) (worst : Result Unit Misfit) (field left : ℕ) : Type 0 where
  pub from : {m : Parts} {x : List ℕ} {ms : Members} {y : List ℕ} → members_at (datainfo_in levels) k (drop at s) ≡ Some (m, x)
      → object_end (value depth) (drop p v) ≡ Some (object ms, y) → all (λ n. eqb (count (same n) (keys ms)) 1) (field_names m.1) ≡ true
      → ValuesLeft s levels k m.1 ms (meaning worst) field left

module _ (s : List ℕ) (at levels k : ℕ) (v : List ℕ) (p depth : ℕ) (u : Option (ℕ × ℕ)) (i : ReadsValue s u (unsigned 1 (drop at s))) where
  pub values_short : u ≡ None → (r : Result Unit Misfit) → JudgesFields (members_at (datainfo_in levels) k (drop at s)) (object_end (value depth) (drop p v)) r
  values_short z r = record { is = λ e f g. struct_short s at levels k u i z e }

  pub values_first : (n j : ℕ) → u ≡ Some (n, j) → ValuesAt s at levels k v p depth (Ok tt) j n
  values_first n j z = record { from = λ e f g. record { gs = _; x = _; reads = struct_first s at levels k u i n j z e; once = g; is = rw worse_fits } }

-- one member more, by a verdict r on its value
values_step : (w r t : Fit.Verdict) (m gs : Parts) (a : Bool × List ℕ) (d : Datainfo) (ms : Members) → m ≡ joined a d gs → r ≡ fit d (value_at a.1 ms) → t ≡ worse w r
    → worse w (fields_fit m.1 ms) ≡ worse t (fields_fit gs.1 ms)
unfolding fields_fit joined
values_step w r t m gs a d ms e f g = rw (e, g, f, worse_worse w (fit d (value_at a.1 ms)) (fields_fit gs.1 ms))

values_end : (w : Fit.Verdict) (m : Parts) (ms : Members) → m ≡ ([], no_fields) → worse w (fields_fit m.1 ms) ≡ w
unfolding fields_fit
values_end w m ms e = rw e (fits_worse w)

once_here : (ms : Members) (m gs : Parts) (a : Bool × List ℕ) (d : Datainfo) → m ≡ joined a d gs → OnceIn ms m.1 ≡ true
    → (count (same a.1) (keys ms) ≡ 1) × (OnceIn ms gs.1 ≡ true)
unfolding all field_names joined
once_here ms m gs a d e h = let z = both (eqb (count (same a.1) (keys ms)) 1) (OnceIn ms gs.1) (rw e at h) in (eqb-true _ 1 z.0, z.1)

module _ (s : List ℕ) (at levels k : ℕ) (v : List ℕ) (p depth : ℕ) (worst : Result Unit Misfit) (field left : ℕ) (c : ValuesAt s at levels k v p depth worst field left) where
  pub values_over : left ≤ 0 → JudgesFields (members_at (datainfo_in levels) k (drop at s)) (object_end (value depth) (drop p v)) worst
  values_over h = record {
    is = λ e f g. let q = c.from e f g in sym (q.is ∙ values_end (meaning worst) q.gs _ (fields_none (datainfo_in levels) k left (drop field s) h q.reads));
  }

  pub values_lost : 0 < left → (t : List ℕ) → t ≡ name_in k (drop field s) → (l : Option ℕ) → Finds depth v p t l → l ≡ None → (r : Result Unit Misfit)
      → JudgesFields (members_at (datainfo_in levels) k (drop at s)) (object_end (value depth) (drop p v)) r
  values_lost h t j l u z r = record {
    is = λ e f g. let q = c.from e f g in fields_some (datainfo_in levels) k left (drop field s) h q.reads λ a y d y' hs i b o w.
        let x = (once_here _ q.gs hs a d w q.once).0 in
        let x' = rw (z, name_read k (drop field s) t j i) at (u.is f) in absurd (omega arith);
  }

  module _ (h : 0 < left) (m : Option ℕ) (n : Ends s m (rest (entry k (drop field s)))) where
    pub values_nameless : m ≡ None → (r : Result Unit Misfit) → JudgesFields (members_at (datainfo_in levels) k (drop at s)) (object_end (value depth) (drop p v)) r
    values_nameless z r = record {
      is = λ e f g. let q = c.from e f g in fields_some (datainfo_in levels) k left (drop field s) h q.reads λ a y d y' hs i b o w.
          absurd (nothing (sym (rw z at n) ∙ ap rest i));
    }

    module _ (t : List ℕ) (j : t ≡ name_in k (drop field s)) (l : Option ℕ) (u : Finds depth v p t l) where
      module _ (i : ℕ) (z : m ≡ Some i) (o : Option ℕ) (x : Ends s o (rest (datainfo_in levels (drop i s)))) where
        pub values_bad : o ≡ None → (r : Result Unit Misfit) → JudgesFields (members_at (datainfo_in levels) k (drop at s)) (object_end (value depth) (drop p v)) r
        values_bad y r = record {
          is = λ e f g. let q = c.from e f g in fields_some (datainfo_in levels) k left (drop field s) h q.reads λ a y' d y'' hs i' b o' w.
              absurd (nothing (sym (rw y at x) ∙ ap rest (rw (just (sym (ap rest i') ∙ (rw z at n).0)) at b)));
        }

        pub values_more : (g e : ℕ) (r w : Result Unit Misfit) → l ≡ Some g → o ≡ Some e → Judges (datainfo_in levels (drop i s)) (bare depth (drop g v)) r → meaning w ≡ worse (meaning worst) (meaning r)
            → ValuesAt s at levels k v p depth w e (left - 1)
        values_more g e' r w y y' q' g' = record {
          from = λ e f once.
              let q = c.from e f once in
              fields_some (datainfo_in levels) k left (drop field s) h q.reads λ a r' d x' hs i' b r'' w'.
              let here = rw (just (sym (ap rest i') ∙ (rw z at n).0)) at b in
              steps (bare depth (drop g v)) _ (rw (y, name_read k (drop field s) t j i') at (u.is f)) λ t' t'' w''. record {
                gs = hs;
                x = q.x;
                reads = rw (just (sym (ap rest here) ∙ (rw y' at x).0)) at r'';
                once = (once_here _ q.gs hs a d w' q.once).1;
                is = q.is ∙ values_step (meaning worst) (meaning r) (meaning w) q.gs hs a d _ w' (q'.is here (t'' ∙ ap (λ j. Some (j, t'.1)) (just w''))) g';
              };
        }
