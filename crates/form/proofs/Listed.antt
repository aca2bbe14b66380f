-- Laws of the code that writes the members of type 11 in table order, and of a whole text. Assumes nothing.
use Rattle.std.specs.Prelude.{Option, Some, None}
use Prim.Native.Nat.{ℕ, ◌+◌, ◌-◌, ◌≤◌, ◌<◌}
use native.Mathlib.Omega.{arith}
use mathlib.Core.Path.{◌≡◌, refl, sym, ap, ◌∙◌}
use mathlib.Core.Bool.{Bool, true, false, false≢true, ◌||◌}
use mathlib.Core.List.{List, [], ◌∷◌, ◌++◌}
use lib.ListN.{length, drop, drop_of_length-le}
use lib.Dec.{eqb}
use borrow.Author.Tests.{ne_eqb}
use Rattle.ascii.specs.Text.{bytes}
use Rattle.ascii.specs.Bytes.{any, same, head}
use Rattle.ascii.specs.Numbers.{unsigned}
use Rattle.ascii.specs.Clauses.Read.{ReadsValue}
use Rattle.ascii.specs.Clauses.Reader.{Left, Ends}
use Rattle.ascii.proofs.Bytes.{tail_drop}
use Rattle.ascii.proofs.Lists.{same_is}
use Rattle.json_text.specs.Json.{Json, null, boolean, Members, no_members, member, skip, bare, value, object_end, quoted, compact, compact_members}
use Rattle.datainfo.specs.Datainfo.{Datainfo, Fields, no_fields, field, Parts, field_names, field_of}
use Rattle.datainfo.specs.Layout.{joined, fields, typed, datainfo_in}
use Rattle.datainfo.specs.Clauses.Obeyed.{name_in}
use Rattle.datainfo.specs.Clauses.Members.{after_field, members_at}
use Rattle.datainfo.proofs.Own.{when_cond, when_double, when_int, when_enum, when_string, when_scaled, when_blob, when_array, when_tuple}
use Rattle.datainfo.proofs.Structs.{struct_members, partial_members, fields_none, fields_some, past_field, name_read}
use Rattle.emit.specs.Clauses.Emitted.{Emits, comma}
use Rattle.emit.proofs.Pieces.{both}
use Rattle.emit.proofs.Pieces.{nothing as nothing_written}
use Rattle.fit.specs.Fit.{fits, expect, as_object, keys, each_once, value_at, fit, fields_fit, within, map_members, numbered, numbered_at, as_partial, ordered, form_of, stored_form}
use Rattle.fit.specs.Clauses.Walk.{Finds}
use Rattle.fit.proofs.Shapes.{nothing, just, steps, shape, as_object_lem, group_object}
use Rattle.fit.proofs.Items.{unspaced}
use Rattle.fit.proofs.Objects.{struct_short, struct_first}
use Rattle.form.specs.Clauses.Formed.{FieldIn, Forms, FormsField, FormsFields, FormsOrdered, FormsText}
use Rattle.form.proofs.Verdicts.{cond_fits}
use Rattle.form.proofs.Trees.{map_value}
use Rattle.form.proofs.Exchange.{at_null}
use Rattle.form.proofs.Ordered.{Among, among_self, once_among}
use Rattle.form.proofs.Stored.{stored_other, stored_part}
use Rattle.form.proofs.Rows.{has}
use Rattle.form.proofs.Members.{listed, listed_first, listed_step, listed_end, object_begins, none_counted, field_fits, numbered_field, members_fit}
use Rattle.form.proofs.Typed.{is_typed, text_value}

-- ## One member, by its name

module _ (o : Option (Parts × List ℕ)) (s : List ℕ) (levels : ℕ) (v : List ℕ) (p depth : ℕ) (name : List ℕ) (r : Option ℕ) (f : FieldIn o s levels name r)
    {before : List ℕ} {at : ℕ} where
  module _ (inner : ℕ) (z : r ≡ Some inner) (q : Option ℕ) (k : Finds depth v (p + 1) name q) where
    pub field_absent : q ≡ None → {after : List ℕ} {end : ℕ} → FormsField o (object_end (value depth) (drop (p + 1) v)) name before at after end
    field_absent w = record { is = λ {ms = ms} e g h i l. absurd (false≢true (sym (none_counted name (keys ms) (rw w at (k.is g))) ∙ h)) }

    pub field_put : (x : ℕ) → q ≡ Some x → (out1 : List ℕ) (a1 : ℕ) → Emits before at (quoted name ++ bytes ":") out1 a1 → (after : List ℕ) (end : ℕ)
        → Forms (datainfo_in levels (drop inner s)) (bare depth (drop x v)) out1 a1 after end
        → FormsField o (object_end (value depth) (drop (p + 1) v)) name before at after end
    field_put x w out1 a1 y after end n = record {
      is = λ {ms = ms} {d = d} e g h i l.
          let c = (rw z at f).is e d i in
          steps (bare depth (drop x v)) _ (rw w at (k.is g)) λ t a b. both y (n.is c.1 (a ∙ ap (λ j. Some (j, t.1)) (just b)) l);
    }

-- ## All members, in table order

-- a name of the table is a key
pub among_any : (fs : Fields) (ks : List (List ℕ)) (k : List ℕ) → Among fs ks → any (same k) (field_names fs) ≡ true → any (same k) ks ≡ true
unfolding any field_names
among_any no_fields ks k h e = absurd (false≢true e)
among_any (field j d fs) ks k h e = go (same k j) refl e (among_any fs ks k h.1)
  where
    go : (b : Bool) → same k j ≡ b → (b || any (same k) (field_names fs)) ≡ true → (any (same k) (field_names fs) ≡ true → any (same k) ks ≡ true)
        → any (same k) ks ≡ true
    go true q e f = rw (same_is k j q) h.0
    go false q e f = f e

-- what is stored of members, before they are put in order
abbrev pub exchanged : Fields → Members → Members
exchanged fs ms = map_members (λ k w. numbered_at k fs w) ms

-- of a struct's members those from `place` on are left, and those before are written
pub record TableLeft (s : List ℕ) (levels : ℕ) (fs : Fields) (ms : Members) (place left : ℕ) (start : Bool) (before : List ℕ) (at : ℕ) (out : List ℕ) (a : ℕ) : Type 0 where
  pub gs : Parts
  pub x : List ℕ
  pub reads : fields (datainfo_in levels) 11 left (drop place s) ≡ Some (gs, x)
  pub among : Among gs.1 (field_names fs)
  pub done : List ℕ
  pub wrote : Emits before at done out a
  pub whole : compact_members (ordered fs (exchanged fs ms)) ≡ done ++ listed start (ordered gs.1 (exchanged fs ms))

pub record TableAt (s : List ℕ) (i levels : ℕ) (q : Option (Json × List ℕ)) (place left : ℕ) (start : Bool) (before : List ℕ) (at : ℕ) (out : List ℕ) (a : ℕ) : Type 0 where
  pub from : {m : Parts} {x : List ℕ} {ms : Members} {y : List ℕ} → members_at (datainfo_in levels) 11 (drop i s) ≡ Some (m, x) → q ≡ Some (Json.object ms, y)
      → each_once (field_names m.1) (keys ms) ≡ true → fields_fit m.1 ms ≡ fits → TableLeft s levels m.1 ms place left start before at out a

module _ (s : List ℕ) (i levels : ℕ) (q : Option (Json × List ℕ)) (u : Option (ℕ × ℕ)) (k : ReadsValue s u (unsigned 1 (drop i s))) where
  pub table_short : u ≡ None → {before after : List ℕ} {at end : ℕ} → FormsFields (members_at (datainfo_in levels) 11 (drop i s)) q before at after end
  table_short z = record { is = λ e f g h. struct_short s i levels 11 u k z e }

  pub table_first : (n j : ℕ) → u ≡ Some (n, j) → (out : List ℕ) (at : ℕ) → at ≤ 18446744073709551615 → (left : ℕ) → left ≡ n → TableAt s i levels q j left true out at out at
  table_first n j z out at w left all = rw all (record {
    from = λ {m = m} {ms = ms} e f g h. record {
      gs = m;
      x = _;
      reads = struct_first s i levels 11 u k n j z e;
      among = among_self m.1;
      done = [];
      wrote = nothing_written out at w;
      whole = sym (listed_first (ordered m.1 (exchanged m.1 ms)));
    };
  })

-- the first of the members that are left
first_of : (gs hs : Parts) (a : Bool × List ℕ) (d : Datainfo) (ks : List (List ℕ)) (ms : Members) → gs ≡ joined a d hs → Among gs.1 ks
    → (any (same a.1) ks ≡ true) × (Among hs.1 ks) × (ordered gs.1 ms ≡ member a.1 (value_at a.1 ms) (ordered hs.1 ms))
unfolding joined ordered
first_of gs hs a d ks ms w h = let z = rw w at h in (z.0, z.1, rw w)

pub stored_at : (fs : Fields) (ms : Members) (k : List ℕ) (d : Datainfo) → field_of k fs ≡ Some d → value_at k (exchanged fs ms) ≡ numbered d (value_at k ms)
stored_at fs ms k d e = map_value (λ k w. numbered_at k fs w) (λ k. at_null fs k) k ms ∙ numbered_field fs k (value_at k ms) d e

none_of : (gs : Parts) (ms : Members) → gs ≡ ([], no_fields) → ordered gs.1 ms ≡ no_members
unfolding ordered
none_of gs ms e = rw e

module _ (s : List ℕ) (i levels : ℕ) (q : Option (Json × List ℕ)) (place left : ℕ) (start : Bool) (before : List ℕ) (at : ℕ) (out : List ℕ) (a : ℕ)
    (c : TableAt s i levels q place left start before at out a) where
  pub table_over : left ≤ 0 → FormsFields (members_at (datainfo_in levels) 11 (drop i s)) q before at out a
  table_over h = record {
    is = λ {m = m} {ms = ms} e f g w.
        let t = c.from e f g w in
        let z = none_of t.gs (exchanged m.1 ms) (fields_none (datainfo_in levels) 11 left (drop place s) h t.reads) in
        rw (t.whole, listed_end t.done start (ordered t.gs.1 (exchanged m.1 ms)) z) t.wrote;
  }

  module _ (h : 0 < left) (r : Option ℕ) (l : Ends s r (after_field (datainfo_in levels) 11 (drop place s))) where
    pub table_bad : r ≡ None → {after : List ℕ} {end : ℕ} → FormsFields (members_at (datainfo_in levels) 11 (drop i s)) q before at after end
    table_bad z = record {
      is = λ e f g w. let t = c.from e f g w in fields_some (datainfo_in levels) 11 left (drop place s) h t.reads λ b y d y' hs n j o w'.
          absurd (nothing (sym (rw z at l) ∙ past_field (datainfo_in levels) 11 (drop place s) n j));
    }

    pub table_more : (e : ℕ) → r ≡ Some e → (out1 : List ℕ) (a1 : ℕ) → Emits out a (comma start) out1 a1 → (name : List ℕ) → name ≡ name_in 11 (drop place s)
        → (out2 : List ℕ) (a2 : ℕ) → FormsField (members_at (datainfo_in levels) 11 (drop i s)) q name out1 a1 out2 a2
        → (later : ℕ) → later ≡ left - 1 → (again : Bool) → again ≡ false
        → TableAt s i levels q e later again before at out2 a2
    table_more e z out1 a1 x name y out2 a2 w later last again z0 = rw (last, z0) (record {
      from = λ {m = m} {ms = ms} e' f g fit.
          let t = c.from e' f g fit in
          fields_some (datainfo_in levels) 11 left (drop place s) h t.reads λ b y' d y'' hs n j o w'.
          let k : name ≡ b.1 = name_read 11 (drop place s) name y n in
          let one = rw k at w in
          let v = first_of t.gs hs b d (field_names m.1) (exchanged m.1 ms) w' t.among in
          let p = field_fits m.1 ms b.1 v.0 fit in
          let there = among_any m.1 (keys ms) b.1 (once_among m.1 (keys ms) g) v.0 in
          record {
            gs = hs;
            x = t.x;
            reads = rw (just (sym (past_field (datainfo_in levels) 11 (drop place s) n j) ∙ (rw z at l).0)) at o;
            among = v.1;
            done = t.done ++ comma start ++ (quoted b.1 ++ bytes ":" ++ compact (numbered p.d (value_at b.1 ms)));
            wrote = both (both t.wrote x) (one.is e' f there p.found p.fit);
            whole = t.whole ∙ rw (v.2, stored_at m.1 ms b.1 p.d p.found)
                (listed_step t.done start b.1 (numbered p.d (value_at b.1 ms)) (ordered hs.1 (exchanged m.1 ms)));
          };
    })

-- ## A value at the top level

module _ (s : List ℕ) (i : ℕ) (v : List ℕ) (p : ℕ) {before after : List ℕ} {at end : ℕ} where
  pub ordered_past : length v ≤ p → FormsOrdered (members_at (datainfo_in 3) 11 (drop i s)) (bare 8 (drop p v)) before at after end
  unfolding head as_object
  ordered_past e = record {
    is = λ {ms = ms} a f g. has {a = ms} (as_object_lem (shape 8 (drop p v) f)) refl λ w r.
        absurd (let z = w.1 in let n : ◌≡◌ {A = ℕ} 0 123 = rw (drop_of_length-le v e) at z in omega arith);
  }

  pub ordered_whole : (out1 : List ℕ) (a1 : ℕ) → Emits before at (123 ∷ []) out1 a1 → (out2 : List ℕ) (a2 : ℕ)
      → FormsFields (members_at (datainfo_in 3) 11 (drop i s)) (object_end (value 7) (drop (p + 1) v)) out1 a1 out2 a2 → Emits out2 a2 (125 ∷ []) after end
      → FormsOrdered (members_at (datainfo_in 3) 11 (drop i s)) (bare 8 (drop p v)) before at after end
  unfolding fit expect as_object compact bytes
  ordered_whole out1 a1 w out2 a2 x y = record {
    is = λ {m = m} {ms = ms} e f g. has {a = ms} (as_object_lem (shape 8 (drop p v) f)) refl λ u row. group_object 7 (drop (p + 1) v) (rw tail_drop at row) λ y' b.
        let n = cond_fits (each_once (field_names m.1) (keys ms)) (fields_fit m.1 ms) g in
        both (both w (x.is e b n.0 n.1)) y;
  }

-- ## A whole text

-- a value that is an object
pub object_is : (j : Json) (ms : Members) → as_object j ≡ Some ms → j ≡ Json.object ms
unfolding as_object
object_is null ms e = absurd (nothing e)
object_is (boolean b) ms e = absurd (nothing e)
object_is (Json.number t) ms e = absurd (nothing e)
object_is (Json.string t) ms e = absurd (nothing e)
object_is (Json.array is) ms e = absurd (nothing e)
object_is (Json.object ks) ms e = ap Json.object (just e)

by_one : (a : Datainfo) (x : List ℕ) (d : Datainfo) (y : List ℕ) → ◌≡◌ {A = Option (Datainfo × List ℕ)} (Some (a, x)) (Some (d, y)) → as_partial a ≡ None
    → as_partial d ≡ None
by_one a x d y e h = let z : a ≡ d = ap (λ (p : Datainfo × List ℕ). p.0) (just e) in rw (← z) h

-- no other type byte is read as type 11
pub other_type : (f : List ℕ → Option (Datainfo × List ℕ)) (k : ℕ) (xs : List ℕ) → eqb k 11 ≡ false → (d : Datainfo) (x : List ℕ) → typed f k xs ≡ Some (d, x) → as_partial d ≡ None
unfolding typed as_partial
other_type f k xs h = rw h
    (when_cond P (eqb k 1) _ _ (when_double P z (λ lo hi x d y e. by_one (Datainfo.double lo hi) x d y e refl) xs)
    (when_cond P (eqb k 2) _ _ (when_int P z (λ lo hi x d y e. by_one (Datainfo.int lo hi) x d y e refl) xs)
    (when_cond P (eqb k 3) _ _ (λ d y e. by_one Datainfo.bool xs d y e refl)
    (when_cond P (eqb k 4) _ _ (when_enum P z (λ vs x d y e. by_one (Datainfo.enum vs) x d y e refl) xs)
    (when_cond P (eqb k 5) _ _ (when_string P z (λ lo hi x d y e. by_one (Datainfo.string lo hi) x d y e refl) xs)
    (when_cond P (eqb k 6) _ _ (when_array P z f (λ lo hi c x d y e. by_one (Datainfo.array lo hi c) x d y e refl) xs)
    (when_cond P (eqb k 7) _ _ (when_tuple P z f (λ ds x d y e. by_one (Datainfo.tuple ds) x d y e refl) xs)
    (when_cond P (eqb k 8) _ _ (λ d y e. struct_members f xs e λ m a o. rw o)
    (when_cond P (eqb k 9) _ _ (when_scaled P z (λ s lo hi x d y e. by_one (Datainfo.scaled s lo hi) x d y e refl) xs)
    (when_cond P (eqb k 10) _ _ (when_blob P z (λ lo hi x d y e. by_one (Datainfo.blob lo hi) x d y e refl) xs)
    z))))))))))
  where
    P : Option (Datainfo × List ℕ) → Type 0
    P o = (d : Datainfo) (x : List ℕ) → o ≡ Some (d, x) → as_partial d ≡ None

    z : P None
    z d x e = absurd (nothing e)

module _ (s : List ℕ) (i : ℕ) (v : List ℕ) (p : ℕ) (l : Left v p (skip (drop 0 v))) (u : Option (ℕ × ℕ)) (k : ReadsValue s u (unsigned 1 (drop i s))) where
  pub text_short : u ≡ None → {before after : List ℕ} {at end : ℕ} → FormsText (datainfo_in 4 (drop i s)) v before at after end
  unfolding datainfo_in
  text_short z = record { is = λ e q f. absurd (nothing (sym (let n : datainfo_in 4 (drop i s) ≡ None = simp (rw z at k) in n) ∙ e)) }

  module _ (b inner : ℕ) (e : u ≡ Some (b, inner)) where
    typed_there : datainfo_in 4 (drop i s) ≡ typed (datainfo_in 3) b (drop inner s)
    typed_there = is_typed s i 4 (omega arith) u k b inner e

    pub text_ordered : b ≡ 11 → {before after : List ℕ} {at end : ℕ} → FormsOrdered (members_at (datainfo_in 3) 11 (drop inner s)) (bare 8 (drop p v)) before at after end
        → FormsText (datainfo_in 4 (drop i s)) v before at after end
    unfolding typed fit stored_form form_of within as_object
    text_ordered z h = record {
      is = λ {j = j} g q f. partial_members (datainfo_in 3) (drop inner s) (rw z at (sym typed_there ∙ g)) λ m a o.
          text_value v q λ y n. unspaced 8 v n λ y' n'.
          object_begins j (members_fit m.1) (rw o at f) λ ms t w.
          let j-is = object_is j ms t in
          rw (q, o, stored_part m.0 m.1 j, j-is) (h.is a (rw (l.is, j-is) at n') (rw (o, j-is) at f));
    }

    pub text_other : (b ≡ 11 → ⊥) → {before after : List ℕ} {at end : ℕ} → Forms (datainfo_in 4 (drop i s)) (bare 8 (drop p v)) before at after end → FormsText (datainfo_in 4 (drop i s)) v before at after end
    unfolding stored_form form_of
    text_other z h = record {
      is = λ {d = d} {x = x} {j = j} g q f.
          let n = other_type (datainfo_in 3) b (drop inner s) (ne_eqb b 11 z) d x (sym typed_there ∙ g) in
          rw (q, stored_other d j n) (text_value v q λ y a. unspaced 8 v a λ y' b'. h.is g (rw l.is at b') f);
    }
