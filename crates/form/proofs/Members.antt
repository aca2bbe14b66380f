-- Laws of the code that writes the members of an object, one for each way through a function. Assumes nothing.
use Rattle.std.specs.Prelude.{Option, Some, None}
use Prim.Native.Nat.{ℕ, ◌+◌, ◌-◌, ◌≤◌, ◌<◌}
use native.Mathlib.Nat.{zero-add}
use native.Mathlib.Omega.{arith}
use mathlib.Core.Logic.{◌⊎◌, inl, inr}
use mathlib.Core.Path.{◌≡◌, refl, sym, ap, ap₂, ◌∙◌}
use mathlib.Core.Bool.{Bool, true, false, cond, ◌&&◌, ◌||◌}
use mathlib.Core.List.{List, [], ◌∷◌, ◌++◌, append_assoc, append-nil}
use lib.Dec.{eqb}
use lib.ListN.{length, drop, drop_of_length-le}
use borrow.Author.Tests.{eqb-true}
use Rattle.ascii.specs.Text.{bytes}
use Rattle.ascii.specs.Bytes.{all, any, count, same, head}
use Rattle.ascii.specs.Clauses.Reader.{Ends}
use Rattle.ascii.proofs.Bytes.{tail_drop}
use Rattle.ascii.proofs.Lists.{neither, same_self, same_is, same_other}
use Rattle.ascii.proofs.Lists as Lists
use Rattle.json_text.specs.Json.{Json, null, boolean, Members, no_members, member, skip, key, object_end, bare, value, quoted, compact, compact_members, more_members}
use Rattle.datainfo.specs.Datainfo.{Datainfo, Fields, no_fields, field, Parts, field_names, field_of}
use Rattle.datainfo.specs.Layout.{datainfo_in}
use Rattle.datainfo.specs.Clauses.Members.{members_at}
use Rattle.emit.specs.Clauses.Emitted.{Emits, comma}
use Rattle.emit.proofs.Pieces.{both}
use Rattle.emit.proofs.Pieces.{nothing as nothing_written}
use Rattle.fit.specs.Fit.{Verdict, fits, wrongType, expect, as_object, keys, each_once, value_at, fit, fields_fit, within, map_members, numbered, numbered_at}
use Rattle.fit.specs.Clauses.Walk.{first, after_member, member_value, Reads}
use Rattle.fit.proofs.Shapes.{nothing, just, shape, as_object_lem, object_group, group_object}
use Rattle.fit.proofs.Items.{MembersAt, members_first, members_next, members_none, members_over, ends_some, unspaced}
use Rattle.form.specs.Clauses.Formed.{FieldIn, Forms, FormsMember, FormsMembers, FormsStruct}
use Rattle.form.proofs.Verdicts.{worse_both, cond_fits}
use Rattle.form.proofs.Rows.{has}

-- ## Members with a comma before the first or not

unfoldable pub listed : Bool → Members → List ℕ
listed first no_members = []
listed first (member k v ms) = comma first ++ (quoted k ++ bytes ":" ++ compact v) ++ more_members ms

pub listed_first : (ms : Members) → listed true ms ≡ compact_members ms
unfolding listed comma compact_members
listed_first no_members = refl
listed_first (member k v ms) = refl

listed_more : (ms : Members) → listed false ms ≡ more_members ms
unfolding listed comma more_members bytes
listed_more no_members = refl
listed_more (member k v ms) = refl

pub listed_step : (done : List ℕ) (start : Bool) (k : List ℕ) (v : Json) (ms : Members)
    → done ++ listed start (member k v ms) ≡ (done ++ comma start ++ (quoted k ++ bytes ":" ++ compact v)) ++ listed false ms
unfolding listed
listed_step done start k v ms = rw (listed_more ms) (simp append_assoc)

pub listed_end : (done : List ℕ) (start : Bool) (ms : Members) → ms ≡ no_members → done ++ listed start ms ≡ done
unfolding listed
listed_end done start ms e = rw (e, append-nil)

pub object_begins : (j : Json) (f : Members → Verdict) → expect (as_object j) f ≡ fits → {S : Type 0} → ((ms : Members) → as_object j ≡ Some ms → f ms ≡ fits → S) → S
unfolding expect as_object
object_begins null f e g = let n : ◌≡◌ {A = ℕ} 0 1 = cc in absurd (omega arith)
object_begins (boolean b) f e g = let n : ◌≡◌ {A = ℕ} 0 1 = cc in absurd (omega arith)
object_begins (Json.number t) f e g = let n : ◌≡◌ {A = ℕ} 0 1 = cc in absurd (omega arith)
object_begins (Json.string s) f e g = let n : ◌≡◌ {A = ℕ} 0 1 = cc in absurd (omega arith)
object_begins (Json.array is) f e g = let n : ◌≡◌ {A = ℕ} 0 1 = cc in absurd (omega arith)
object_begins (Json.object ms) f e g = g ms refl e

-- ## Each member fits the field of its name

-- a value for the first field of a name
pub record FitsField (fs : Fields) (k : List ℕ) (v : Json) : Type 0 where
  pub d : Datainfo
  pub found : field_of k fs ≡ Some d
  pub fit : fit d v ≡ fits

abbrev pub EachFits : Fields → Members → Type 0
EachFits fs no_members = Unit {0}
EachFits fs (member k v ms) = FitsField fs k v × EachFits fs ms

-- each member's value is the one at its key
abbrev Own : Members → Members → Type 0
Own ms no_members = Unit {0}
Own ms (member k v js) = (value_at k ms ≡ v) × Own ms js

-- none is counted
pub none_counted : (k : List ℕ) (ks : List (List ℕ)) → count (same k) ks ≡ 0 → any (same k) ks ≡ false
unfolding count any
none_counted k [] e = refl
none_counted k (j ∷ ks) e = go (same k j) e (none_counted k ks)
  where
    go : (b : Bool) → cond b 1 0 + count (same k) ks ≡ 0 → (count (same k) ks ≡ 0 → any (same k) ks ≡ false) → (b || any (same k) ks) ≡ false
    go true e h = absurd (omega arith)
    go false e h = h (rw zero-add at e)

pub once_alone : (k : List ℕ) (ks : List (List ℕ)) → eqb (count (same k) (k ∷ ks)) 1 ≡ true → any (same k) ks ≡ false
unfolding count
once_alone k ks e = none_counted k ks (let z = eqb-true (count (same k) (k ∷ ks)) 1 e in let w : 1 + count (same k) ks ≡ 1 = rw (same_self k) at z in omega arith)

-- the others are counted as before
pub count_less : (k : List ℕ) (ks js : List (List ℕ)) → any (same k) js ≡ false → all (λ n. eqb (count (same n) (k ∷ ks)) 1) js ≡ true
    → all (λ n. eqb (count (same n) ks) 1) js ≡ true
unfolding any count all
count_less k ks [] e h = refl
count_less k ks (j ∷ js) e h =
    let p = neither (same k j) (any (same k) js) e in
    let q = Lists.both (eqb (count (same j) (k ∷ ks)) 1) (all (λ n. eqb (count (same n) (k ∷ ks)) 1) js) h in
    ap₂ ◌&&◌ (rw (same_other k j p.0, zero-add) at q.0) (count_less k ks js p.1 q.1)

own_later : (k : List ℕ) (v : Json) (ms js : Members) → any (same k) (keys js) ≡ false → Own ms js → Own (member k v ms) js
unfolding any keys value_at
own_later k v ms no_members e h = tt
own_later k v ms (member j w js) e h =
    let p = neither (same k j) (any (same k) (keys js)) e in
    (rw (same_other k j p.0) h.0, own_later k v ms js p.1 h.1)

own_all : (ms : Members) → all (λ k. eqb (count (same k) (keys ms)) 1) (keys ms) ≡ true → Own ms ms
unfolding keys all value_at
own_all no_members e = tt
own_all (member k v ms) e =
    let p = Lists.both (eqb (count (same k) (k ∷ keys ms)) 1) (all (λ n. eqb (count (same n) (k ∷ keys ms)) 1) (keys ms)) e in
    let a = once_alone k (keys ms) p.0 in
    (rw (same_self k), own_later k v ms ms a (own_all ms (count_less k (keys ms) (keys ms) a p.1)))

-- what holds of all names holds of a key that is one
pub any_all : (p : List ℕ → Bool) (k : List ℕ) (names : List (List ℕ)) → any (same k) names ≡ true → all p names ≡ true → p k ≡ true
unfolding any all
any_all p k [] e h = let n : ◌≡◌ {A = ℕ} 0 1 = cc in absurd (omega arith)
any_all p k (j ∷ names) e h =
    let q = Lists.both (p j) (all p names) h in
    go (same k j) refl e q.0 (λ e. any_all p k names e q.1)
  where
    go : (b : Bool) → same k j ≡ b → (b || any (same k) names) ≡ true → p j ≡ true → (any (same k) names ≡ true → p k ≡ true) → p k ≡ true
    go true z e h f = rw (same_is k j z) h
    go false z e h f = f e

keys_once : (p : List ℕ → Bool) (names ks : List (List ℕ)) → all p names ≡ true → all (λ k. any (same k) names) ks ≡ true → all p ks ≡ true
unfolding all
keys_once p names [] h e = refl
keys_once p names (k ∷ ks) h e =
    let q = Lists.both (any (same k) names) (all (λ k. any (same k) names) ks) e in
    ap₂ ◌&&◌ (any_all p k names q.0 h) (keys_once p names ks h q.1)

-- the field of a name, and how what is there fits it
pub field_fits : (fs : Fields) (ms : Members) (k : List ℕ) → any (same k) (field_names fs) ≡ true → fields_fit fs ms ≡ fits → FitsField fs k (value_at k ms)
unfolding any field_names fields_fit field_of
field_fits no_fields ms k e g = let n : ◌≡◌ {A = ℕ} 0 1 = cc in absurd (omega arith)
field_fits (field j d fs) ms k e g =
    let w = worse_both (fit d (value_at j ms)) (fields_fit fs ms) g in
    go (same k j) refl e w.0 (λ e. field_fits fs ms k e w.1)
  where
    go : (b : Bool) → same k j ≡ b → (b || any (same k) (field_names fs)) ≡ true → fit d (value_at j ms) ≡ fits
        → (any (same k) (field_names fs) ≡ true → FitsField fs k (value_at k ms)) → FitsField (field j d fs) k (value_at k ms)
    go true z e h f = let q = same_is k j z in rw q (record { d = d; found = rw (same_self j); fit = h })
    go false z e h f = let r = f e in record { d = r.d; found = rw (same_other k j z) r.found; fit = r.fit }

each_fits : (fs : Fields) (ms js : Members) → all (λ k. any (same k) (field_names fs)) (keys js) ≡ true → Own ms js → fields_fit fs ms ≡ fits → EachFits fs js
unfolding keys all
each_fits fs ms no_members e o g = tt
each_fits fs ms (member k v js) e o g =
    let p = Lists.both (any (same k) (field_names fs)) (all (λ k. any (same k) (field_names fs)) (keys js)) e in
    (rw o.0 at (field_fits fs ms k p.0 g), each_fits fs ms js p.1 o.1 g)

all_fit : (fs : Fields) (ms : Members) → each_once (field_names fs) (keys ms) ≡ true → fields_fit fs ms ≡ fits → EachFits fs ms
unfolding each_once
all_fit fs ms e g =
    let p = Lists.both (all (λ n. eqb (count (same n) (keys ms)) 1) (field_names fs)) (all (λ k. any (same k) (field_names fs)) (keys ms)) e in
    each_fits fs ms ms p.1 (own_all ms (keys_once (λ n. eqb (count (same n) (keys ms)) 1) (field_names fs) (keys ms) p.0 p.1)) g

-- and how it is exchanged
pub numbered_field : (fs : Fields) (k : List ℕ) (v : Json) (d : Datainfo) → field_of k fs ≡ Some d → numbered_at k fs v ≡ numbered d v
unfolding field_of numbered_at
numbered_field no_fields k v d e = absurd (nothing e)
numbered_field (field j c fs) k v d e = go (same j k) e (numbered_field fs k v d)
  where
    go : (b : Bool) → cond b (Some c) (field_of k fs) ≡ Some d → (field_of k fs ≡ Some d → numbered_at k fs v ≡ numbered d v)
        → cond b (numbered c v) (numbered_at k fs v) ≡ numbered d v
    go true e h = ap (λ d. numbered d v) (just e)
    go false e h = h e

-- ## One member

module _ (o : Option (Parts × List ℕ)) (s : List ℕ) (levels : ℕ) (v : List ℕ) (j depth : ℕ) (t : List ℕ) (k : Reads (key (drop j v)) t) (r : Option ℕ) (f : FieldIn o s levels t r)
    {before : List ℕ} {at : ℕ} where
  module _ (inner : ℕ) (z : r ≡ Some inner) (q : Option ℕ) (m : Ends v q (member_value (drop j v))) where
    pub member_cut : q ≡ None → {after : List ℕ} {end : ℕ} → FormsMember o depth (drop j v) before at after end
    unfolding member_value
    member_cut w = record { is = λ {z = z'} e g h a b. absurd (nothing {a = skip z'} (sym (rw w at m) ∙ rw g)) }

    pub member_put : (p : ℕ) → q ≡ Some p → (out1 : List ℕ) (a1 : ℕ) → Emits before at (quoted t ++ bytes ":") out1 a1 → (after : List ℕ) (end : ℕ)
        → Forms (datainfo_in levels (drop inner s)) (bare depth (drop p v)) out1 a1 after end → FormsMember o depth (drop j v) before at after end
    unfolding member_value
    member_put p w out1 a1 x after end y = record {
      is = λ {z = z'} {d = d} e g h a b.
          let c = (rw z at f).is e d (rw (← (k.is g)) at a) in
          ends_some v _ {z = skip z'} q m (rw g) λ n u i.
          unspaced depth z' h λ y' l.
          rw (← (k.is g)) (both x (y.is {y = y'} c.1 (rw (place w u, ← i) l) b));
    }
      where
        place : {a b : ℕ} {q : Option ℕ} → q ≡ Some a → q ≡ Some b → a ≡ b
        place u w = cc

-- ## The members of an object

-- of the members that fit the fields, those where a walk stands are left, and what stands before them is written
pub record ObjectLeft (fs : Fields) (all : Members) (d : ℕ) (v : List ℕ) (place : Option ℕ) (left : ℕ) (start : Bool) (before : List ℕ) (at : ℕ) (out : List ℕ) (a : ℕ) : Type 0 where
  pub js : Members
  pub still : MembersAt d v left js place
  pub each : EachFits fs js
  pub done : List ℕ
  pub wrote : Emits before at done out a
  pub whole : compact_members (map_members (λ k w. numbered_at k fs w) all) ≡ done ++ listed start (map_members (λ k w. numbered_at k fs w) js)

pub record ObjectAt (o : Option (Parts × List ℕ)) (d : ℕ) (v : List ℕ) (p : ℕ) (place : Option ℕ) (left : ℕ) (start : Bool) (before : List ℕ) (at : ℕ) (out : List ℕ) (a : ℕ) : Type 0 where
  pub from : {m : Parts} {x : List ℕ} {ms : Members} {y : List ℕ} → o ≡ Some (m, x) → object_end (value d) (drop (p + 1) v) ≡ Some (Json.object ms, y)
      → each_once (field_names m.1) (keys ms) ≡ true → fields_fit m.1 ms ≡ fits → ObjectLeft m.1 ms d v place left start before at out a

pub object_first : (o : Option (Parts × List ℕ)) (d : ℕ) (v : List ℕ) (p : ℕ) (out : List ℕ) (at : ℕ) → at ≤ 18446744073709551615
    → (place : Option ℕ) → Ends v place (first 125 (drop (p + 1) v)) → ObjectAt o d v p place (length v - p) true out at out at
object_first o d v p out at n place f = record {
  from = λ {m = m} {ms = ms} e g h w. record {
    js = ms;
    still = members_first d v (p + 1) (length v - p) place (omega arith) (object_group d (drop (p + 1) v) g) f;
    each = all_fit m.1 ms h w;
    done = [];
    wrote = nothing_written out at n;
    whole = sym (listed_first (map_members (λ k w. numbered_at k m.1 w) ms));
  };
}

map_none : (f : List ℕ → Json → Json) (ms : Members) → ms ≡ no_members → map_members f ms ≡ no_members
unfolding map_members
map_none f ms e = rw e

-- the first of the members that are left
object_step : (fs : Fields) (js ks : Members) (k : List ℕ) (j : Json) → js ≡ member k j ks → EachFits fs js → {S : Type 0}
    → ((d : Datainfo) → field_of k fs ≡ Some d → fit d j ≡ fits → EachFits fs ks
    → map_members (λ k w. numbered_at k fs w) js ≡ member k (numbered d j) (map_members (λ k w. numbered_at k fs w) ks) → S) → S
unfolding map_members
object_step fs js ks k j e h f =
    let r = rw e at h in
    f r.0.d r.0.found r.0.fit r.1 (rw (e, numbered_field fs k j r.0.d r.0.found))

module _ (o : Option (Parts × List ℕ)) (d : ℕ) (v : List ℕ) (p : ℕ) (place : Option ℕ) (left : ℕ) (start : Bool) (before : List ℕ) (at : ℕ) (out : List ℕ) (a : ℕ)
    (c : ObjectAt o d v p place left start before at out a) where
  object_end_lem : ((js : Members) → MembersAt d v left js place → js ≡ no_members) → FormsMembers o (object_end (value d) (drop (p + 1) v)) before at out a
  object_end_lem h = record {
    is = λ {m = n} e f g w. let q = c.from e f g w in let m : List ℕ → Json → Json = λ k w. numbered_at k n.1 w in
        rw (q.whole, listed_end q.done start (map_members m q.js) (map_none m q.js (h q.js q.still))) q.wrote;
  }

  pub object_over : place ≡ None → FormsMembers o (object_end (value d) (drop (p + 1) v)) before at out a
  object_over z = object_end_lem λ js m. members_none m z

  pub object_cut : left ≤ 0 → FormsMembers o (object_end (value d) (drop (p + 1) v)) before at out a
  object_cut z = object_end_lem λ js m. members_over m z

  pub object_more : (k : ℕ) → place ≡ Some k → (out1 : List ℕ) (a1 : ℕ) → Emits out a (comma start) out1 a1 → (out2 : List ℕ) (a2 : ℕ)
      → FormsMember o d (drop k v) out1 a1 out2 a2 → (next : Option ℕ) → Ends v next (after_member d (drop k v)) → (later : ℕ) → later ≡ left - 1
      → ObjectAt o d v p next later false before at out2 a2
  object_more k z out1 a1 w out2 a2 g next m later one = rw one (record {
    from = λ {m = m'} e f n x.
        let r = c.from e f n x in
        let t = members_next d v left k next r.still z m in
        let fs : Fields = m'.1 in
        object_step fs r.js t.js t.k t.j t.whole r.each λ d b q h u. record {
          js = t.js;
          still = t.left;
          each = h;
          done = r.done ++ comma start ++ (quoted t.k ++ bytes ":" ++ compact (numbered d t.j));
          wrote = both (both r.wrote w) (g.is e t.keyed t.reads b q);
          whole = r.whole ∙ rw u (listed_step r.done start t.k (numbered d t.j) (map_members (λ k w. numbered_at k fs w) t.js));
        };
  })

-- ## A struct

-- the verdict on an object's members
abbrev pub members_fit : Fields → Members → Verdict
members_fit fs ms = cond (each_once (field_names fs) (keys ms)) (fields_fit fs ms) wrongType

module _ (s : List ℕ) (i levels k : ℕ) (v : List ℕ) (p depth : ℕ) {before after : List ℕ} {at end : ℕ} where
  struct_none : ((0 < depth) × (head (drop p v) ≡ 123) → ⊥) → FormsStruct (members_at (datainfo_in levels) k (drop i s)) (bare depth (drop p v)) before at after end
  unfolding fit
  struct_none h = record {
    is = λ {m = m} {j = j} e f g. object_begins j (members_fit m.1) g λ ms t q. has (as_object_lem (shape depth (drop p v) f)) t λ w r. absurd (h w);
  }

  pub struct_no : (depth ≡ 0) ⊎ ((depth ≡ 0 → ⊥) × (length v ≤ p)) → FormsStruct (members_at (datainfo_in levels) k (drop i s)) (bare depth (drop p v)) before at after end
  unfolding head
  struct_no (inl e) = struct_none λ h. omega arith
  struct_no (inr e) = struct_none λ h. let z = h.1 in let n : ◌≡◌ {A = ℕ} 0 123 = rw (drop_of_length-le v e.1) at z in omega arith

  pub struct_whole : (out1 : List ℕ) (a1 : ℕ) → Emits before at (123 ∷ []) out1 a1 → (out2 : List ℕ) (a2 : ℕ)
      → FormsMembers (members_at (datainfo_in levels) k (drop i s)) (object_end (value (depth - 1)) (drop (p + 1) v)) out1 a1 out2 a2 → Emits out2 a2 (125 ∷ []) after end
      → FormsStruct (members_at (datainfo_in levels) k (drop i s)) (bare depth (drop p v)) before at after end
  unfolding fit numbered within compact bytes
  struct_whole out1 a1 w out2 a2 x y = record {
    is = λ {m = m} {j = j} e f g. object_begins j (members_fit m.1) g λ ms t q.
        has (as_object_lem (shape depth (drop p v) f)) t λ u row. group_object (depth - 1) (drop (p + 1) v) (rw tail_drop at row) λ y' b.
        let n = cond_fits (each_once (field_names m.1) (keys ms)) (fields_fit m.1 ms) q in
        rw t (both (both w (x.is e b n.0 n.1)) y);
  }
