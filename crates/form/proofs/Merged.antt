-- Laws of the code that fills in what a change leaves out (M-113). Assumes nothing.
use Rattle.std.specs.Prelude.{Option, Some, None}
use Rattle.std.specs.Option.{is_some as is_there}
use Prim.Native.Nat.{ℕ, ◌+◌, ◌-◌, ◌≤◌, ◌<◌}
use native.Mathlib.Nat.{zero-add}
use native.Mathlib.Omega.{arith}
use mathlib.Core.Path.{◌≡◌, refl, sym, ap, ◌∙◌}
use mathlib.Core.Bool.{Bool, true, false, cond, not, ◌&&◌, ◌||◌, false≢true}
use mathlib.Core.List.{List, [], ◌∷◌, ◌++◌, append_assoc, append-nil}
use lib.Dec.{eqb}
use lib.ListN.{length, take, drop, length-append, length-drop}
use lib.Seq.{take_at}
use borrow.Author.Tests.{eqb-true, eqb-false, ne_eqb}
use Rattle.ascii.specs.Text.{bytes}
use Rattle.ascii.specs.Bytes.{is_some, any, count, same, head}
use Rattle.ascii.specs.Numbers.{unsigned}
use Rattle.ascii.specs.Clauses.Read.{ReadsValue}
use Rattle.ascii.specs.Clauses.Reader.{Ends}
use Rattle.ascii.proofs.Lists as Lists
use Rattle.json_text.specs.Json.{Json, Members, no_members, member, skip, value, object_end, text, quoted, compact, compact_members}
use Rattle.datainfo.specs.Datainfo.{Datainfo, Fields, no_fields, Parts, field_names}
use Rattle.datainfo.specs.Layout.{joined, fields, datainfo_in}
use Rattle.datainfo.specs.Clauses.Obeyed.{name_in}
use Rattle.datainfo.specs.Clauses.Members.{after_field, members_at}
use Rattle.datainfo.proofs.Structs.{fields_none, fields_some, past_field, name_read}
use Rattle.emit.specs.Clauses.Emitted.{Emits, comma}
use Rattle.emit.proofs.Pieces.{both}
use Rattle.emit.proofs.Pieces.{nothing as nothing_written}
use Rattle.fit.specs.Fit.{fits, keys, each_once, value_at, fields_fit, numbered, ordered, keep_members, is_left_out}
use Rattle.fit.specs.Clauses.Walk.{OfObject, OfStruct, first}
use Rattle.fit.proofs.Shapes.{nothing, just}
use Rattle.fit.proofs.Objects.{struct_short, struct_first}
use Rattle.form.specs.Clauses.Formed.{FormsField}
use Rattle.form.specs.Clauses.Merged.{TellsLeftOut, StaysFirst, KeepsOne, KeepsAll, is_none, merged_bytes, Merges}
use Rattle.form.proofs.Ordered.{Among, among_self, once_among}
use Rattle.form.proofs.Members.{listed, listed_first, listed_step, listed_end, field_fits}
use Rattle.form.proofs.Listed.{exchanged, among_any, stored_at}

-- ## What is left out

not_there : (k : List ℕ) (ks : List (List ℕ)) → eqb (count (same k) ks) 0 ≡ not (any (same k) ks)
unfolding count any
not_there k [] = refl
not_there k (j ∷ ks) = go (same k j) (not_there k ks)
  where
    go : (b : Bool) → eqb (count (same k) ks) 0 ≡ not (any (same k) ks) → eqb (cond b 1 0 + count (same k) ks) 0 ≡ not (b || any (same k) ks)
    go true h = ne_eqb (1 + count (same k) ks) 0 (λ e. omega arith)
    go false h = rw zero-add h

module _ (o : Option (Parts × List ℕ)) (q : Option (Json × List ℕ)) (name : List ℕ) (b : Bool) (h : OfStruct o (λ m. any (same name) m.0) b) where
  pub left_no : b ≡ false → TellsLeftOut o q name b
  unfolding is_left_out
  left_no z = record { is = λ e f. rw (← (h.is e), z) }

  pub left_yes : b ≡ true → (n : ℕ) → OfObject q (λ ms. count (same name) (keys ms)) n → TellsLeftOut o q name (eqb n 0)
  unfolding is_left_out
  left_yes z n g = record { is = λ {ms = ms} e f. rw (← (h.is e), z, g.is f) (not_there name (keys ms)) }

module _ (o : Option (Parts × List ℕ)) (q : Option (Json × List ℕ)) (name : List ℕ) (b : Bool) (h : TellsLeftOut o q name b) (start : Bool) where
  pub first_lost : b ≡ true → StaysFirst o q name start false
  first_lost z = record { is = λ e f. rw (← (h.is e f), z) }

  pub first_kept : b ≡ false → StaysFirst o q name start start
  first_kept z = record { is = λ e f. rw (← (h.is e f), z) }

  module _ (p : Option (Json × List ℕ)) where
    pub one_none : b ≡ false → (d : List ℕ) (at : ℕ) → at ≤ 18446744073709551615 → KeepsOne o q p name start d at d at
    one_none z d at w = record { is = λ e f g i j l. rw (← (h.is e f), z) (nothing_written d at w) }

    pub one_put : b ≡ true → {d d1 d2 : List ℕ} {at a1 a2 : ℕ} → Emits d at (comma start) d1 a1 → FormsField o p name d1 a1 d2 a2 → KeepsOne o q p name start d at d2 a2
    one_put z x y = record { is = λ e f g i j l. rw (← (h.is e f), z) (both x (y.is e g i j l)) }

-- ## All of it, in table order

-- what is kept of what is shown
abbrev pub kept : Parts → Members → Fields → Members → Members
kept m ms fs js = keep_members (is_left_out m.0 ms) (ordered fs (exchanged m.1 js))

pub record KeptLeft (s : List ℕ) (m : Parts) (ms js : Members) (place left : ℕ) (start : Bool) (before : List ℕ) (at : ℕ) (out : List ℕ) (a : ℕ) : Type 0 where
  pub gs : Parts
  pub x : List ℕ
  pub reads : fields (datainfo_in 3) 11 left (drop place s) ≡ Some (gs, x)
  pub among : Among gs.1 (field_names m.1)
  pub done : List ℕ
  pub wrote : Emits before at done out a
  pub whole : compact_members (kept m ms m.1 js) ≡ done ++ listed start (kept m ms gs.1 js)

pub record KeptAt (s : List ℕ) (i : ℕ) (q p : Option (Json × List ℕ)) (place left : ℕ) (start : Bool) (before : List ℕ) (at : ℕ) (out : List ℕ) (a : ℕ) : Type 0 where
  pub from : {m : Parts} {x : List ℕ} {ms : Members} {y : List ℕ} {js : Members} {z : List ℕ} → members_at (datainfo_in 3) 11 (drop i s) ≡ Some (m, x)
      → q ≡ Some (Json.object ms, y) → p ≡ Some (Json.object js, z) → each_once (field_names m.1) (keys js) ≡ true → fields_fit m.1 js ≡ fits
      → KeptLeft s m ms js place left start before at out a

module _ (s : List ℕ) (i : ℕ) (q p : Option (Json × List ℕ)) (u : Option (ℕ × ℕ)) (k : ReadsValue s u (unsigned 1 (drop i s))) where
  pub kept_short : u ≡ None → {before after : List ℕ} {at end : ℕ} → KeepsAll (members_at (datainfo_in 3) 11 (drop i s)) q p before at after end
  kept_short z = record { is = λ e f g h w. struct_short s i 3 11 u k z e }

  pub kept_first : (n j : ℕ) → u ≡ Some (n, j) → (out : List ℕ) (at : ℕ) → at ≤ 18446744073709551615 → (left : ℕ) → left ≡ n → KeptAt s i q p j left true out at out at
  kept_first n j z out at w left all = rw all (record {
    from = λ {m = m} {ms = ms} {js = js} e f g h v. record {
      gs = m;
      x = _;
      reads = struct_first s i 3 11 u k n j z e;
      among = among_self m.1;
      done = [];
      wrote = nothing_written out at w;
      whole = sym (listed_first (kept m ms m.1 js));
    };
  })

first_of : (f : List ℕ → Bool) (gs hs : Parts) (a : Bool × List ℕ) (d : Datainfo) (ks : List (List ℕ)) (xs : Members) → gs ≡ joined a d hs → Among gs.1 ks
    → (any (same a.1) ks ≡ true) × (Among hs.1 ks)
    × (keep_members f (ordered gs.1 xs) ≡ cond (f a.1) (member a.1 (value_at a.1 xs) (keep_members f (ordered hs.1 xs))) (keep_members f (ordered hs.1 xs)))
unfolding joined ordered keep_members
first_of f gs hs a d ks xs w h = let z = rw w at h in (z.0, z.1, rw w)

none_of : (f : List ℕ → Bool) (gs : Parts) (xs : Members) → gs ≡ ([], no_fields) → keep_members f (ordered gs.1 xs) ≡ no_members
unfolding ordered keep_members
none_of f gs xs e = rw e

kept_step : (b : Bool) (done : List ℕ) (start : Bool) (k : List ℕ) (v : Json) (ks : Members)
    → done ++ listed start (cond b (member k v ks) ks) ≡ (done ++ cond b (comma start ++ (quoted k ++ bytes ":" ++ compact v)) []) ++ listed (cond b false start) ks
kept_step true done start k v ks =
    listed_step done start k v ks ∙ ap (λ (l : List ℕ). l ++ listed false ks) (append_assoc done (comma start) (quoted k ++ bytes ":" ++ compact v))
kept_step false done start k v ks = rw append-nil

module _ (s : List ℕ) (i : ℕ) (q p : Option (Json × List ℕ)) (place left : ℕ) (start : Bool) (before : List ℕ) (at : ℕ) (out : List ℕ) (a : ℕ)
    (c : KeptAt s i q p place left start before at out a) where
  pub kept_over : left ≤ 0 → KeepsAll (members_at (datainfo_in 3) 11 (drop i s)) q p before at out a
  kept_over h = record {
    is = λ {m = m} {ms = ms} {js = js} e f g w v.
        let t = c.from e f g w v in
        let z = none_of (is_left_out m.0 ms) t.gs (exchanged m.1 js) (fields_none (datainfo_in 3) 11 left (drop place s) h t.reads) in
        rw (t.whole, listed_end t.done start (kept m ms t.gs.1 js) z) t.wrote;
  }

  module _ (h : 0 < left) (r : Option ℕ) (l : Ends s r (after_field (datainfo_in 3) 11 (drop place s))) where
    pub kept_bad : r ≡ None → {after : List ℕ} {end : ℕ} → KeepsAll (members_at (datainfo_in 3) 11 (drop i s)) q p before at after end
    kept_bad z = record {
      is = λ e f g w v. let t = c.from e f g w v in fields_some (datainfo_in 3) 11 left (drop place s) h t.reads λ b y d y' hs n j o w'.
          absurd (nothing (sym (rw z at l) ∙ past_field (datainfo_in 3) 11 (drop place s) n j));
    }

    pub kept_more : (e : ℕ) → r ≡ Some e → (name : List ℕ) → name ≡ name_in 11 (drop place s) → (out1 : List ℕ) (a1 : ℕ)
        → KeepsOne (members_at (datainfo_in 3) 11 (drop i s)) q p name start out a out1 a1 → (then : Bool)
        → StaysFirst (members_at (datainfo_in 3) 11 (drop i s)) q name start then → (later : ℕ) → later ≡ left - 1
        → KeptAt s i q p e later then before at out1 a1
    kept_more e z name y out1 a1 w then u later last = rw last (record {
      from = λ {m = m} {ms = ms} {js = js} e' f g once fit.
          let t = c.from e' f g once fit in
          fields_some (datainfo_in 3) 11 left (drop place s) h t.reads λ b y' d y'' hs n j o w'.
          let k : name ≡ b.1 = name_read 11 (drop place s) name y n in
          let one = rw k at w in
          let next = rw k at u in
          let v = first_of (is_left_out m.0 ms) t.gs hs b d (field_names m.1) (exchanged m.1 js) w' t.among in
          let p = field_fits m.1 js b.1 v.0 fit in
          let there = among_any m.1 (keys js) b.1 (once_among m.1 (keys js) once) v.0 in
          record {
            gs = hs;
            x = t.x;
            reads = rw (just (sym (past_field (datainfo_in 3) 11 (drop place s) n j) ∙ (rw z at l).0)) at o;
            among = v.1;
            done = t.done ++ cond (is_left_out m.0 ms b.1) (comma start ++ (quoted b.1 ++ bytes ":" ++ compact (numbered p.d (value_at b.1 js)))) [];
            wrote = both t.wrote (one.is e' f g there p.found p.fit);
            whole = t.whole ∙ rw (v.2, stored_at m.1 js b.1 p.d p.found, next.is e' f)
                (kept_step (is_left_out m.0 ms b.1) t.done start b.1 (numbered p.d (value_at b.1 js)) (kept m ms hs.1 js));
          };
    })

    -- a member is left out and put, or given and passed over
    module _ (e : ℕ) (z : r ≡ Some e) (name : List ℕ) (y : name ≡ name_in 11 (drop place s)) (b : Bool)
        (t : TellsLeftOut (members_at (datainfo_in 3) 11 (drop i s)) q name b) where
      pub kept_put : b ≡ true → {out1 : List ℕ} {a1 : ℕ} → Emits out a (comma start) out1 a1 → (out2 : List ℕ) (a2 : ℕ)
          → FormsField (members_at (datainfo_in 3) 11 (drop i s)) p name out1 a1 out2 a2 → (later : ℕ) → later ≡ left - 1
          → KeptAt s i q p e later false before at out2 a2
      kept_put w x out2 a2 f = kept_more e z name y out2 a2 (one_put _ q name b t start p w x f) false (first_lost _ q name b t start w)

      pub kept_passed : b ≡ false → a ≤ 18446744073709551615 → (later : ℕ) → later ≡ left - 1 → KeptAt s i q p e later start before at out a
      kept_passed w n = kept_more e z name y out a (one_none _ q name b t start p w out a n) start (first_kept _ q name b t start w)

-- ## The object, with what is kept in front

none_there : (r : Option ℕ) → is_there r ≡ false → r ≡ None
none_there None e = refl
none_there (Some n) e = absurd (false≢true (sym e))

some_there : (r : Option ℕ) → is_there r ≡ true → (n : ℕ) × (r ≡ Some n)
some_there None e = absurd (false≢true e)
some_there (Some n) e = (n, refl)

-- nothing is written of nothing
none_long : (ks : Members) → length (compact_members ks) ≡ 0 → is_none ks ≡ true
unfolding compact_members is_none quoted
none_long no_members e = refl
none_long (member k v ks) e = absurd (omega (arith, simp length-append at e))

some_long : (ks : Members) → (length (compact_members ks) ≡ 0 → ⊥) → is_none ks ≡ false
unfolding compact_members is_none
some_long no_members n = absurd (n refl)
some_long (member k v ks) n = refl

module _ (o : Option (Parts × List ℕ)) (xs : List ℕ) (p : Option (Json × List ℕ)) {d0 d1 d2 : List ℕ} {a1 a2 : ℕ} (x : Emits d0 0 (123 ∷ []) d1 a1)
    (y : KeepsAll o (object_end (value 7) xs) p d1 a1 d2 a2) where
  pub merged_alone : (r : Option ℕ) (v : List ℕ) → Ends v r (first 125 xs) → is_there r ≡ false → {d3 : List ℕ} {a3 : ℕ} → Emits d2 a2 (125 ∷ []) d3 a3 → Merges o xs p d0 d3 a3
  unfolding merged_bytes first bytes
  merged_alone r v f z w = record { is = λ e g h i j. rw (alone (eqb (head (skip xs)) 125) (rw (none_there r z) at f)) (both (both x (y.is e g h i j)) w) }
    where
      alone : (b : Bool) → cond {A = Option (List ℕ)} b None (Some xs) ≡ None → b ≡ true
      alone true e = refl
      alone false e = absurd (nothing (sym e))

  merged_both : (r : Option ℕ) (v : List ℕ) → Ends v r (first 125 xs) → is_there r ≡ true → {d3 d4 : List ℕ} {a3 a4 : ℕ}
      → Emits d2 a2 (comma (eqb a2 a1)) d3 a3 → Emits d3 a3 xs d4 a4 → Merges o xs p d0 d4 a4
  unfolding merged_bytes first bytes
  merged_both r v f z w u = record {
    is = λ {m = m} {ms = ms} {js = js} e i h j l.
        let k = y.is e i h j l in
        let n = some_there r z in
        rw (opened (eqb (head (skip xs)) 125) (rw n.1 at f).0, ← (same_flag (kept m ms m.1 js) k)) (rw append_assoc at (both (both (both x k) w) u));
  }
    where
      opened : (b : Bool) {zs : List ℕ} → cond {A = Option (List ℕ)} b None (Some xs) ≡ Some zs → b ≡ false
      opened true e = absurd (nothing e)
      opened false e = refl

      same_flag : (ks : Members) → Emits d1 a1 (compact_members ks) d2 a2 → eqb a2 a1 ≡ is_none ks
      same_flag ks k = go (eqb a2 a1) refl
        where
          go : (b : Bool) → eqb a2 a1 ≡ b → b ≡ is_none ks
          go true e = sym (none_long ks (let q = eqb-true a2 a1 e in let l = k.ends in let l1 = x.ends in omega arith))
          go false e = sym (some_long ks (λ n. eqb-false a2 a1 e (let l = k.ends in let l1 = x.ends in omega arith)))

all_of : (n : ℕ) (xs : List ℕ) → n ≡ length xs → take n xs ≡ xs
all_of n xs h = rw append-nil at (take_at xs [] n (sym h))

-- the rest of v is a part of it
pub merged_rest : (o : Option (Parts × List ℕ)) (v : List ℕ) (from : ℕ) (p : Option (Json × List ℕ)) {d0 d1 d2 : List ℕ} {a1 a2 : ℕ} → Emits d0 0 (123 ∷ []) d1 a1
    → KeepsAll o (object_end (value 7) (drop from v)) p d1 a1 d2 a2 → (r : Option ℕ) → Ends v r (first 125 (drop from v)) → is_there r ≡ true → {d3 d4 : List ℕ} {a3 a4 : ℕ}
    → Emits d2 a2 (comma (eqb a2 a1)) d3 a3 → Emits d3 a3 (take (length v - from) (drop from v)) d4 a4 → Merges o (drop from v) p d0 d4 a4
merged_rest o v from p x y r f z w u =
    merged_both o (drop from v) p x y r v f z w (rw (all_of (length v - from) (drop from v) (sym (length-drop from v))) at u)

-- ## Whether members may be left out

module _ (shown v : List ℕ) (p : ℕ) where
  module _ (t : Bool) (f : t ≡ (eqb (head shown) 123 && (eqb (head (drop p v)) 123 && is_some (text v)))) (z : t ≡ true) where
    pub part_shown_lem : 0 < length shown
    unfolding head
    part_shown_lem = go shown (eqb-true _ 123 (Lists.both (eqb (head shown) 123) (eqb (head (drop p v)) 123 && is_some (text v)) (sym f ∙ z)).0)
      where
        go : (xs : List ℕ) → head xs ≡ 123 → 0 < length xs
        go [] e = absurd (omega arith)
        go (x ∷ xs) e = omega arith

    pub part_within : p < length v
    unfolding head
    part_within =
        let c = Lists.both (eqb (head shown) 123) (eqb (head (drop p v)) 123 && is_some (text v)) (sym f ∙ z) in
        let c' = Lists.both (eqb (head (drop p v)) 123) (is_some (text v)) c.1 in
        go (drop p v) (eqb-true _ 123 c'.0) (length-drop p v)
      where
        go : (xs : List ℕ) → head xs ≡ 123 → length xs ≡ length v - p → p < length v
        go [] e h = absurd (omega arith)
        go (x ∷ xs) e h = omega arith
