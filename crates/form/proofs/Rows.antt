-- Laws of the code that writes the items of an array or a tuple, one for each way through a function. Assumes nothing.
use Rattle.std.specs.Prelude.{Option, Some, None}
use Prim.Native.Nat.{ℕ, ◌+◌, ◌-◌, ◌≤◌, ◌<◌}
use native.Mathlib.Omega.{arith}
use mathlib.Core.Logic.{◌⊎◌, inl, inr}
use mathlib.Core.Path.{◌≡◌, refl, sym, ap, ◌∙◌}
use mathlib.Core.Bool.{Bool, true, false}
use mathlib.Core.List.{List, [], ◌∷◌, ◌++◌, append_assoc, append-nil}
use lib.ListN.{length, drop, drop_of_length-le}
use lib.Dec.{eqb}
use borrow.Author.Tests.{eq-eqb, ne_eqb}
use Rattle.ascii.specs.Text.{bytes}
use Rattle.ascii.specs.Bytes.{head, tail, part}
use Rattle.ascii.specs.Numbers.{unsigned}
use Rattle.ascii.specs.Clauses.Read.{ReadsValue}
use Rattle.ascii.specs.Clauses.Reader.{Left, Ends, rest}
use Rattle.ascii.proofs.Bytes.{tail_drop}
use Rattle.json_text.specs.Json.{Json, null, boolean, Items, no_items, item, skip, items, array_end, bare, value, compact, compact_items, more_items}
use Rattle.datainfo.specs.Datainfo.{Datainfo, tuple, Elements, no_elements, element}
use Rattle.datainfo.specs.Layout.{array_at, elements, tuple_at, datainfo_in}
use Rattle.datainfo.specs.Rules.{is_between}
use Rattle.emit.specs.Clauses.Emitted.{Emits, comma}
use Rattle.emit.proofs.Pieces.{both}
use Rattle.emit.proofs.Pieces.{nothing as nothing_written}
use Rattle.fit.specs.Fit.{Verdict, fits, wrongType, worse, in_range, expect, as_array, item_count, worst_item, fit, elements_fit, within, map_items, numbered, numbered_elements}
use Rattle.fit.specs.Clauses.Walk.{first, after_item}
use Rattle.fit.proofs.Judged.{same_read, same_left}
use Rattle.fit.proofs.Shapes.{nothing, just, either, steps, Row, empty, full, shape, Tells, yes, no, as_array_lem}
use Rattle.fit.proofs.Items.{ItemsAt, items_first, items_next, items_none, items_turns, unspaced}
use Rattle.form.specs.Clauses.Formed.{Forms, FormsItem, FormsItems, FormsElements}
use Rattle.form.proofs.Verdicts.{worse_both}
use Rattle.fit.proofs.Nested.{limits_part, array_some, elements_some, elements_none, tuple_some}

-- ## Items with a comma before the first or not

unfoldable pub listed_items : Bool → Items → List ℕ
listed_items first no_items = []
listed_items first (item v is) = comma first ++ compact v ++ more_items is

listed_first : (is : Items) → listed_items true is ≡ compact_items is
unfolding listed_items comma compact_items
listed_first no_items = refl
listed_first (item v is) = refl

listed_more : (is : Items) → listed_items false is ≡ more_items is
unfolding listed_items comma more_items bytes
listed_more no_items = refl
listed_more (item v is) = refl

-- one more item is written
listed_step : (done : List ℕ) (start : Bool) (v : Json) (is : Items)
    → done ++ listed_items start (item v is) ≡ (done ++ (comma start ++ compact v)) ++ listed_items false is
unfolding listed_items
listed_step done start v is = rw (listed_more is) (simp append_assoc)

listed_end : (done : List ℕ) (start : Bool) (is : Items) → is ≡ no_items → done ++ listed_items start is ≡ done
unfolding listed_items
listed_end done start is e = rw (e, append-nil)

pub not_first : (n : ℕ) → eqb (n + 1) 0 ≡ false
not_first n = ne_eqb (n + 1) 0 (λ e. omega arith)

-- ## What an array holds

-- a value that fits where an array has to be is one
array_begins : (j : Json) (f : Items → Verdict) → expect (as_array j) f ≡ fits → {S : Type 0} → ((is : Items) → as_array j ≡ Some is → f is ≡ fits → S) → S
unfolding expect as_array
array_begins null f e g = let n : ◌≡◌ {A = ℕ} 0 1 = cc in absurd (omega arith)
array_begins (boolean b) f e g = let n : ◌≡◌ {A = ℕ} 0 1 = cc in absurd (omega arith)
array_begins (Json.number t) f e g = let n : ◌≡◌ {A = ℕ} 0 1 = cc in absurd (omega arith)
array_begins (Json.string s) f e g = let n : ◌≡◌ {A = ℕ} 0 1 = cc in absurd (omega arith)
array_begins (Json.array is) f e g = g is refl e
array_begins (Json.object ms) f e g = let n : ◌≡◌ {A = ℕ} 0 1 = cc in absurd (omega arith)

-- what a kind of value holds, and what is known of it there
pub has : {A P : Type 0} {o : Option A} {Q : A → Type 0} {a : A} → Tells P o Q → o ≡ Some a → {S : Type 0} → (P → Q a → S) → S
has (yes b h e q) g f = let z : b ≡ _ = just (sym e ∙ g) in f h (rw z at q)
has (no h e) g f = absurd (nothing (sym e ∙ g))

-- the items that are read past a '['
row_array : {S : Type 0} (d : ℕ) (xs : List ℕ) {is : Items} → Row d xs is → ((y : List ℕ) → array_end (value d) xs ≡ Some (Json.array is, y) → S) → S
unfolding array_end
row_array d xs (empty h e) f = f (tail (skip xs)) (rw (eq-eqb _ 93 h, e))
row_array d xs (full {y = y} h e) f = f y (rw (h, e))

array_row : (d : ℕ) (xs : List ℕ) {is : Items} {y : List ℕ} → array_end (value d) xs ≡ Some (Json.array is, y) → Row d xs is
unfolding array_end
array_row d xs {is} e =
    either (head (skip xs)) 93 _ _ e (λ b k. empty b (sym (same_items (ap (λ p. p.0) (just k))))) λ b k.
    steps (items (value d) (length xs) xs) _ k λ p g i. full b (g ∙ ap (λ m. Some (m, p.1)) (same_items (ap (λ p. p.0) (just i))))
  where
    same_items : {a b : Items} → Json.array a ≡ Json.array b → a ≡ b
    same_items e = cc

-- ## One item

pub item_put : (o : Option (Datainfo × List ℕ)) (v : List ℕ) (j q depth : ℕ) (start : Bool) (before out after : List ℕ) (at a end : ℕ)
    → Emits before at (comma start) out a → Left v q (skip (drop j v)) → Forms o (bare depth (drop q v)) out a after end
    → FormsItem o (value depth (drop j v)) start before at after end
item_put o v j q depth start before out after at a end w l g = record {
  is = λ e f h. unspaced depth (drop j v) f λ y b. both w (g.is e (rw l.is at b) h);
}

-- ## The items of an array

-- of the items that fit one datainfo, those where a walk stands are left, and what stands before them is written
pub record RowLeft (one : Datainfo) (all : Items) (d : ℕ) (v : List ℕ) (place : Option ℕ) (left : ℕ) (start : Bool) (before : List ℕ) (at : ℕ) (out : List ℕ) (a : ℕ) : Type 0 where
  pub is : Items
  pub still : ItemsAt d v left is place
  pub fit : worst_item (λ w. fit one w) is ≡ fits
  pub done : List ℕ
  pub wrote : Emits before at done out a
  pub whole : compact_items (map_items (λ w. numbered one w) all) ≡ done ++ listed_items start (map_items (λ w. numbered one w) is)

pub record RowAt (o : Option (Datainfo × List ℕ)) (d : ℕ) (v : List ℕ) (p : ℕ) (place : Option ℕ) (left : ℕ) (start : Bool) (before : List ℕ) (at : ℕ) (out : List ℕ) (a : ℕ) : Type 0 where
  pub from : {one : Datainfo} {x : List ℕ} {is : Items} {y : List ℕ} → o ≡ Some (one, x) → array_end (value d) (drop (p + 1) v) ≡ Some (Json.array is, y)
      → worst_item (λ w. fit one w) is ≡ fits → RowLeft one is d v place left start before at out a

pub row_first : (o : Option (Datainfo × List ℕ)) (d : ℕ) (v : List ℕ) (p : ℕ) (out : List ℕ) (at : ℕ) → p < length v → at ≤ 18446744073709551615
    → (place : Option ℕ) → Ends v place (first 93 (drop (p + 1) v)) → RowAt o d v p place (length v - p) true out at out at
row_first o d v p out at h n place f = record {
  from = λ {one = one} {is = is} e g w. record {
    is = is;
    still = items_first d v (p + 1) (length v - p) place (omega arith) (array_row d (drop (p + 1) v) g) f;
    fit = w;
    done = [];
    wrote = nothing_written out at n;
    whole = sym (listed_first (map_items (λ w. numbered one w) is));
  };
}

row_step : (p : Json → Verdict) (f : Json → Json) (is js : Items) (j : Json) → is ≡ item j js → worst_item p is ≡ fits
    → (p j ≡ fits) × (worst_item p js ≡ fits) × (map_items f is ≡ item (f j) (map_items f js))
unfolding worst_item map_items
row_step p f is js j e g = let w = worse_both (p j) (worst_item p js) (rw e at g) in (w.0, w.1, rw e)

row_none : (f : Json → Json) (is : Items) → is ≡ no_items → map_items f is ≡ no_items
unfolding map_items
row_none f is e = rw e

module _ (o : Option (Datainfo × List ℕ)) (d : ℕ) (v : List ℕ) (p : ℕ) (place : Option ℕ) (left : ℕ) (start : Bool) (before : List ℕ) (at : ℕ) (out : List ℕ) (a : ℕ)
    (c : RowAt o d v p place left start before at out a) where
  pub row_over : place ≡ None → FormsItems o (array_end (value d) (drop (p + 1) v)) before at out a
  row_over z = record {
    is = λ {d = one} e f g. let q = c.from e f g in let m : Json → Json = λ w. numbered one w in
        rw (q.whole, listed_end q.done start (map_items m q.is) (row_none m q.is (items_none q.still z))) q.wrote;
  }

  pub row_cut : left ≤ 0 → FormsItems o (array_end (value d) (drop (p + 1) v)) before at out a
  row_cut z = record { is = λ e f g. let h = items_turns (c.from e f g).still in absurd (omega arith) }

  pub row_more : (j : ℕ) → place ≡ Some j → (out' : List ℕ) (a' : ℕ) → FormsItem o (value d (drop j v)) start out a out' a' → (next : Option ℕ)
      → Ends v next (after_item d (drop j v)) → (later : ℕ) → later ≡ left - 1 → RowAt o d v p next later false before at out' a'
  row_more j z out' a' g next m later one = rw one (record {
    from = λ {one = one} e f n.
        let r = c.from e f n in
        let t = items_next d v left j next r.still z m in
        let u = row_step (λ w. fit one w) (λ w. numbered one w) r.is t.js t.j t.whole r.fit in record {
          is = t.js;
          still = t.left;
          fit = u.1;
          done = r.done ++ (comma start ++ compact (numbered one t.j));
          wrote = both r.wrote (g.is e t.reads u.0);
          whole = r.whole ∙ rw u.2 (listed_step r.done start (numbered one t.j) (map_items (λ w. numbered one w) t.js));
        };
  })

-- ## An array

module _ (s : List ℕ) (i levels : ℕ) (v : List ℕ) (p depth : ℕ) {before after : List ℕ} {at end : ℕ} where
  -- no array is there
  array_none : ((0 < depth) × (head (drop p v) ≡ 91) → ⊥) → Forms (array_at (datainfo_in levels) (drop i s)) (bare depth (drop p v)) before at after end
  unfolding fit
  array_none h = record {
    is = λ {j = j} e f g. array_some (datainfo_in levels) (drop i s) e λ lo hi y z d a b c o.
        array_begins j (λ is. worse (in_range (is_between lo hi (item_count is))) (worst_item (λ w. fit d w) is)) (rw o at g) λ is k q.
        has (as_array_lem (shape depth (drop p v) f)) k λ w r. absurd (h w);
  }

  pub array_no : (depth ≡ 0) ⊎ ((depth ≡ 0 → ⊥) × (length v ≤ p)) → Forms (array_at (datainfo_in levels) (drop i s)) (bare depth (drop p v)) before at after end
  unfolding head
  array_no (inl e) = array_none λ h. omega arith
  array_no (inr e) = array_none λ h. let z = h.1 in let n : ◌≡◌ {A = ℕ} 0 91 = rw (drop_of_length-le v e.1) at z in omega arith

  module _ (q : Option ℕ) (k : Ends s q (rest (part 4 (drop i s)))) where
    pub array_short : q ≡ None → Forms (array_at (datainfo_in levels) (drop i s)) (bare depth (drop p v)) before at after end
    array_short z = record {
      is = λ e f g. array_some (datainfo_in levels) (drop i s) e λ lo hi y' z' d a b c o. absurd (nothing (sym (rw z at k) ∙ limits_part (drop i s) a b));
    }

    pub array_whole : (inner : ℕ) → q ≡ Some inner → (out1 : List ℕ) (a1 : ℕ) → Emits before at (91 ∷ []) out1 a1 → (out2 : List ℕ) (a2 : ℕ)
        → FormsItems (datainfo_in levels (drop inner s)) (array_end (value (depth - 1)) (drop (p + 1) v)) out1 a1 out2 a2 → Emits out2 a2 (93 ∷ []) after end
        → Forms (array_at (datainfo_in levels) (drop i s)) (bare depth (drop p v)) before at after end
    unfolding fit numbered within compact bytes
    array_whole inner z out1 a1 w out2 a2 x y = record {
      is = λ {j = j} e f g. array_some (datainfo_in levels) (drop i s) e λ lo hi y' z' d l1 l2 r o.
          array_begins j (λ is. worse (in_range (is_between lo hi (item_count is))) (worst_item (λ w. fit d w) is)) (rw o at g) λ is t n.
          has (as_array_lem (shape depth (drop p v) f)) t λ u row. row_array (depth - 1) (drop (p + 1) v) (rw tail_drop at row) λ m b.
          rw (o, t) (both (both w (x.is (rw (just (sym (limits_part (drop i s) l1 l2) ∙ (rw z at k).0)) at r) b
          (worse_both (in_range (is_between lo hi (item_count is))) (worst_item (λ w. fit d w) is) n).1)) y);
    }

-- ## The items of a tuple

pub record ElementsLeft (ds : Elements) (all : Items) (levels : ℕ) (s : List ℕ) (d : ℕ) (v : List ℕ) (place left : ℕ) (item : Option ℕ) (start : Bool)
    (before : List ℕ) (at : ℕ) (out : List ℕ) (a : ℕ) : Type 0 where
  pub es : Elements
  pub x : List ℕ
  pub reads : elements (datainfo_in levels) left (drop place s) ≡ Some (es, x)
  pub n : ℕ
  pub is : Items
  pub still : ItemsAt d v n is item
  pub fit : elements_fit es is ≡ fits
  pub done : List ℕ
  pub wrote : Emits before at done out a
  pub whole : compact_items (numbered_elements ds all) ≡ done ++ listed_items start (numbered_elements es is)

pub record ElementsAt (s : List ℕ) (i levels d : ℕ) (v : List ℕ) (p place left : ℕ) (item : Option ℕ) (start : Bool) (before : List ℕ) (at : ℕ) (out : List ℕ) (a : ℕ) : Type 0 where
  pub from : {ds : Elements} {x : List ℕ} {is : Items} {y : List ℕ} → tuple_at (datainfo_in levels) (drop i s) ≡ Some (tuple ds, x)
      → array_end (value d) (drop (p + 1) v) ≡ Some (Json.array is, y) → elements_fit ds is ≡ fits → ElementsLeft ds is levels s d v place left item start before at out a

same_elements : {a b : Elements} → tuple a ≡ tuple b → a ≡ b
same_elements e = cc

module _ (s : List ℕ) (i levels d : ℕ) (v : List ℕ) (p : ℕ) (u : Option (ℕ × ℕ)) (k : ReadsValue s u (unsigned 1 (drop i s))) where
  pub elements_short : u ≡ None → {before after : List ℕ} {at end : ℕ}
      → FormsElements (tuple_at (datainfo_in levels) (drop i s)) (array_end (value d) (drop (p + 1) v)) before at after end
  elements_short z = record { is = λ e f g. tuple_some (datainfo_in levels) (drop i s) e λ n r ds a b o. absurd (nothing (sym (rw z at k) ∙ a)) }

  pub elements_first : p < length v → (n place : ℕ) → u ≡ Some (n, place) → (out : List ℕ) (at : ℕ) → at ≤ 18446744073709551615 → (item : Option ℕ)
      → Ends v item (first 93 (drop (p + 1) v)) → (left : ℕ) → left ≡ n → ElementsAt s i levels d v p place left item true out at out at
  elements_first h n place z out at w m f left all = rw all (record {
    from = λ {ds = ds} {is = is} e g q. tuple_some (datainfo_in levels) (drop i s) e λ n' r ds' a b o. record {
      es = ds;
      x = _;
      reads = rw (same_read a (rw z at k).0, same_left a (rw z at k).0, ← (same_elements o)) at b;
      n = length v - p;
      is = is;
      still = items_first d v (p + 1) (length v - p) m (omega arith) (array_row d (drop (p + 1) v) g) f;
      fit = q;
      done = [];
      wrote = nothing_written out at w;
      whole = sym (listed_first (numbered_elements ds is));
    };
  })

tuple_step : (ds es : Elements) (d : Datainfo) (is js : Items) (j : Json) → ds ≡ element d es → is ≡ item j js → elements_fit ds is ≡ fits
    → (fit d j ≡ fits) × (elements_fit es js ≡ fits) × (numbered_elements ds is ≡ item (numbered d j) (numbered_elements es js))
unfolding elements_fit numbered_elements
tuple_step ds es d is js j e f g = let w = worse_both (fit d j) (elements_fit es js) (rw (e, f) at g) in (w.0, w.1, rw (e, f))

tuple_less : (ds es : Elements) (d : Datainfo) (is : Items) → ds ≡ element d es → is ≡ no_items → elements_fit ds is ≡ fits → ⊥
unfolding elements_fit
tuple_less ds es d is a b e = let z : wrongType ≡ fits = rw (a, b) at e in let n : ◌≡◌ {A = ℕ} 0 1 = cc in omega arith

tuple_end : (ds : Elements) (is : Items) → ds ≡ no_elements → elements_fit ds is ≡ fits → numbered_elements ds is ≡ no_items
unfolding elements_fit numbered_elements
tuple_end ds no_items a e = rw a
tuple_end ds (item v is) a e = let z : wrongType ≡ fits = rw a at e in let n : ◌≡◌ {A = ℕ} 0 1 = cc in absurd (omega arith)

module _ (s : List ℕ) (i levels d : ℕ) (v : List ℕ) (p place left : ℕ) (item : Option ℕ) (start : Bool) (before : List ℕ) (at : ℕ) (out : List ℕ) (a : ℕ)
    (c : ElementsAt s i levels d v p place left item start before at out a) where
  pub elements_few : 0 < left → item ≡ None → FormsElements (tuple_at (datainfo_in levels) (drop i s)) (array_end (value d) (drop (p + 1) v)) before at out a
  elements_few h z = record {
    is = λ e f g. let q = c.from e f g in elements_some (datainfo_in levels) left (drop place s) h q.reads λ d r es a b w.
        absurd (tuple_less q.es es d q.is w (items_none q.still z) q.fit);
  }

  pub elements_over : left ≤ 0 → FormsElements (tuple_at (datainfo_in levels) (drop i s)) (array_end (value d) (drop (p + 1) v)) before at out a
  elements_over h = record {
    is = λ e f g. let q = c.from e f g in
        rw (
          q.whole,
          listed_end q.done start (numbered_elements q.es q.is)
              (tuple_end q.es q.is (elements_none (datainfo_in levels) left (drop place s) (omega arith) q.reads) q.fit),
        ) q.wrote;
  }

  module _ (h : 0 < left) (e : Option ℕ) (k : Ends s e (rest (datainfo_in levels (drop place s)))) where
    pub elements_bad : e ≡ None → FormsElements (tuple_at (datainfo_in levels) (drop i s)) (array_end (value d) (drop (p + 1) v)) before at out a
    elements_bad z = record {
      is = λ e f g. let q = c.from e f g in elements_some (datainfo_in levels) left (drop place s) h q.reads λ d y es a b w.
          absurd (nothing (sym (rw z at k) ∙ ap rest a));
    }

    pub elements_more : (j n : ℕ) → item ≡ Some j → e ≡ Some n → (out' : List ℕ) (a' : ℕ) → FormsItem (datainfo_in levels (drop place s)) (value d (drop j v)) start out a out' a'
        → (next : Option ℕ) → Ends v next (after_item d (drop j v)) → (later : ℕ) → later ≡ left - 1 → (again : Bool) → again ≡ false
        → ElementsAt s i levels d v p n later next again before at out' a'
    elements_more j n z o out' a' g next t later one again z0 = rw (one, z0) (record {
      from = λ m w f.
          let r = c.from m w f in
          let st = items_next d v r.n j next r.still z t in
          elements_some (datainfo_in levels) left (drop place s) h r.reads λ one y es b b' u.
          let x = tuple_step r.es es one r.is st.js st.j u st.whole r.fit in record {
            es = es;
            x = r.x;
            reads = rw (just (sym (ap rest b) ∙ (rw o at k).0)) at b';
            n = r.n - 1;
            is = st.js;
            still = st.left;
            fit = x.1;
            done = r.done ++ (comma start ++ compact (numbered one st.j));
            wrote = both r.wrote (g.is b st.reads x.0);
            whole = r.whole ∙ rw x.2 (listed_step r.done start (numbered one st.j) (numbered_elements es st.js));
          };
    })

-- ## A tuple

module _ (s : List ℕ) (i levels : ℕ) (v : List ℕ) (p depth : ℕ) {before after : List ℕ} {at end : ℕ} where
  tuple_none : ((0 < depth) × (head (drop p v) ≡ 91) → ⊥) → Forms (tuple_at (datainfo_in levels) (drop i s)) (bare depth (drop p v)) before at after end
  unfolding fit
  tuple_none h = record {
    is = λ {j = j} e f g. tuple_some (datainfo_in levels) (drop i s) e λ n r ds a b o.
        array_begins j (λ is. elements_fit ds is) (rw o at g) λ is k q. has (as_array_lem (shape depth (drop p v) f)) k λ w r. absurd (h w);
  }

  pub tuple_no : (depth ≡ 0) ⊎ ((depth ≡ 0 → ⊥) × (length v ≤ p)) → Forms (tuple_at (datainfo_in levels) (drop i s)) (bare depth (drop p v)) before at after end
  unfolding head
  tuple_no (inl e) = tuple_none λ h. omega arith
  tuple_no (inr e) = tuple_none λ h. let z = h.1 in let n : ◌≡◌ {A = ℕ} 0 91 = rw (drop_of_length-le v e.1) at z in omega arith

  pub tuple_whole : (out1 : List ℕ) (a1 : ℕ) → Emits before at (91 ∷ []) out1 a1 → (out2 : List ℕ) (a2 : ℕ)
      → FormsElements (tuple_at (datainfo_in levels) (drop i s)) (array_end (value (depth - 1)) (drop (p + 1) v)) out1 a1 out2 a2 → Emits out2 a2 (93 ∷ []) after end
      → Forms (tuple_at (datainfo_in levels) (drop i s)) (bare depth (drop p v)) before at after end
  unfolding fit numbered within compact bytes
  tuple_whole out1 a1 w out2 a2 x y = record {
    is = λ {j = j} e f g. tuple_some (datainfo_in levels) (drop i s) e λ n r ds a b o.
        array_begins j (λ is. elements_fit ds is) (rw o at g) λ is t q.
        has (as_array_lem (shape depth (drop p v) f)) t λ u row. row_array (depth - 1) (drop (p + 1) v) (rw tail_drop at row) λ m b'.
        rw (o, t) (both (both w (x.is (rw o at e) b' q)) y);
  }
