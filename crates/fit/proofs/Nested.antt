-- Laws of arrays and tuples: what holds while the code walks over the items. Assumes nothing.
use Rattle.std.specs.Prelude.{Option, Some, None, Result, Ok, Err}
use Prim.Native.Nat.{ℕ, zero, suc, ◌+◌, ◌-◌, ◌≤◌, ◌<◌}
use native.Mathlib.Nat.{zero-add, add-zero}
use native.Mathlib.Numerals.{sub-one}
use native.Mathlib.Omega.{arith}
use mathlib.Core.Path.{◌≡◌, refl, sym, ap, ◌∙◌}
use mathlib.Core.Bool.{Bool, true, false, cond}
use mathlib.Core.List.{List}
use lib.ListN.{length, take, drop, length-drop}
use lib.Seq.{drop-drop}
use lib.Dec.{leb}
use borrow.Author.Tests.{leb-true, le-leb}
use Rattle.ascii.specs.Bytes.{head, part}
use Rattle.ascii.specs.Numbers.{unsigned}
use Rattle.ascii.specs.Clauses.Reader.{ByteAt, Left, Ends, rest}
use Rattle.ascii.specs.Clauses.Read.{ReadsValue}
use Rattle.ascii.proofs.Bytes.{tail_drop}
use Rattle.json_text.specs.Json.{Json, Items, no_items, item, skip, bare}
use Rattle.datainfo.specs.Datainfo.{Datainfo, array, tuple, Elements, no_elements, element}
use Rattle.datainfo.specs.Layout.{array_at, elements, tuple_at, datainfo_in}
use Rattle.datainfo.specs.Rules.{is_between}
use Rattle.fit.specs.Fit.{fits, wrongType, in_range, expect, worse, item_count, worst_item, elements_fit, fit}
use Rattle.fit.specs.Fit as Fit
use Rattle.fit.specs.Clauses.Verdict.{meaning, Judges, Limits}
use Rattle.fit.specs.Clauses.Walk.{first, after_item}
use Rattle.fit.proofs.Judged.{worse_fits, fits_worse, worse_worse, same_read, same_left}
use Rattle.fit.proofs.Shapes.{nothing, just, steps, shape, tells_yes, tells_no, as_array_lem}
use Rattle.fit.proofs.Items.{ItemsAt, items_first, items_next, items_none, items_some, items_turns, unspaced}
use Rattle.fit.specs.declared.Misfit.{Misfit}
use Rattle.fit.specs.declared.Misfit.TheVariants.{WrongType}

-- ## Parts of the table

-- a part of n bytes, and what is left
part_some : (n : ℕ) (xs : List ℕ) {t y : List ℕ} → part n xs ≡ Some (t, y) → (n ≤ length xs) × (y ≡ drop n xs)
unfolding part
part_some n xs {t} {y} e = go (leb n (length xs)) refl e
  where
    go : (b : Bool) → leb n (length xs) ≡ b → cond {A = Option (List ℕ × List ℕ)} b (Some (take n xs, drop n xs)) None ≡ Some (t, y) → (n ≤ length xs) × (y ≡ drop n xs)
    go true h e = (leb-true n (length xs) h, sym (ap (λ p. p.1) (just e)))
    go false h e = absurd (nothing e)

unsigned_some : (n : ℕ) (xs : List ℕ) {m : ℕ} {y : List ℕ} → unsigned n xs ≡ Some (m, y) → (n ≤ length xs) × (y ≡ drop n xs)
unfolding unsigned
unsigned_some n xs e = steps (part n xs) _ e λ p a e. let h = part_some n xs a in (h.0, sym (ap (λ p. p.1) (just e)) ∙ h.1)

-- two limits are four bytes
pub limits_part : (xs : List ℕ) {lo hi : ℕ} {y z : List ℕ} → unsigned 2 xs ≡ Some (lo, y) → unsigned 2 y ≡ Some (hi, z) → rest (part 4 xs) ≡ Some z
unfolding part
limits_part xs {lo} {hi} {y} e f =
    let a = unsigned_some 2 xs e in
    let b = unsigned_some 2 y f in
    let n : 2 ≤ length xs - 2 = rw (a.1, length-drop) at b.0 in
    rw (le-leb 4 (length xs) (omega arith), b.1, a.1, drop-drop)

pub array_some : {S : Type 0} (f : List ℕ → Option (Datainfo × List ℕ)) (xs : List ℕ) {o : Datainfo} {x : List ℕ} → array_at f xs ≡ Some (o, x)
    → ((lo hi : ℕ) (y z : List ℕ) (d : Datainfo) → unsigned 2 xs ≡ Some (lo, y) → unsigned 2 y ≡ Some (hi, z) → f z ≡ Some (d, x) → o ≡ array lo hi d → S) → S
unfolding array_at
array_some f xs e g = steps (unsigned 2 xs) _ e λ p a e. steps (unsigned 2 p.1) _ e λ q b e. steps (f q.1) _ e λ w c e.
    g p.0 q.0 p.1 q.1 w.0 a b (c ∙ ap (λ y. Some (w.0, y)) (ap (λ p. p.1) (just e))) (sym (ap (λ p. p.0) (just e)))

-- ## Arrays

-- a value j for an array o with these limits: items are left where a walk stands, after n whose worst verdict is w
pub record ItemsLeft (o : Datainfo) (j : Json) (limits : List ℕ) (inner : Option (Datainfo × List ℕ)) (d : ℕ) (v : List ℕ) (w : Fit.Verdict) (n : ℕ) (at : Option ℕ) (left : ℕ) : Type 0 where
  pub lo : ℕ
  pub hi : ℕ
  pub y : List ℕ
  pub z : List ℕ
  pub low : unsigned 2 limits ≡ Some (lo, y)
  pub high : unsigned 2 y ≡ Some (hi, z)
  pub one : Datainfo
  pub x : List ℕ
  pub reads : inner ≡ Some (one, x)
  pub is : Items
  pub still : ItemsAt d v left is at
  pub fits : fit o j ≡ worse (in_range (is_between lo hi (n + item_count is))) (worse w (worst_item (λ v. fit one v) is))

pub record ArrayAt (s : List ℕ) (at levels : ℕ) (v : List ℕ) (p depth inner : ℕ) (worst : Result Unit Misfit) (n : ℕ) (item : Option ℕ) (left : ℕ) : Type 0 where
  pub from : {o : Datainfo} {x : List ℕ} {j : Json} {y : List ℕ} → array_at (datainfo_in levels) (drop at s) ≡ Some (o, x) → bare depth (drop p v) ≡ Some (j, y)
      → ItemsLeft o j (drop at s) (datainfo_in levels (drop inner s)) (depth - 1) v (meaning worst) n item left

module _ (s : List ℕ) (at levels : ℕ) (v : List ℕ) (p depth : ℕ) where
  array_wrong : ((0 < depth) × (head (drop p v) ≡ 91) → ⊥) → Judges (array_at (datainfo_in levels) (drop at s)) (bare depth (drop p v)) (Err WrongType)
  unfolding fit expect
  array_wrong h = record { is = λ e f. array_some (datainfo_in levels) (drop at s) e λ lo hi y z d a b c o. rw (o, tells_no (as_array_lem (shape depth (drop p v) f)) h) }

  pub array_shallow : depth ≡ 0 → Judges (array_at (datainfo_in levels) (drop at s)) (bare depth (drop p v)) (Err WrongType)
  array_shallow e = array_wrong λ h. omega arith

  module _ (b : ℕ) (x : ByteAt v p b) where
    pub array_other : (b ≡ 91 → ⊥) → Judges (array_at (datainfo_in levels) (drop at s)) (bare depth (drop p v)) (Err WrongType)
    array_other h = array_wrong λ g. h (x.is ∙ g.1)

    module _ (q : Option ℕ) (k : Ends s q (rest (part 4 (drop at s)))) where
      pub array_short : q ≡ None → (r : Result Unit Misfit) → Judges (array_at (datainfo_in levels) (drop at s)) (bare depth (drop p v)) r
      array_short z r = record { is = λ e f. array_some (datainfo_in levels) (drop at s) e λ lo hi y' z' d a b c o. absurd (nothing (sym (rw z at k) ∙ limits_part (drop at s) a b)) }

      pub array_first : (depth ≡ 0 → ⊥) → b ≡ 91 → (i : ℕ) → q ≡ Some i → (item : Option ℕ) → Ends v item (first 93 (drop (p + 1) v)) → ArrayAt s at levels v p depth i (Ok tt) 0 item (length v - p)
      unfolding fit expect
      array_first h g i z m f = record {
        from = λ e c. array_some (datainfo_in levels) (drop at s) e λ lo hi y' z' d l1 l2 r o.
            tells_yes (as_array_lem (shape depth (drop p v) c)) (omega arith, sym x.is ∙ g) λ is t row. record {
              lo = lo;
              hi = hi;
              y = y';
              z = z';
              low = l1;
              high = l2;
              one = d;
              x = _;
              reads = rw (just (sym (limits_part (drop at s) l1 l2) ∙ (rw z at k).0)) at r;
              is = is;
              still = items_first (depth - 1) v (p + 1) (length v - p) m (omega arith) (rw tail_drop at row) f;
              fits = rw (o, t, zero-add, worse_fits);
            };
      }

-- one item more, by a verdict r on it
array_step : (a b n : ℕ) (w r t : Fit.Verdict) (d : Datainfo) (is js : Items) (j : Json) → is ≡ item j js → r ≡ fit d j → t ≡ worse w r
    → worse (in_range (is_between a b (n + item_count is))) (worse w (worst_item (λ v. fit d v) is)) ≡ worse (in_range (is_between a b (n + 1 + item_count js))) (worse t (worst_item (λ v. fit d v) js))
unfolding item_count worst_item
array_step a b n w r t d is js j e f g = rw (e, g, f, worse_worse w (fit d j) (worst_item (λ v. fit d v) js), count n (item_count js))
  where
    count : (a b : ℕ) → a + suc b ≡ a + 1 + b
    count a b = omega arith

array_end_lem : (a b n : ℕ) (w : Fit.Verdict) (d : Datainfo) (is : Items) → is ≡ no_items
    → worse (in_range (is_between a b (n + item_count is))) (worse w (worst_item (λ v. fit d v) is)) ≡ worse (in_range (is_between a b n)) w
unfolding item_count worst_item
array_end_lem a b n w d is e = rw (e, add-zero, fits_worse)

module _ (s : List ℕ) (at levels : ℕ) (v : List ℕ) (p depth inner : ℕ) (worst : Result Unit Misfit) (n : ℕ) (item : Option ℕ) (left : ℕ) (c : ArrayAt s at levels v p depth inner worst n item left) where
  pub array_over : item ≡ None → (r t : Result Unit Misfit) → Limits (drop at s) n r → meaning t ≡ worse (meaning r) (meaning worst) → Judges (array_at (datainfo_in levels) (drop at s)) (bare depth (drop p v)) t
  array_over z r t l h = record {
    is = λ e f. let q = c.from e f in
        h ∙ rw (l.is q.low q.high) (sym (q.fits ∙ array_end_lem q.lo q.hi n (meaning worst) q.one q.is (items_none q.still z)));
  }

  pub array_cut : left ≤ 0 → (r : Result Unit Misfit) → Judges (array_at (datainfo_in levels) (drop at s)) (bare depth (drop p v)) r
  array_cut z r = record { is = λ e f. let h = items_turns (c.from e f).still in absurd (omega arith) }

  pub array_more : (i f : ℕ) (r w : Result Unit Misfit) (next : Option ℕ) → item ≡ Some i → Left v f (skip (drop i v)) → Judges (datainfo_in levels (drop inner s)) (bare (depth - 1) (drop f v)) r
      → meaning w ≡ worse (meaning worst) (meaning r) → Ends v next (after_item (depth - 1) (drop i v)) → ArrayAt s at levels v p depth inner w (n + 1) next (left - 1)
  array_more i f r w next z l g h k = record {
    from = λ e a.
        let q = c.from e a in
        let st = items_next (depth - 1) v left i next q.still z k in
        unspaced (depth - 1) (drop i v) st.reads λ y b. record {
          lo = q.lo;
          hi = q.hi;
          y = q.y;
          z = q.z;
          low = q.low;
          high = q.high;
          one = q.one;
          x = q.x;
          reads = q.reads;
          is = st.js;
          still = st.left;
          fits = q.fits ∙ array_step q.lo q.hi n (meaning worst) (meaning r) (meaning w) q.one q.is st.js st.j st.whole (g.is q.reads (rw l.is at b)) h;
        };
  }

-- ## Tuples

pub elements_some : {S : Type 0} (f : List ℕ → Option (Datainfo × List ℕ)) (n : ℕ) (xs : List ℕ) {ds : Elements} {x : List ℕ} → 0 < n → elements f n xs ≡ Some (ds, x)
    → ((d : Datainfo) (r : List ℕ) (es : Elements) → f xs ≡ Some (d, r) → elements f (n - 1) r ≡ Some (es, x) → ds ≡ element d es → S) → S
unfolding elements
elements_some f zero xs h e g = absurd (omega arith)
elements_some f (suc n) xs h e g = steps (f xs) _ e λ p a e. steps (elements f n p.1) _ e λ q b e.
    g p.0 p.1 q.0 a (rw (sub-one (suc n)) (b ∙ ap (λ y. Some (q.0, y)) (ap (λ p. p.1) (just e)))) (sym (ap (λ p. p.0) (just e)))

pub elements_none : (f : List ℕ → Option (Datainfo × List ℕ)) (n : ℕ) (xs : List ℕ) {ds : Elements} {x : List ℕ} → n ≡ 0 → elements f n xs ≡ Some (ds, x) → ds ≡ no_elements
unfolding elements
elements_none f n xs z e = sym (ap (λ p. p.0) (just (rw z at e)))

pub tuple_some : {S : Type 0} (f : List ℕ → Option (Datainfo × List ℕ)) (xs : List ℕ) {o : Datainfo} {x : List ℕ} → tuple_at f xs ≡ Some (o, x)
    → ((n : ℕ) (r : List ℕ) (ds : Elements) → unsigned 1 xs ≡ Some (n, r) → elements f n r ≡ Some (ds, x) → o ≡ tuple ds → S) → S
unfolding tuple_at
tuple_some f xs e g = steps (unsigned 1 xs) _ e λ p a e. steps (elements f p.0 p.1) _ e λ q b e.
    g p.0 p.1 q.0 a (b ∙ ap (λ y. Some (q.0, y)) (ap (λ p. p.1) (just e))) (sym (ap (λ p. p.0) (just e)))

-- a value j for a tuple o: elements are left from a position on, and items where a walk stands, after those whose worst verdict is w
pub record ElementsLeft (o : Datainfo) (j : Json) (levels : ℕ) (s : List ℕ) (d : ℕ) (v : List ℕ) (w : Fit.Verdict) (at left : ℕ) (item : Option ℕ) : Type 0 where
  pub ds : Elements
  pub x : List ℕ
  pub reads : elements (datainfo_in levels) left (drop at s) ≡ Some (ds, x)
  pub n : ℕ
  pub is : Items
  pub still : ItemsAt d v n is item
  pub fits : fit o j ≡ worse w (elements_fit ds is)

pub record TupleAt (s : List ℕ) (at levels : ℕ) (v : List ℕ) (p depth : ℕ) (worst : Result Unit Misfit) (element left : ℕ) (item : Option ℕ) : Type 0 where
  pub from : {o : Datainfo} {x : List ℕ} {j : Json} {y : List ℕ} → tuple_at (datainfo_in levels) (drop at s) ≡ Some (o, x) → bare depth (drop p v) ≡ Some (j, y)
      → ElementsLeft o j levels s (depth - 1) v (meaning worst) element left item

module _ (s : List ℕ) (at levels : ℕ) (v : List ℕ) (p depth : ℕ) where
  tuple_wrong : ((0 < depth) × (head (drop p v) ≡ 91) → ⊥) → Judges (tuple_at (datainfo_in levels) (drop at s)) (bare depth (drop p v)) (Err WrongType)
  unfolding fit expect
  tuple_wrong h = record { is = λ e f. tuple_some (datainfo_in levels) (drop at s) e λ n r ds a b o. rw (o, tells_no (as_array_lem (shape depth (drop p v) f)) h) }

  pub tuple_shallow : depth ≡ 0 → Judges (tuple_at (datainfo_in levels) (drop at s)) (bare depth (drop p v)) (Err WrongType)
  tuple_shallow e = tuple_wrong λ h. omega arith

  module _ (b : ℕ) (x : ByteAt v p b) where
    pub tuple_other : (b ≡ 91 → ⊥) → Judges (tuple_at (datainfo_in levels) (drop at s)) (bare depth (drop p v)) (Err WrongType)
    tuple_other h = tuple_wrong λ g. h (x.is ∙ g.1)

    module _ (u : Option (ℕ × ℕ)) (k : ReadsValue s u (unsigned 1 (drop at s))) where
      pub tuple_short : u ≡ None → (r : Result Unit Misfit) → Judges (tuple_at (datainfo_in levels) (drop at s)) (bare depth (drop p v)) r
      tuple_short z r = record { is = λ e f. tuple_some (datainfo_in levels) (drop at s) e λ n y ds a b o. absurd (nothing (sym (rw z at k) ∙ a)) }

      pub tuple_first : (depth ≡ 0 → ⊥) → b ≡ 91 → (n i : ℕ) → u ≡ Some (n, i) → (item : Option ℕ) → Ends v item (first 93 (drop (p + 1) v)) → TupleAt s at levels v p depth (Ok tt) i n item
      unfolding fit expect
      tuple_first h g n i z m f = record {
        from = λ e c. tuple_some (datainfo_in levels) (drop at s) e λ n' r ds a b o.
            tells_yes (as_array_lem (shape depth (drop p v) c)) (omega arith, sym x.is ∙ g) λ is t row. record {
              ds = ds;
              x = _;
              reads = rw (same_read a (rw z at k).0, same_left a (rw z at k).0) at b;
              n = length v - p;
              is = is;
              still = items_first (depth - 1) v (p + 1) (length v - p) m (omega arith) (rw tail_drop at row) f;
              fits = rw (o, t, worse_fits);
            };
      }

-- one element and one item more, by a verdict r on them
tuple_step : (w r t : Fit.Verdict) (ds es : Elements) (d : Datainfo) (is js : Items) (j : Json) → ds ≡ element d es → is ≡ item j js → r ≡ fit d j → t ≡ worse w r
    → worse w (elements_fit ds is) ≡ worse t (elements_fit es js)
unfolding elements_fit
tuple_step w r t ds es d is js j a e f g = rw (a, e, g, f, worse_worse w (fit d j) (elements_fit es js))

tuple_less : (ds es : Elements) (d : Datainfo) (is : Items) → ds ≡ element d es → is ≡ no_items → elements_fit ds is ≡ wrongType
unfolding elements_fit
tuple_less ds es d is a e = rw (a, e)

tuple_extra : (ds : Elements) (is js : Items) (j : Json) → ds ≡ no_elements → is ≡ item j js → elements_fit ds is ≡ wrongType
unfolding elements_fit
tuple_extra ds is js j a e = rw (a, e)

tuple_end : (w : Fit.Verdict) (ds : Elements) (is : Items) → ds ≡ no_elements → is ≡ no_items → worse w (elements_fit ds is) ≡ w
unfolding elements_fit
tuple_end w ds is a e = rw (a, e) (fits_worse w)

module _ (s : List ℕ) (at levels : ℕ) (v : List ℕ) (p depth : ℕ) (worst : Result Unit Misfit) (element left : ℕ) (item : Option ℕ) (c : TupleAt s at levels v p depth worst element left item) where
  pub tuple_few : 0 < left → item ≡ None → (t : Result Unit Misfit) → meaning t ≡ worse (meaning worst) wrongType → Judges (tuple_at (datainfo_in levels) (drop at s)) (bare depth (drop p v)) t
  tuple_few h z t g = record {
    is = λ e f. let q = c.from e f in elements_some (datainfo_in levels) left (drop element s) h q.reads λ d r es a b w.
        g ∙ rw (← (tuple_less q.ds es d q.is w (items_none q.still z))) (sym q.fits);
  }

  pub tuple_over : left ≤ 0 → item ≡ None → Judges (tuple_at (datainfo_in levels) (drop at s)) (bare depth (drop p v)) worst
  tuple_over h z = record {
    is = λ e f. let q = c.from e f in
        sym (q.fits ∙ tuple_end (meaning worst) q.ds q.is (elements_none (datainfo_in levels) left (drop element s) (omega arith) q.reads) (items_none q.still z));
  }

  pub tuple_many : left ≤ 0 → (i : ℕ) → item ≡ Some i → (t : Result Unit Misfit) → meaning t ≡ worse (meaning worst) wrongType → Judges (tuple_at (datainfo_in levels) (drop at s)) (bare depth (drop p v)) t
  tuple_many h i z t g = record {
    is = λ e f. let q = c.from e f in items_some q.still z λ j js w.
        g ∙ rw (← (tuple_extra q.ds q.is js j (elements_none (datainfo_in levels) left (drop element s) (omega arith) q.reads) w)) (sym q.fits);
  }

  module _ (h : 0 < left) (e : Option ℕ) (k : Ends s e (rest (datainfo_in levels (drop element s)))) where
    pub tuple_bad : e ≡ None → (r : Result Unit Misfit) → Judges (tuple_at (datainfo_in levels) (drop at s)) (bare depth (drop p v)) r
    tuple_bad z r = record {
      is = λ e f. let q = c.from e f in elements_some (datainfo_in levels) left (drop element s) h q.reads λ d y es a b w.
          absurd (nothing (sym (rw z at k) ∙ ap rest a));
    }

    pub tuple_more : (i f n : ℕ) (r w : Result Unit Misfit) (next : Option ℕ) → item ≡ Some i → e ≡ Some n → Left v f (skip (drop i v)) → Judges (datainfo_in levels (drop element s)) (bare (depth - 1) (drop f v)) r
        → meaning w ≡ worse (meaning worst) (meaning r) → Ends v next (after_item (depth - 1) (drop i v)) → TupleAt s at levels v p depth w n (left - 1) next
    tuple_more i f n r w next z o l g m t = record {
      from = λ a b.
          let q = c.from a b in
          let st = items_next (depth - 1) v q.n i next q.still z t in
          elements_some (datainfo_in levels) left (drop element s) h q.reads λ d y es a' b' u.
          unspaced (depth - 1) (drop i v) st.reads λ z' b. record {
            ds = es;
            x = q.x;
            reads = rw (just (sym (ap rest a') ∙ (rw o at k).0)) at b';
            n = q.n - 1;
            is = st.js;
            still = st.left;
            fits = q.fits ∙ tuple_step (meaning worst) (meaning r) (meaning w) q.ds es d q.is st.js st.j u st.whole (g.is a' (rw l.is at b)) m;
          };
    }
