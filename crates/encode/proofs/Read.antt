-- A datainfo that is read was written so: the bytes that it is read from are its encoding. Assumes nothing.
use Rattle.std.specs.Prelude.{Option, Some}
use Prim.Native.Nat.{ℕ, zero, suc, ◌≤◌}
use native.Mathlib.Omega.{arith}
use mathlib.Core.Path.{◌≡◌, refl, sym, ap, ap₂, ◌∙◌}
use mathlib.Core.Bool.{Bool, true, false, cond, not, ◌&&◌, false≢true}
use mathlib.Core.List.{List, [], ◌∷◌, ◌++◌}
use lib.ListN.{length}
use lib.Pow.{are_bytes}
use borrow.Author.Tests.{not-true}
use Rattle.ascii.specs.Bytes.{all, any, same}
use Rattle.ascii.specs.Names.{distinct, is_name}
use Rattle.ascii.specs.Numbers.{unsigned, signed}
use Rattle.ascii.proofs.Lists.{both, neither, same_self, same_is}
use Rattle.decimal.specs.Decimal.{Decimal}
use Rattle.datainfo.specs.Datainfo.{Variant, Datainfo, bool, Elements, Fields, field, element_count, field_names, Parts}
use Rattle.datainfo.specs.Layout.{counted, limit, double_at, int_at, variants, enum_at, string_at, scaled_at, blob_at, flag, flagged, entry, joined, array_at}
use Rattle.datainfo.specs.Layout.{elements, tuple_at, fields, struct_at, partial_at, typed, datainfo_in}
use Rattle.datainfo.specs.Rules.{good_names, names_good, elements_names_good, fields_names_good}
use Rattle.fit.proofs.Shapes.{nothing, just, either, steps}
use Rattle.form.proofs.Exchange.{good_distinct}
use Rattle.encode.specs.Encode.{flag_byte, text_bytes, limit_bytes, variants_bytes, is_next, after_next, datainfo_bytes, elements_bytes, fields_bytes}
use Rattle.encode.specs.Encode.{flagged_bytes}
use Rattle.encode.specs.Fits.{text_fits, signed_fits, limit_fits, in_order, levels, elements_levels, fields_levels, numbers_fit, elements_fit, fields_fit}
use Rattle.encode.proofs.Numbers.{Got, chain, along, counts, unsigned_from, signed_from, byte_from, text_from, flag_from}

-- what was read and what is left
pub parts : {A : Type 0} {p q : A × List ℕ} → Some p ≡ Some q → (p.0 ≡ q.0) × (p.1 ≡ q.1)
parts e = let z = just e in (ap (λ p. p.0) z, ap (λ p. p.1) z)

-- ## Limits and numbers

limit_from : (a : Decimal) (xs r : List ℕ) → are_bytes xs ≡ true → limit xs ≡ Some (a, r) → Got (limit_bytes a) (limit_fits a) xs r
unfolding limit limit_bytes limit_fits
limit_from a xs r h e =
    steps (signed 8 xs) _ e
    (λ p q f. let s = signed_from 8 p.0 xs p.1 (omega arith) h q in
    steps (signed 1 p.1) _ f
    (λ u v g. let t = signed_from 1 u.0 p.1 u.1 (omega arith) s.left v in
    let z = parts g in
    rw (← z.0, ← z.1) (record { is = chain s.is t.is; fits = s.fits; left = t.left })))

-- ## Plain types: xs is what follows the type byte

-- the datainfo d, of at most n levels, in front of r
pub record Came (n : ℕ) (d : Datainfo) (xs r : List ℕ) : Type 0 where
  pub deep : levels d ≤ n
  pub got : Got (datainfo_bytes d) (numbers_fit d) xs r

-- no bytes
pub nothing_read : {xs : List ℕ} → are_bytes xs ≡ true → Got [] true xs xs
nothing_read h = record { is = record { whole = refl }; fits = refl; left = h }

-- the same bytes otherwise said; a test more
rewritten : {e f xs r : List ℕ} {p : Bool} → f ≡ e → Got e p xs r → Got f p xs r
rewritten i g = rw i g

ordered : {e xs r : List ℕ} {p q : Bool} → q ≡ true → Got e p xs r → Got e (q && p) xs r
ordered i g = rw i g

-- a name, which asks for no room, and what follows it
member : {k e x y z r f : List ℕ} {p q s : Bool} → Got k s x y → Got e p y z → Got f q z r → Got ((k ++ e) ++ f) (p && q) x r
member k s t = record { is = chain (chain k.is s.is) t.is; fits = ap₂ ◌&&◌ s.fits t.fits; left = t.left }

-- after the type byte k
came : {n : ℕ} {d : Datainfo} {e xs r : List ℕ} {p : Bool} (k : ℕ) → Got e p xs r → datainfo_bytes d ≡ k ∷ e → numbers_fit d ≡ p → levels d ≤ n
    → Came n d (k ∷ xs) r
came {r = r} k g b f l =
    record {
      deep = l;
      got = record {
        is = record { whole = ap (λ (u : List ℕ). k ∷ u) g.is.whole ∙ ap (λ (u : List ℕ). u ++ r) (sym b) };
        fits = f ∙ g.fits;
        left = g.left;
      };
    }

module _ (n : ℕ) (d : Datainfo) (xs r : List ℕ) (h : are_bytes xs ≡ true) where
  double_from : double_at xs ≡ Some (d, r) → Came (suc n) d (1 ∷ xs) r
  unfolding double_at datainfo_bytes numbers_fit levels
  double_from e =
      steps (limit xs) _ e
      (λ p q f. let s = limit_from p.0 xs p.1 h q in
      steps (limit p.1) _ f
      (λ u v g. let t = limit_from u.0 p.1 u.1 s.left v in
      let z = parts g in
      rw (← z.0, ← z.1)
      (came 1 (along s t) refl refl (omega arith))))

  int_from : int_at xs ≡ Some (d, r) → Came (suc n) d (2 ∷ xs) r
  unfolding int_at datainfo_bytes numbers_fit levels
  int_from e =
      steps (signed 8 xs) _ e
      (λ p q f. let s = signed_from 8 p.0 xs p.1 (omega arith) h q in
      steps (signed 8 p.1) _ f
      (λ u v g. let t = signed_from 8 u.0 p.1 u.1 (omega arith) s.left v in
      let z = parts g in
      rw (← z.0, ← z.1)
      (came 2 (along s t) refl refl (omega arith))))

  bool_from : ◌≡◌ {A = Option (Datainfo × List ℕ)} (Some (bool, xs)) (Some (d, r)) → Came (suc n) d (3 ∷ xs) r
  unfolding datainfo_bytes numbers_fit levels
  bool_from e = let z = parts e in rw (← z.0, ← z.1) (came 3 (nothing_read h) refl refl (omega arith))

  string_from : string_at xs ≡ Some (d, r) → Came (suc n) d (5 ∷ xs) r
  unfolding string_at datainfo_bytes numbers_fit levels
  string_from e =
      steps (unsigned 2 xs) _ e
      (λ p q f. let s = unsigned_from 2 p.0 xs p.1 h q in
      steps (unsigned 2 p.1) _ f
      (λ u v g. let t = unsigned_from 2 u.0 p.1 u.1 s.left v in
      let z = parts g in
      rw (← z.0, ← z.1)
      (came 5 (along s t) refl refl (omega arith))))

  blob_from : blob_at xs ≡ Some (d, r) → Came (suc n) d (10 ∷ xs) r
  unfolding blob_at datainfo_bytes numbers_fit levels
  blob_from e =
      steps (unsigned 2 xs) _ e
      (λ p q f. let s = unsigned_from 2 p.0 xs p.1 h q in
      steps (unsigned 2 p.1) _ f
      (λ u v g. let t = unsigned_from 2 u.0 p.1 u.1 s.left v in
      let z = parts g in
      rw (← z.0, ← z.1)
      (came 10 (along s t) refl refl (omega arith))))

  scaled_from : scaled_at xs ≡ Some (d, r) → Came (suc n) d (9 ∷ xs) r
  unfolding scaled_at datainfo_bytes numbers_fit levels
  scaled_from e =
      steps (limit xs) _ e
      (λ o i j. let l = limit_from o.0 xs o.1 h i in
      steps (signed 8 o.1) _ j
      (λ p q f. let s = signed_from 8 p.0 o.1 p.1 (omega arith) l.left q in
      steps (signed 8 p.1) _ f
      (λ u v g. let t = signed_from 8 u.0 p.1 u.1 (omega arith) s.left v in
      let z = parts g in
      rw (← z.0, ← z.1)
      (came 9 (along (along l s) t) refl refl (omega arith)))))

-- ## Enums

abbrev is_wide : Variant → Bool
is_wide v = signed_fits 4 v.number

record CameVariants (n : ℕ) (vs : List Variant) (xs r : List ℕ) : Type 0 where
  count : length vs ≡ n
  got : Got (variants_bytes vs) (all is_wide vs) xs r

variants_from_lem : (n : ℕ) (vs : List Variant) (xs r : List ℕ) → are_bytes xs ≡ true → variants n xs ≡ Some (vs, r) → CameVariants n vs xs r
unfolding variants variants_bytes all
variants_from_lem zero vs xs r h e = let z = parts e in rw (← z.0, ← z.1) (record { count = refl; got = nothing_read h })
variants_from_lem (suc n) vs xs r h e =
    steps (counted xs) _ e
    (λ o i j. let k = text_from o.0 xs o.1 h i in
    steps (signed 4 o.1) _ j
    (λ p q f. let s = signed_from 4 p.0 o.1 p.1 (omega arith) k.left q in
    steps (variants n p.1) _ f
    (λ u v g. let t = variants_from_lem n u.0 p.1 u.1 s.left v in
    let z = parts g in
    rw (← z.0, ← z.1)
    (record { count = ap suc t.count; got = member k s t.got }))))

enum_from : (n : ℕ) (d : Datainfo) (xs r : List ℕ) → are_bytes xs ≡ true → enum_at xs ≡ Some (d, r) → Came (suc n) d (4 ∷ xs) r
unfolding enum_at datainfo_bytes numbers_fit levels
enum_from n d xs r h e =
    steps (unsigned 1 xs) _ e
    (λ p q f. let b = byte_from p.0 xs p.1 h q in
    steps (variants p.0 p.1) _ f
    (λ u v g. let t = variants_from_lem p.0 u.0 p.1 u.1 b.left v in
    let z = parts g in
    rw (← z.0, ← z.1)
    (came 4 (counts b t.count t.got) refl refl (omega arith))))

-- ## The optional names

-- a name that no member has is not the next of the optional ones
not_next : (k : List ℕ) (ks ns : List (List ℕ)) → in_order ks ns ≡ true → any (same k) ks ≡ false → is_next k ns ≡ false
unfolding in_order is_next after_next any
not_next k [] [] h a = refl
not_next k [] (n ∷ ns) h a = absurd (false≢true h)
not_next k (j ∷ ks) [] h a = refl
not_next k (j ∷ ks) (n ∷ ns) h a = let p = neither (same k j) (any (same k) ks) a in go (same j n) refl p.0 h (λ i. not_next k ks (n ∷ ns) i p.1)
  where
    go : (b : Bool) → same j n ≡ b → same k j ≡ false → in_order ks (cond b ns (n ∷ ns)) ≡ true
        → (in_order ks (n ∷ ns) ≡ true → same k n ≡ false) → same k n ≡ false
    go true q s i f = rw (← (same_is j n q)) s
    go false q s i f = f i

-- one more member, optional or not, whose name no other has
next_kept : (b : Bool) (k : List ℕ) (ns : List (List ℕ)) → is_next k ns ≡ false
    → (is_next k (cond b (k ∷ ns) ns) ≡ b) × (after_next k (cond b (k ∷ ns) ns) ≡ ns)
unfolding is_next after_next
next_kept true k ns h = (same_self k, rw (same_self k))
next_kept false k ns h = (h, rw h)

flag_field : (b : Bool) (k : List ℕ) (ns : List (List ℕ)) (d : Datainfo) (fs : Fields) → is_next k ns ≡ false
    → flagged_bytes (cond b (k ∷ ns) ns) (field k d fs) ≡ flag_byte b ∷ ((text_bytes k ++ datainfo_bytes d) ++ flagged_bytes ns fs)
unfolding datainfo_bytes
flag_field b k ns d fs h =
    let z = next_kept b k ns h in
    ap₂ (λ (c : Bool) (ms : List (List ℕ)). flag_byte c ∷ ((text_bytes k ++ datainfo_bytes d) ++ flagged_bytes ms fs)) z.0 z.1

order_field : (b : Bool) (k : List ℕ) (ks ns : List (List ℕ)) → is_next k ns ≡ false → in_order ks ns ≡ true → in_order (k ∷ ks) (cond b (k ∷ ns) ns) ≡ true
unfolding in_order
order_field b k ks ns h o = ap (in_order ks) (next_kept b k ns h).1 ∙ o

-- ## Types with datainfos inside, read by f, of at most n levels

module _ (n : ℕ) (f : List ℕ → Option (Datainfo × List ℕ))
    (inner : (d : Datainfo) (xs r : List ℕ) → are_bytes xs ≡ true → f xs ≡ Some (d, r) → names_good d ≡ true → Came n d xs r) where
  array_from : (d : Datainfo) (xs r : List ℕ) → are_bytes xs ≡ true → array_at f xs ≡ Some (d, r) → names_good d ≡ true → Came (suc n) d (6 ∷ xs) r
  unfolding array_at datainfo_bytes numbers_fit levels names_good
  array_from d xs r h e m =
      steps (unsigned 2 xs) _ e
      (λ o i j. let l = unsigned_from 2 o.0 xs o.1 h i in
      steps (unsigned 2 o.1) _ j
      (λ p q g. let s = unsigned_from 2 p.0 o.1 p.1 l.left q in
      steps (f p.1) _ g
      (λ u v w. let z = parts w in
      let t = inner u.0 p.1 u.1 s.left v (rw (← z.0) at m) in
      rw (← z.0, ← z.1)
      (came 6 (along (along l s) t.got) refl refl (omega (arith, t.deep))))))

  record CameElements (k : ℕ) (ds : Elements) (xs r : List ℕ) : Type 0 where
    count : element_count ds ≡ k
    deep : elements_levels ds ≤ n
    got : Got (elements_bytes ds) (elements_fit ds) xs r

  elements_from_lem : (k : ℕ) (ds : Elements) (xs r : List ℕ) → are_bytes xs ≡ true → elements f k xs ≡ Some (ds, r) → elements_names_good ds ≡ true
      → CameElements k ds xs r
  unfolding elements datainfo_bytes numbers_fit levels names_good element_count
  elements_from_lem zero ds xs r h e m =
      let z = parts e in
      rw (← z.0, ← z.1) (record { count = refl; deep = omega arith; got = nothing_read h })
  elements_from_lem (suc k) ds xs r h e m =
      steps (f xs) _ e
      (λ p q g. steps (elements f k p.1) _ g
      (λ u v w. let z = parts w in
      let i = both (names_good p.0) (elements_names_good u.0) (rw (← z.0) at m) in
      let s = inner p.0 xs p.1 h q i.0 in
      let t = elements_from_lem k u.0 p.1 u.1 s.got.left v i.1 in
      rw (← z.0, ← z.1)
      (record { count = ap suc t.count; deep = omega (arith, s.deep, t.deep); got = along s.got t.got })))

  tuple_from : (d : Datainfo) (xs r : List ℕ) → are_bytes xs ≡ true → tuple_at f xs ≡ Some (d, r) → names_good d ≡ true → Came (suc n) d (7 ∷ xs) r
  unfolding tuple_at datainfo_bytes numbers_fit levels names_good
  tuple_from d xs r h e m =
      steps (unsigned 1 xs) _ e
      (λ p q g. let b = byte_from p.0 xs p.1 h q in
      steps (elements f p.0 p.1) _ g
      (λ u v w. let z = parts w in
      let t = elements_from_lem p.0 u.0 p.1 u.1 b.left v (rw (← z.0) at m) in
      rw (← z.0, ← z.1)
      (came 7 (counts b t.count t.got) refl refl (omega (arith, t.deep)))))

  record CameFields (k : ℕ) (fs : Fields) (xs r : List ℕ) : Type 0 where
    count : length (field_names fs) ≡ k
    deep : fields_levels fs ≤ n
    got : Got (fields_bytes fs) (fields_fit fs) xs r

  fields_from_lem : (k : ℕ) (m : Parts) (xs r : List ℕ) → are_bytes xs ≡ true → fields f 8 k xs ≡ Some (m, r) → fields_names_good m.1 ≡ true
      → CameFields k m.1 xs r
  unfolding fields entry flagged joined datainfo_bytes numbers_fit levels names_good field_names
  fields_from_lem zero m xs r h e g =
      let z = parts e in
      rw (← z.0, ← z.1) (record { count = refl; deep = omega arith; got = nothing_read h })
  fields_from_lem (suc k) m xs r h e g =
      steps (entry 8 xs) _ e
      (λ o i j. steps (counted xs) _ i
      (λ b c l. let y = parts l in
      let a = text_from b.0 xs b.1 h c in
      let cont = steps (f o.1) _ j in
      cont
      (λ p q w. steps (fields f 8 k p.1) _ w
      (λ u v x. let z = parts x in
      let good = both (names_good p.0) (fields_names_good u.0.1) (rw (← z.0) at g) in
      let s = inner p.0 b.1 p.1 a.left (rw (← y.1) at q) good.0 in
      let t = fields_from_lem k u.0 p.1 u.1 s.got.left v good.1 in
      let name : o.0.1 ≡ b.0 = ap (λ (w : Bool × List ℕ). w.1) (sym y.0) in
      rw (← z.0, ← z.1, name)
      (record { count = ap suc t.count; deep = omega (arith, s.deep, t.deep); got = member a s.got t.got })))))

  struct_from : (d : Datainfo) (xs r : List ℕ) → are_bytes xs ≡ true → struct_at f xs ≡ Some (d, r) → names_good d ≡ true → Came (suc n) d (8 ∷ xs) r
  unfolding struct_at datainfo_bytes numbers_fit levels names_good
  struct_from d xs r h e m =
      steps (unsigned 1 xs) _ e
      (λ p q g. let b = byte_from p.0 xs p.1 h q in
      steps (fields f 8 p.0 p.1) _ g
      (λ u v w. let z = parts w in
      let good = both (good_names (field_names u.0.1)) (fields_names_good u.0.1) (rw (← z.0) at m) in
      let t = fields_from_lem p.0 u.0 p.1 u.1 b.left v good.1 in
      rw (← z.0, ← z.1)
      (came 8 (counts b t.count t.got) refl refl (omega (arith, t.deep)))))

  -- with a flag before each name
  entry_from : (o : Bool × List ℕ) (xs r : List ℕ) → are_bytes xs ≡ true → entry 11 xs ≡ Some (o, r)
      → Got ((flag_byte o.0 ∷ []) ++ text_bytes o.1) (text_fits o.1) xs r
  unfolding entry flagged
  entry_from o xs r h e =
      steps (flag xs) _ e
      (λ p q g. let a = flag_from p.0 xs p.1 h q in
      steps (counted p.1) _ g
      (λ u v w. let b = text_from u.0 p.1 u.1 a.left v in
      let z = parts w in
      rw (← z.0, ← z.1) (along a b)))

  record CameFlagged (k : ℕ) (m : Parts) (xs r : List ℕ) : Type 0 where
    count : length (field_names m.1) ≡ k
    order : in_order (field_names m.1) m.0 ≡ true
    deep : fields_levels m.1 ≤ n
    got : Got (flagged_bytes m.0 m.1) (fields_fit m.1) xs r

  flagged_from : (k : ℕ) (m : Parts) (xs r : List ℕ) → are_bytes xs ≡ true → fields f 11 k xs ≡ Some (m, r) → fields_names_good m.1 ≡ true
      → distinct (field_names m.1) ≡ true → CameFlagged k m xs r
  unfolding fields joined datainfo_bytes numbers_fit levels names_good field_names distinct in_order
  flagged_from zero m xs r h e g c =
      let z = parts e in
      rw (← z.0, ← z.1) (record { count = refl; order = refl; deep = omega arith; got = nothing_read h })
  flagged_from (suc k) m xs r h e g c =
      steps (entry 11 xs) _ e
      (λ o i j. let a = entry_from o.0 xs o.1 h i in
      steps (f o.1) _ j
      (λ p q w. steps (fields f 11 k p.1) _ w
      (λ u v x. let z = parts x in
      let good = both (names_good p.0) (fields_names_good u.0.1) (rw (← z.0) at g) in
      let one = both (not (any (same o.0.1) (field_names u.0.1))) (distinct (field_names u.0.1)) (rw (← z.0) at c) in
      let s = inner p.0 o.1 p.1 a.left q good.0 in
      let t = flagged_from k u.0 p.1 u.1 s.got.left v good.1 one.1 in
      let other = not_next o.0.1 (field_names u.0.1) u.0.0 t.order (not-true _ one.0) in
      let same_bytes = flag_field o.0.0 o.0.1 u.0.0 p.0 u.0.1 other in
      rw (← z.0, ← z.1)
      (record {
        count = ap suc t.count;
        order = order_field o.0.0 o.0.1 (field_names u.0.1) u.0.0 other t.order;
        deep = omega (arith, s.deep, t.deep);
        got = rewritten same_bytes (member a s.got t.got);
      }))))

  partial_from : (d : Datainfo) (xs r : List ℕ) → are_bytes xs ≡ true → partial_at f xs ≡ Some (d, r) → names_good d ≡ true → Came (suc n) d (11 ∷ xs) r
  unfolding partial_at datainfo_bytes numbers_fit levels names_good
  partial_from d xs r h e m =
      steps (unsigned 1 xs) _ e
      (λ p q g. let b = byte_from p.0 xs p.1 h q in
      steps (fields f 11 p.0 p.1) _ g
      (λ u v w. let z = parts w in
      let fs = u.0.1 in
      let good = both (good_names (field_names fs) && all is_name u.0.0) (fields_names_good fs) (rw (← z.0) at m) in
      let names = good_distinct (field_names fs) (both (good_names (field_names fs)) (all is_name u.0.0) good.0).0 in
      let t = flagged_from p.0 u.0 p.1 u.1 b.left v good.1 names in
      rw (← z.0, ← z.1)
      (came 11 (counts b t.count (ordered t.order t.got)) refl refl (omega (arith, t.deep)))))

  -- ## Any type: k is the type byte

  typed_from : (k : ℕ) (d : Datainfo) (xs r : List ℕ) → are_bytes xs ≡ true → typed f k xs ≡ Some (d, r) → names_good d ≡ true → Came (suc n) d (k ∷ xs) r
  unfolding typed
  typed_from k d xs r h e m =
      either k 1 _ _ e (λ q g. rw q (double_from n d xs r h g))
      (λ o1 e1. either k 2 _ _ e1 (λ q g. rw q (int_from n d xs r h g))
      (λ o2 e2. either k 3 _ _ e2 (λ q g. rw q (bool_from n d xs r h g))
      (λ o3 e3. either k 4 _ _ e3 (λ q g. rw q (enum_from n d xs r h g))
      (λ o4 e4. either k 5 _ _ e4 (λ q g. rw q (string_from n d xs r h g))
      (λ o5 e5. either k 6 _ _ e5 (λ q g. rw q (array_from d xs r h g m))
      (λ o6 e6. either k 7 _ _ e6 (λ q g. rw q (tuple_from d xs r h g m))
      (λ o7 e7. either k 8 _ _ e7 (λ q g. rw q (struct_from d xs r h g m))
      (λ o8 e8. either k 9 _ _ e8 (λ q g. rw q (scaled_from n d xs r h g))
      (λ o9 e9. either k 10 _ _ e9 (λ q g. rw q (blob_from n d xs r h g))
      (λ o10 e10. either k 11 _ _ e10 (λ q g. rw q (partial_from d xs r h g m))
      (λ o11 e11. absurd (nothing e11))))))))))))

pub datainfo_from : (n : ℕ) (d : Datainfo) (xs r : List ℕ) → are_bytes xs ≡ true → datainfo_in n xs ≡ Some (d, r) → names_good d ≡ true → Came n d xs r
unfolding datainfo_in
datainfo_from zero d xs r h e m = absurd (nothing e)
datainfo_from (suc n) d xs r h e m =
    steps (unsigned 1 xs) _ e
    (λ p q g. let b = byte_from p.0 xs p.1 h q in
    rw b.is (typed_from n (datainfo_in n) (λ d xs r h e m. datainfo_from n d xs r h e m) p.0 d p.1 r b.left g m))
