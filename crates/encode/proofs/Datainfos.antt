-- A datainfo that is written is read. Assumes nothing.
use Rattle.std.specs.Prelude.{Option, Some}
use Prim.Native.Nat.{ℕ, zero, suc, ◌≤◌}
use native.Mathlib.Omega.{arith}
use mathlib.Core.Path.{◌≡◌, refl, ◌∙◌}
use mathlib.Core.Bool.{Bool, true, false, cond, ◌&&◌, false≢true}
use mathlib.Core.List.{List, [], ◌∷◌, ◌++◌, append_assoc}
use lib.Dec.{leb}
use lib.IntN.{ℤ, pos, negsuc}
use lib.ListN.{length}
use lib.Signed.{le_z}
use borrow.Author.Tests.{leb-true, lt-ltb, ltb-true}
use Rattle.ascii.specs.Bytes.{all, same}
use Rattle.ascii.specs.Numbers.{unsigned}
use Rattle.ascii.proofs.Lists.{both, all_parts, same_is}
use Rattle.decimal.specs.Decimal.{Decimal, at_most}
use Rattle.datainfo.specs.Datainfo.{Variant, Datainfo, double, int, bool, enum, string, array, tuple, struct, scaled, blob, partial, Elements, no_elements}
use Rattle.datainfo.specs.Datainfo.{element, Fields, no_fields, field, element_count, field_names}
use Rattle.datainfo.specs.Layout.{limit, double_at, int_at, variants, enum_at, string_at, scaled_at, blob_at, flagged, entry, joined, array_at, elements, tuple_at}
use Rattle.datainfo.specs.Layout.{fields, struct_at, partial_at, typed, datainfo_in}
use Rattle.datainfo.specs.Rules.{power_good, scale_good, is_between, rules_kept, elements_rules_kept, fields_rules_kept}
use Rattle.encode.specs.Encode.{unsigned_bytes, signed_bytes, flag_byte, text_bytes, limit_bytes, variants_bytes, is_next, after_next, datainfo_bytes}
use Rattle.encode.specs.Encode.{elements_bytes, fields_bytes, flagged_bytes}
use Rattle.encode.specs.Fits.{unsigned_fits, signed_fits, limit_fits, in_order, levels, elements_levels, fields_levels, numbers_fit, elements_fit, fields_fit}
use Rattle.encode.proofs.Numbers.{unsigned_back, signed_back, byte_back, text_back, flag_back}

-- ## Limits

-- "power of ten from -30 to 30": it is an i8
pub power_fits : (a : Decimal) → power_good a ≡ true → signed_fits 1 a.power ≡ true
unfolding power_good signed_fits
power_fits a h = go a.power h
  where
    go : (p : ℤ) → (le_z (negsuc 29) p && le_z p (pos 30)) ≡ true → signed_fits 1 p ≡ true
    go (pos n) e = let l = leb-true n 30 (both (le_z (negsuc 29) (pos n)) (le_z (pos n) (pos 30)) e).1 in lt-ltb n 128 (omega arith)
    go (negsuc n) e = let l = leb-true n 29 (both (le_z (negsuc 29) (negsuc n)) (le_z (negsuc n) (pos 30)) e).0 in lt-ltb n 128 (omega arith)

limit_back : (a : Decimal) (r : List ℕ) → limit_fits a ≡ true → power_good a ≡ true → limit (limit_bytes a ++ r) ≡ Some (a, r)
unfolding limit limit_bytes limit_fits
limit_back a r f p =
    rw (append_assoc, signed_back 8 a.whole (signed_bytes 1 a.power ++ r) (omega arith) f, signed_back 1 a.power r (omega arith) (power_fits a p))

two_back : (n : ℕ) (r : List ℕ) → unsigned_fits 2 n ≡ true → unsigned 2 (unsigned_bytes 2 n ++ r) ≡ Some (n, r)
unfolding unsigned_fits
two_back n r f = unsigned_back 2 n r (ltb-true n 65536 f)

-- ## Plain types, after the type byte

double_back : (lo hi : Decimal) (r : List ℕ) → limit_fits lo ≡ true → limit_fits hi ≡ true → power_good lo ≡ true → power_good hi ≡ true
    → double_at ((limit_bytes lo ++ limit_bytes hi) ++ r) ≡ Some (double lo hi, r)
unfolding double_at
double_back lo hi r f g p q = rw (append_assoc, limit_back lo (limit_bytes hi ++ r) f p, limit_back hi r g q)

int_back : (lo hi : ℤ) (r : List ℕ) → signed_fits 8 lo ≡ true → signed_fits 8 hi ≡ true
    → int_at ((signed_bytes 8 lo ++ signed_bytes 8 hi) ++ r) ≡ Some (int lo hi, r)
unfolding int_at
int_back lo hi r f g = rw (append_assoc, signed_back 8 lo (signed_bytes 8 hi ++ r) (omega arith) f, signed_back 8 hi r (omega arith) g)

string_back : (lo hi : ℕ) (r : List ℕ) → unsigned_fits 2 lo ≡ true → unsigned_fits 2 hi ≡ true
    → string_at ((unsigned_bytes 2 lo ++ unsigned_bytes 2 hi) ++ r) ≡ Some (string lo hi, r)
unfolding string_at
string_back lo hi r f g = rw (append_assoc, two_back lo (unsigned_bytes 2 hi ++ r) f, two_back hi r g)

blob_back : (lo hi : ℕ) (r : List ℕ) → unsigned_fits 2 lo ≡ true → unsigned_fits 2 hi ≡ true
    → blob_at ((unsigned_bytes 2 lo ++ unsigned_bytes 2 hi) ++ r) ≡ Some (blob lo hi, r)
unfolding blob_at
blob_back lo hi r f g = rw (append_assoc, two_back lo (unsigned_bytes 2 hi ++ r) f, two_back hi r g)

scaled_back : (s : Decimal) (lo hi : ℤ) (r : List ℕ) → limit_fits s ≡ true → power_good s ≡ true → signed_fits 8 lo ≡ true → signed_fits 8 hi ≡ true
    → scaled_at ((limit_bytes s ++ signed_bytes 8 lo ++ signed_bytes 8 hi) ++ r) ≡ Some (scaled s lo hi, r)
unfolding scaled_at
scaled_back s lo hi r f p g h =
    let y = signed_bytes 8 hi ++ r in
    let ends = signed_back 8 hi r (omega arith) h in
    simp append_assoc (rw (limit_back s (signed_bytes 8 lo ++ y) f p, signed_back 8 lo y (omega arith) g, ends))

variants_back : (vs : List Variant) (r : List ℕ) → all (λ (v : Variant). signed_fits 4 v.number) vs ≡ true
    → variants (length vs) (variants_bytes vs ++ r) ≡ Some (vs, r)
unfolding variants variants_bytes
variants_back [] r f = refl
variants_back (v ∷ vs) r f =
    let g = all_parts (λ (w : Variant). signed_fits 4 w.number) v vs f in
    let y = variants_bytes vs ++ r in
    let number = signed_back 4 v.number y (omega arith) g.0 in
    simp append_assoc (rw (text_back v.name (signed_bytes 4 v.number ++ y), number, variants_back vs r g.1))

enum_back : (vs : List Variant) (r : List ℕ) → all (λ (v : Variant). signed_fits 4 v.number) vs ≡ true
    → enum_at (length vs ∷ variants_bytes vs ++ r) ≡ Some (enum vs, r)
unfolding enum_at
enum_back vs r f = rw (byte_back (length vs) (variants_bytes vs ++ r), variants_back vs r f)

-- ## The optional names that are read are those that were written

next_again : (k : List ℕ) (ns : List (List ℕ)) → cond (is_next k ns) (k ∷ after_next k ns) (after_next k ns) ≡ ns
unfolding is_next after_next
next_again k [] = refl
next_again k (n ∷ ns) = go (same k n) refl
  where
    go : (b : Bool) → same k n ≡ b → cond b (k ∷ cond b ns (n ∷ ns)) (cond b ns (n ∷ ns)) ≡ n ∷ ns
    go true e = rw (same_is k n e)
    go false e = refl

no_names : (ns : List (List ℕ)) → in_order [] ns ≡ true → ns ≡ []
unfolding in_order
no_names [] h = refl
no_names (n ∷ ns) h = absurd (false≢true h)

-- a member's flag, name, and datainfo
entry_plain : (k r : List ℕ) → entry 8 (text_bytes k ++ r) ≡ Some ((false, k), r)
unfolding entry flagged
entry_plain k r = rw (text_back k r)

entry_flagged : (b : Bool) (k r : List ℕ) → entry 11 (flag_byte b ∷ text_bytes k ++ r) ≡ Some ((b, k), r)
unfolding entry flagged
entry_flagged b k r = rw (flag_back b (text_bytes k ++ r), text_back k r)

-- ## Types with datainfos inside, read by f: x and y are the bytes of what is inside

module _ (f : List ℕ → Option (Datainfo × List ℕ)) where
  array_back : (lo hi : ℕ) (d : Datainfo) (x r : List ℕ) → unsigned_fits 2 lo ≡ true → unsigned_fits 2 hi ≡ true → f (x ++ r) ≡ Some (d, r)
      → array_at f (((unsigned_bytes 2 lo ++ unsigned_bytes 2 hi) ++ x) ++ r) ≡ Some (array lo hi d, r)
  unfolding array_at
  array_back lo hi d x r g h e =
      simp append_assoc (rw (two_back lo (unsigned_bytes 2 hi ++ (x ++ r)) g, two_back hi (x ++ r) h, e))

  none_back : (r : List ℕ) → elements f 0 r ≡ Some (no_elements, r)
  unfolding elements
  none_back r = refl

  no_fields_back : (k : ℕ) (r : List ℕ) → fields f k 0 r ≡ Some (([], no_fields), r)
  unfolding fields
  no_fields_back k r = refl

  element_back : (n : ℕ) (d : Datainfo) (ds : Elements) (x y r : List ℕ) → f (x ++ (y ++ r)) ≡ Some (d, y ++ r) → elements f n (y ++ r) ≡ Some (ds, r)
      → elements f (suc n) ((x ++ y) ++ r) ≡ Some (element d ds, r)
  unfolding elements
  element_back n d ds x y r e g = rw (append_assoc, e, g)

  tuple_back : (n : ℕ) (ds : Elements) (x r : List ℕ) → elements f n (x ++ r) ≡ Some (ds, r) → tuple_at f (n ∷ x ++ r) ≡ Some (tuple ds, r)
  unfolding tuple_at
  tuple_back n ds x r e = rw (byte_back n (x ++ r), e)

  field_back : (n : ℕ) (k : List ℕ) (d : Datainfo) (fs : Fields) (x y r : List ℕ) → f (x ++ (y ++ r)) ≡ Some (d, y ++ r)
      → fields f 8 n (y ++ r) ≡ Some (([], fs), r) → fields f 8 (suc n) (((text_bytes k ++ x) ++ y) ++ r) ≡ Some (([], field k d fs), r)
  unfolding fields joined
  field_back n k d fs x y r e g = simp append_assoc (rw (entry_plain k (x ++ (y ++ r)), e, g))

  struct_back : (n : ℕ) (fs : Fields) (x r : List ℕ) → fields f 8 n (x ++ r) ≡ Some (([], fs), r) → struct_at f (n ∷ x ++ r) ≡ Some (struct fs, r)
  unfolding struct_at
  struct_back n fs x r e = rw (byte_back n (x ++ r), e)

  flag_field_back : (n : ℕ) (ns : List (List ℕ)) (k : List ℕ) (d : Datainfo) (fs : Fields) (x y r : List ℕ) → f (x ++ (y ++ r)) ≡ Some (d, y ++ r)
      → fields f 11 n (y ++ r) ≡ Some ((after_next k ns, fs), r)
      → fields f 11 (suc n) (flag_byte (is_next k ns) ∷ ((text_bytes k ++ x) ++ y) ++ r) ≡ Some ((ns, field k d fs), r)
  unfolding fields joined
  flag_field_back n ns k d fs x y r e g =
      simp append_assoc (rw (entry_flagged (is_next k ns) k (x ++ (y ++ r)), e, g, next_again k ns))

  partial_back : (n : ℕ) (ns : List (List ℕ)) (fs : Fields) (x r : List ℕ) → fields f 11 n (x ++ r) ≡ Some ((ns, fs), r)
      → partial_at f (n ∷ x ++ r) ≡ Some (partial ns fs, r)
  unfolding partial_at
  partial_back n ns fs x r e = rw (byte_back n (x ++ r), e)

-- ## Any type

-- the type byte
opened : (n k : ℕ) (xs : List ℕ) → datainfo_in (suc n) (k ∷ xs) ≡ typed (datainfo_in n) k xs
unfolding datainfo_in
opened n k xs = rw (byte_back k xs)

mutual
  unfolding numbers_fit rules_kept levels datainfo_bytes typed element_count field_names scale_good in_order

  pub datainfo_back : (d : Datainfo) (n : ℕ) (r : List ℕ) → numbers_fit d ≡ true → rules_kept d ≡ true → levels d ≤ n
      → datainfo_in n (datainfo_bytes d ++ r) ≡ Some (d, r)
  datainfo_back (double lo hi) zero r f k l = absurd (omega arith)
  datainfo_back (double lo hi) (suc n) r f k l =
      let g = both (limit_fits lo) (limit_fits hi) f in
      let p = both (power_good lo) (power_good hi) (both (power_good lo && power_good hi) (at_most lo hi) k).0 in
      opened n 1 _ ∙ double_back lo hi r g.0 g.1 p.0 p.1
  datainfo_back (int lo hi) zero r f k l = absurd (omega arith)
  datainfo_back (int lo hi) (suc n) r f k l = let g = both (signed_fits 8 lo) (signed_fits 8 hi) f in opened n 2 _ ∙ int_back lo hi r g.0 g.1
  datainfo_back bool zero r f k l = absurd (omega arith)
  datainfo_back bool (suc n) r f k l = opened n 3 r
  datainfo_back (enum vs) zero r f k l = absurd (omega arith)
  datainfo_back (enum vs) (suc n) r f k l = opened n 4 _ ∙ enum_back vs r f
  datainfo_back (string lo hi) zero r f k l = absurd (omega arith)
  datainfo_back (string lo hi) (suc n) r f k l =
      let g = both (unsigned_fits 2 lo) (unsigned_fits 2 hi) f in opened n 5 _ ∙ string_back lo hi r g.0 g.1
  datainfo_back (array lo hi d) zero r f k l = absurd (omega arith)
  datainfo_back (array lo hi d) (suc n) r f k l =
      let g = both (unsigned_fits 2 lo && unsigned_fits 2 hi) (numbers_fit d) f in
      let h = both (unsigned_fits 2 lo) (unsigned_fits 2 hi) g.0 in
      let inner = datainfo_back d n r g.1 (both (leb lo hi) (rules_kept d) k).1 (omega arith) in
      opened n 6 _ ∙ array_back (datainfo_in n) lo hi d (datainfo_bytes d) r h.0 h.1 inner
  datainfo_back (tuple ds) zero r f k l = absurd (omega arith)
  datainfo_back (tuple ds) (suc n) r f k l =
      let inner = elements_back ds n r f (both (is_between 1 8 (element_count ds)) (elements_rules_kept ds) k).1 (omega arith) in
      opened n 7 _ ∙ tuple_back (datainfo_in n) (element_count ds) ds (elements_bytes ds) r inner
  datainfo_back (struct fs) zero r f k l = absurd (omega arith)
  datainfo_back (struct fs) (suc n) r f k l =
      let inner = fields_back fs n r f (both (is_between 1 8 (length (field_names fs))) (fields_rules_kept fs) k).1 (omega arith) in
      opened n 8 _ ∙ struct_back (datainfo_in n) (length (field_names fs)) fs (fields_bytes fs) r inner
  datainfo_back (scaled s lo hi) zero r f k l = absurd (omega arith)
  datainfo_back (scaled s lo hi) (suc n) r f k l =
      let g = both (limit_fits s && signed_fits 8 lo) (signed_fits 8 hi) f in
      let h = both (limit_fits s) (signed_fits 8 lo) g.0 in
      let p = (both (power_good s) _ (both (scale_good s) (le_z lo hi) k).0).0 in
      opened n 9 _ ∙ scaled_back s lo hi r h.0 p h.1 g.1
  datainfo_back (blob lo hi) zero r f k l = absurd (omega arith)
  datainfo_back (blob lo hi) (suc n) r f k l =
      let g = both (unsigned_fits 2 lo) (unsigned_fits 2 hi) f in opened n 10 _ ∙ blob_back lo hi r g.0 g.1
  datainfo_back (partial ns fs) zero r f k l = absurd (omega arith)
  datainfo_back (partial ns fs) (suc n) r f k l =
      let g = both (in_order (field_names fs) ns) (fields_fit fs) f in
      let inner = flagged_back fs ns n r g.0 g.1 (both (is_between 1 8 (length (field_names fs))) (fields_rules_kept fs) k).1 (omega arith) in
      opened n 11 _ ∙ partial_back (datainfo_in n) (length (field_names fs)) ns fs (flagged_bytes ns fs) r inner

  elements_back : (ds : Elements) (n : ℕ) (r : List ℕ) → elements_fit ds ≡ true → elements_rules_kept ds ≡ true → elements_levels ds ≤ n
      → elements (datainfo_in n) (element_count ds) (elements_bytes ds ++ r) ≡ Some (ds, r)
  elements_back no_elements n r f k l = none_back (datainfo_in n) r
  elements_back (element d ds) n r f k l =
      let g = both (numbers_fit d) (elements_fit ds) f in
      let h = both (rules_kept d) (elements_rules_kept ds) k in
      element_back (datainfo_in n) (element_count ds) d ds (datainfo_bytes d) (elements_bytes ds) r
      (datainfo_back d n (elements_bytes ds ++ r) g.0 h.0 (omega arith)) (elements_back ds n r g.1 h.1 (omega arith))

  fields_back : (fs : Fields) (n : ℕ) (r : List ℕ) → fields_fit fs ≡ true → fields_rules_kept fs ≡ true → fields_levels fs ≤ n
      → fields (datainfo_in n) 8 (length (field_names fs)) (fields_bytes fs ++ r) ≡ Some (([], fs), r)
  fields_back no_fields n r f k l = no_fields_back (datainfo_in n) 8 r
  fields_back (field x d fs) n r f k l =
      let g = both (numbers_fit d) (fields_fit fs) f in
      let h = both (rules_kept d) (fields_rules_kept fs) k in
      field_back (datainfo_in n) (length (field_names fs)) x d fs (datainfo_bytes d) (fields_bytes fs) r
      (datainfo_back d n (fields_bytes fs ++ r) g.0 h.0 (omega arith)) (fields_back fs n r g.1 h.1 (omega arith))

  flagged_back : (fs : Fields) (ns : List (List ℕ)) (n : ℕ) (r : List ℕ) → in_order (field_names fs) ns ≡ true → fields_fit fs ≡ true → fields_rules_kept fs ≡ true
      → fields_levels fs ≤ n → fields (datainfo_in n) 11 (length (field_names fs)) (flagged_bytes ns fs ++ r) ≡ Some ((ns, fs), r)
  flagged_back no_fields ns n r o f k l = rw (no_names ns o) (no_fields_back (datainfo_in n) 11 r)
  flagged_back (field x d fs) ns n r o f k l =
      let g = both (numbers_fit d) (fields_fit fs) f in
      let h = both (rules_kept d) (fields_rules_kept fs) k in
      let on = flagged_bytes (after_next x ns) fs in
      flag_field_back (datainfo_in n) (length (field_names fs)) ns x d fs (datainfo_bytes d) on r
      (datainfo_back d n (on ++ r) g.0 h.0 (omega arith))
      (flagged_back fs (after_next x ns) n r o g.1 h.1 (omega arith))
