-- Names exchanged for numbers (M-101): once is enough, what fits still fits, and what can be read still can. Assumes nothing.
use Rattle.std.specs.Prelude.{Option, Some, None}
use Prim.Native.Nat.{ℕ, ◌≤◌}
use native.Mathlib.Omega.{arith}
use mathlib.Core.Bool.{Bool, true, false, cond, not, ◌&&◌, ◌||◌}
use mathlib.Core.List.{List, [], ◌∷◌, map}
use mathlib.Core.Path.{◌≡◌, refl, ap, ap₂, ◌∙◌}
use lib.IntN.{ℤ, pos, negsuc}
use lib.ListN.{length}
use lib.Signed.{le_z}
use borrow.Author.Tests.{le-leb, not-true}
use Rattle.ascii.specs.Bytes.{is_some, all, any, same}
use Rattle.ascii.specs.Names.{lowercase, distinct, unique, is_name}
use Rattle.ascii.specs.Numbers.{integer}
use Rattle.ascii.proofs.Lists.{both, or-true, neither, same_self, same_is}
use Rattle.decimal.specs.Decimal.{from_integer, in_power, at_most, between}
use Rattle.decimal.proofs.Written.{integer_token, integer_whole, integer_exactly, integer_limits}
use Rattle.json_text.specs.Json.{Json, null, boolean, Items, no_items, item, Members}
use Rattle.json_text.specs.Readable.{Readable, ReadableItems}
use Rattle.datainfo.specs.Datainfo.{Variant, Datainfo, double, int, bool, enum, string, array, tuple, struct, scaled, blob, partial, Elements, no_elements, element, Fields, no_fields, field, field_names}
use Rattle.datainfo.specs.Rules.{is_between, good_names, names_good, elements_names_good, fields_names_good}
use Rattle.fit.specs.Fit.{Verdict, fits, wrongType, worse, in_range, expect, expect_or, as_number, as_string, as_array, as_object}
use Rattle.fit.specs.Fit.{whole_fit, between_integers, is_variant, member_number, item_count, worst_item, keys, each_once, value_at, fit, elements_fit, fields_fit}
use Rattle.fit.specs.Fit.{within, on_members, map_items, map_members, exchanged, numbered, numbered_elements, numbered_at}
use Rattle.form.specs.Numbers.{if_any, all_items, numbers_only, elements_numbers_only, fields_numbers_only}
use Rattle.form.proofs.Verdicts.{worse_both, both_worse, cond_fits}
use Rattle.form.proofs.Trees.{items_twice, items_readable, items_fit, map_twice, map_count, map_readable, on_on, on_same, members_readable, members_fit_lem, map_keys, map_again, map_members_lem, map_value}
use Rattle.form.proofs.Short.{ShortNumbers, Short, ShortElements, ShortFields}

-- ## Once is enough

names_twice : (vs : List Variant) (v : Json) → numbered (enum vs) (numbered (enum vs) v) ≡ numbered (enum vs) v
unfolding numbered within as_string exchanged
names_twice vs null = refl
names_twice vs (boolean b) = refl
names_twice vs (Json.number t) = refl
names_twice vs (Json.string s) = go (member_number vs s) refl
  where
    go : (o : Option ℤ) → member_number vs s ≡ o
        → within (exchanged s o) (as_string (exchanged s o)) (λ t. exchanged t (member_number vs t)) ≡ exchanged s o
    go None e = rw e
    go (Some n) e = refl
names_twice vs (Json.array is) = refl
names_twice vs (Json.object ms) = refl

-- of members, each exchanged by f
pub members_twice : (f : List ℕ → Json → Json) → ((k : List ℕ) (v : Json) → f k (f k v) ≡ f k v) → (v : Json)
    → on_members (map_members f) (on_members (map_members f) v) ≡ on_members (map_members f) v
members_twice f h v =
    on_on (map_members f) (map_members f) v ∙ on_same (λ ms. map_members f (map_members f ms)) (map_members f) (map_again f h) v

mutual
  unfolding numbered

  pub numbered_twice : (d : Datainfo) (v : Json) → numbered d (numbered d v) ≡ numbered d v
  numbered_twice (double lo hi) v = refl
  numbered_twice (int lo hi) v = refl
  numbered_twice bool v = refl
  numbered_twice (enum vs) v = names_twice vs v
  numbered_twice (string lo hi) v = refl
  numbered_twice (array lo hi d) v = items_twice (map_items (λ w. numbered d w)) (map_twice (λ w. numbered d w) (λ w. numbered_twice d w)) v
  numbered_twice (tuple ds) v = items_twice (λ is. numbered_elements ds is) (λ is. elements_twice ds is) v
  numbered_twice (struct fs) v = members_twice (λ k w. numbered_at k fs w) (λ k w. at_twice fs k w) v
  numbered_twice (scaled s lo hi) v = refl
  numbered_twice (blob lo hi) v = refl
  numbered_twice (partial ns fs) v = members_twice (λ k w. numbered_at k fs w) (λ k w. at_twice fs k w) v

  elements_twice : (ds : Elements) (is : Items) → numbered_elements ds (numbered_elements ds is) ≡ numbered_elements ds is
  elements_twice no_elements is = refl
  elements_twice (element d ds) no_items = refl
  elements_twice (element d ds) (item v is) = ap₂ item (numbered_twice d v) (elements_twice ds is)

  pub at_twice : (fs : Fields) (k : List ℕ) (v : Json) → numbered_at k fs (numbered_at k fs v) ≡ numbered_at k fs v
  at_twice no_fields k v = refl
  at_twice (field j d fs) k v = go (same j k) (numbered_twice d v) (at_twice fs k v)
    where
      go : (b : Bool) → numbered d (numbered d v) ≡ numbered d v → numbered_at k fs (numbered_at k fs v) ≡ numbered_at k fs v
          → cond b (numbered d (cond b (numbered d v) (numbered_at k fs v))) (numbered_at k fs (cond b (numbered d v) (numbered_at k fs v)))
          ≡ cond b (numbered d v) (numbered_at k fs v)
      go true h i = h
      go false h i = i

-- ## What can be read still can

name_readable : (vs : List Variant) (n : ℕ) (v : Json) → Readable n v → Readable n (numbered (enum vs) v)
unfolding numbered within as_string exchanged
name_readable vs n null r = r
name_readable vs n (boolean b) r = r
name_readable vs n (Json.number t) r = r
name_readable vs n (Json.string s) r = go (member_number vs s)
  where
    go : (o : Option ℤ) → Readable n (exchanged s o)
    go None = r
    go (Some z) = integer_token z
name_readable vs n (Json.array is) r = r
name_readable vs n (Json.object ms) r = r

mutual
  unfolding numbered

  pub numbered_readable : (d : Datainfo) (n : ℕ) (v : Json) → Readable n v → Readable n (numbered d v)
  numbered_readable (double lo hi) n v r = r
  numbered_readable (int lo hi) n v r = r
  numbered_readable bool n v r = r
  numbered_readable (enum vs) n v r = name_readable vs n v r
  numbered_readable (string lo hi) n v r = r
  numbered_readable (array lo hi d) n v r =
      items_readable (map_items (λ w. numbered d w)) (map_readable (λ w. numbered d w) (λ m w s. numbered_readable d m w s)) n v r
  numbered_readable (tuple ds) n v r = items_readable (λ is. numbered_elements ds is) (λ m is s. elements_readable ds m is s) n v r
  numbered_readable (struct fs) n v r =
      members_readable (map_members (λ k w. numbered_at k fs w)) n v
      (λ m ms p q s. map_members_lem (λ k w. numbered_at k fs w) (λ l k w t. at_readable fs k l w t) m ms s) r
  numbered_readable (scaled s lo hi) n v r = r
  numbered_readable (blob lo hi) n v r = r
  numbered_readable (partial ns fs) n v r =
      members_readable (map_members (λ k w. numbered_at k fs w)) n v
      (λ m ms p q s. map_members_lem (λ k w. numbered_at k fs w) (λ l k w t. at_readable fs k l w t) m ms s) r

  elements_readable : (ds : Elements) (n : ℕ) (is : Items) → ReadableItems n is → ReadableItems n (numbered_elements ds is)
  elements_readable no_elements n is r = r
  elements_readable (element d ds) n no_items r = r
  elements_readable (element d ds) n (item v is) r = (numbered_readable d n v r.0, elements_readable ds n is r.1)

  pub at_readable : (fs : Fields) (k : List ℕ) (n : ℕ) (v : Json) → Readable n v → Readable n (numbered_at k fs v)
  at_readable no_fields k n v r = r
  at_readable (field j d fs) k n v r = go (same j k) (numbered_readable d n v r) (at_readable fs k n v r)
    where
      go : (b : Bool) → Readable n (numbered d v) → Readable n (numbered_at k fs v) → Readable n (cond b (numbered d v) (numbered_at k fs v))
      go true h i = h
      go false h i = i

-- ## What fits still fits, and has numbers only

-- the number of a member that is named
same_order : (z : ℤ) → le_z z z ≡ true
same_order (pos n) = le-leb n n (omega arith)
same_order (negsuc n) = le-leb n n (omega arith)

between_self : (z : ℤ) → between_integers z z (from_integer z) ≡ true
unfolding between_integers between at_most
between_self z = rw (same_order (in_power (pos 0) (from_integer z)))

named : (vs : List Variant) (s : List ℕ) (z : ℤ) → member_number vs s ≡ Some z → ShortNumbers vs
    → (is_variant vs (from_integer z) ≡ true) × (length (integer z) ≤ 32)
unfolding member_number is_variant any
named [] s z e h = let n : ◌≡◌ {A = ℕ} 0 1 = cc in absurd (omega arith)
named (v ∷ vs) s z e h = go (same v.name s) (λ e. named vs s z e h.1) e
  where
    go : (b : Bool)
        → (member_number vs s ≡ Some z → (is_variant vs (from_integer z) ≡ true) × (length (integer z) ≤ 32))
        → cond b (Some v.number) (member_number vs s) ≡ Some z
        → (is_variant (v ∷ vs) (from_integer z) ≡ true) × (length (integer z) ≤ 32)
    go true f e = let q : z ≡ v.number = cc in (rw (q, between_self v.number), rw q h.0)
    go false f e = let i = f e in (rw i.0 (or-true (between_integers v.number v.number (from_integer z))), i.1)

number_fits : (vs : List Variant) (z : ℤ) → is_variant vs (from_integer z) ≡ true → length (integer z) ≤ 32
    → whole_fit (is_variant vs) (integer z) ≡ fits
unfolding whole_fit in_range
number_fits vs z e h = rw (integer_whole z, integer_limits z h, integer_exactly z, e)

-- a value that fits, with numbers only
abbrev pub FitsByNumbers : Datainfo → Json → Type 0
FitsByNumbers d v = (fit d v ≡ fits) × (numbers_only d v ≡ true)

no_fit : {A : Type 0} → wrongType ≡ fits → A
no_fit e = let n : ◌≡◌ {A = ℕ} 0 1 = cc in absurd (omega arith)

name_numbered : (vs : List Variant) → ShortNumbers vs → (v : Json) → fit (enum vs) v ≡ fits → FitsByNumbers (enum vs) (numbered (enum vs) v)
unfolding fit numbered expect_or expect in_range as_string as_number within exchanged numbers_only
name_numbered vs h null e = no_fit e
name_numbered vs h (boolean b) e = no_fit e
name_numbered vs h (Json.number t) e = (e, refl)
name_numbered vs h (Json.string s) e = go (member_number vs s) refl e
  where
    go : (o : Option ℤ) → member_number vs s ≡ o → in_range (is_some o) ≡ fits → FitsByNumbers (enum vs) (exchanged s o)
    go None p e = let n : ◌≡◌ {A = ℕ} 0 1 = cc in absurd (omega arith)
    go (Some z) p e = let i = named vs s z p h in (number_fits vs z i.0 i.1, refl)
name_numbered vs h (Json.array is) e = no_fit e
name_numbered vs h (Json.object ms) e = no_fit e

-- items, each exchanged by f
module _ (p : Json → Verdict) (q : Json → Bool) (f : Json → Json) (h : (v : Json) → p v ≡ fits → (p (f v) ≡ fits) × (q (f v) ≡ true)) where
  items_numbered : (is : Items) → worst_item p is ≡ fits → (worst_item p (map_items f is) ≡ fits) × (all_items q (map_items f is) ≡ true)
  unfolding worst_item map_items all_items
  items_numbered no_items e = (refl, refl)
  items_numbered (item v is) e =
      let w = worse_both (p v) (worst_item p is) e in
      let a = h v w.0 in
      let b = items_numbered is w.1 in
      (both_worse a.0 b.0, ap₂ ◌&&◌ a.1 b.1)

-- ### Members by their names

-- f is, at each name, the exchange by that member's datainfo
abbrev NumberedAs : Fields → (List ℕ → Json → Json) → Type 0
NumberedAs no_fields f = Unit {0}
NumberedAs (field k d fs) f = ((v : Json) → f k v ≡ numbered d v) × NumberedAs fs f

as_later : (k : List ℕ) (g : Json → Json) (f : List ℕ → Json → Json) (fs : Fields) → any (same k) (field_names fs) ≡ false → NumberedAs fs f
    → NumberedAs fs (λ n v. cond (same k n) (g v) (f n v))
unfolding any field_names
as_later k g f no_fields e h = tt
as_later k g f (field j d fs) e h =
    let p = neither (same k j) (any (same k) (field_names fs)) e in
    (λ v. rw p.0 (h.0 v), as_later k g f fs p.1 h.1)

numbered_as : (fs : Fields) → distinct (field_names fs) ≡ true → NumberedAs fs (λ k v. numbered_at k fs v)
unfolding numbered_at distinct field_names
numbered_as no_fields e = tt
numbered_as (field k d fs) e =
    let p = both (not (any (same k) (field_names fs))) (distinct (field_names fs)) e in
    (λ v. rw (same_self k), as_later k (λ v. numbered d v) (λ n v. numbered_at n fs v) fs (not-true (any (same k) (field_names fs)) p.0) (numbered_as fs p.1))

-- names that differ in lower case differ
any_lower : (k : List ℕ) (ks : List (List ℕ)) → any (same (lowercase k)) (map lowercase ks) ≡ false → any (same k) ks ≡ false
unfolding any
any_lower k [] e = refl
any_lower k (j ∷ ks) e =
    let p = neither (same (lowercase k) (lowercase j)) (any (same (lowercase k)) (map lowercase ks)) e in
    go (same k j) refl p.0 (any_lower k ks p.1)
  where
    go : (b : Bool) → same k j ≡ b → same (lowercase k) (lowercase j) ≡ false → any (same k) ks ≡ false → (b || any (same k) ks) ≡ false
    go true q e i =
        let s = same_self (lowercase j) in
        let z : same (lowercase j) (lowercase j) ≡ false = rw (same_is k j q) at e in
        let n : ◌≡◌ {A = ℕ} 0 1 = cc in absurd (omega arith)
    go false q e i = i

distinct_lower : (ks : List (List ℕ)) → distinct (map lowercase ks) ≡ true → distinct ks ≡ true
unfolding distinct
distinct_lower [] e = refl
distinct_lower (k ∷ ks) e =
    let p = both (not (any (same (lowercase k)) (map lowercase ks))) (distinct (map lowercase ks)) e in
    ap₂ ◌&&◌ (ap not (any_lower k ks (not-true _ p.0))) (distinct_lower ks p.1)

pub good_distinct : (ks : List (List ℕ)) → good_names ks ≡ true → distinct ks ≡ true
unfolding good_names unique
good_distinct ks e = distinct_lower ks (both (all is_name ks) (distinct (map lowercase ks)) e).1

numbered_null : (d : Datainfo) → numbered d null ≡ null
unfolding numbered within as_string as_array as_object
numbered_null (double lo hi) = refl
numbered_null (int lo hi) = refl
numbered_null bool = refl
numbered_null (enum vs) = refl
numbered_null (string lo hi) = refl
numbered_null (array lo hi d) = refl
numbered_null (tuple ds) = refl
numbered_null (struct fs) = refl
numbered_null (scaled s lo hi) = refl
numbered_null (blob lo hi) = refl
numbered_null (partial ns fs) = refl

pub at_null : (fs : Fields) (k : List ℕ) → numbered_at k fs null ≡ null
unfolding numbered_at
at_null no_fields k = refl
at_null (field j d fs) k = go (same j k) (numbered_null d) (at_null fs k)
  where
    go : (b : Bool) → numbered d null ≡ null → numbered_at k fs null ≡ null → cond b (numbered d null) (numbered_at k fs null) ≡ null
    go true h i = h
    go false h i = i

-- of the members that fs asks for
abbrev FieldsNumbered : Fields → Type 0
FieldsNumbered fs = (f : List ℕ → Json → Json) → NumberedAs fs f → ((k : List ℕ) → f k null ≡ null) → (ms : Members) → fields_fit fs ms ≡ fits
    → (fields_fit fs (map_members f ms) ≡ fits) × (fields_numbers_only fs (map_members f ms) ≡ true)

-- the verdict on an object's members
abbrev members_fit : Fields → Members → Verdict
members_fit fs ms = cond (each_once (field_names fs) (keys ms)) (fields_fit fs ms) wrongType

struct_numbered : (fs : Fields) → good_names (field_names fs) ≡ true → FieldsNumbered fs → (v : Json)
    → expect (as_object v) (members_fit fs) ≡ fits
    → (expect (as_object (on_members (map_members (λ k w. numbered_at k fs w)) v)) (members_fit fs) ≡ fits)
    × (if_any (as_object (on_members (map_members (λ k w. numbered_at k fs w)) v)) (λ ms. fields_numbers_only fs ms) ≡ true)
struct_numbered fs g h v e =
    let f : List ℕ → Json → Json = λ k w. numbered_at k fs w in
    members_fit_lem (map_members f) (members_fit fs) (members_fit fs) (λ ms. fields_numbers_only fs ms) (λ ms e.
    let c = cond_fits (each_once (field_names fs) (keys ms)) (fields_fit fs ms) e in
    let s = h f (numbered_as fs (good_distinct (field_names fs) g)) (λ k. at_null fs k) ms c.1 in
    (rw (map_keys f ms, c.0) s.0, s.1)) v e

mutual
  unfolding fit numbered numbers_only names_good

  pub fits_numbered : (d : Datainfo) → Short d → names_good d ≡ true → (v : Json) → fit d v ≡ fits → FitsByNumbers d (numbered d v)
  fits_numbered (double lo hi) s g v e = (e, refl)
  fits_numbered (int lo hi) s g v e = (e, refl)
  fits_numbered bool s g v e = (e, refl)
  fits_numbered (enum vs) s g v e = name_numbered vs s v e
  fits_numbered (string lo hi) s g v e = (e, refl)
  fits_numbered (array lo hi d) s g v e =
      let f : Json → Json = λ w. numbered d w in
      let p : Json → Verdict = λ w. fit d w in
      let q : Json → Bool = λ w. numbers_only d w in
      let judge : Items → Verdict = λ is. worse (in_range (is_between lo hi (item_count is))) (worst_item p is) in
      items_fit (map_items f) judge judge (λ is. all_items q is) (λ is e.
      let w = worse_both (in_range (is_between lo hi (item_count is))) (worst_item p is) e in
      let i = items_numbered p q f (λ w e. fits_numbered d s g w e) is w.1 in
      (rw (map_count f is) (both_worse w.0 i.0), i.1)) v e
  fits_numbered (tuple ds) s g v e =
      items_fit (λ is. numbered_elements ds is) (λ is. elements_fit ds is) (λ is. elements_fit ds is) (λ is. elements_numbers_only ds is)
      (λ is e. elements_numbered ds s g is e) v e
  fits_numbered (struct fs) s g v e =
      let p = both (good_names (field_names fs)) (fields_names_good fs) g in
      struct_numbered fs p.0 (λ f h n ms e. fields_numbered fs s p.1 f h n ms e) v e
  fits_numbered (scaled x lo hi) s g v e = (e, refl)
  fits_numbered (blob lo hi) s g v e = (e, refl)
  fits_numbered (partial ns fs) s g v e =
      let p = both (good_names (field_names fs) && all is_name ns) (fields_names_good fs) g in
      struct_numbered fs (both (good_names (field_names fs)) (all is_name ns) p.0).0 (λ f h n ms e. fields_numbered fs s p.1 f h n ms e) v e

  elements_numbered : (ds : Elements) → ShortElements ds → elements_names_good ds ≡ true → (is : Items) → elements_fit ds is ≡ fits
      → (elements_fit ds (numbered_elements ds is) ≡ fits) × (elements_numbers_only ds (numbered_elements ds is) ≡ true)
  elements_numbered no_elements s g is e = (e, refl)
  elements_numbered (element d ds) s g no_items e = (e, refl)
  elements_numbered (element d ds) s g (item v is) e =
      let p = both (names_good d) (elements_names_good ds) g in
      let w = worse_both (fit d v) (elements_fit ds is) e in
      let a = fits_numbered d s.0 p.0 v w.0 in
      let b = elements_numbered ds s.1 p.1 is w.1 in
      (both_worse a.0 b.0, ap₂ ◌&&◌ a.1 b.1)

  fields_numbered : (fs : Fields) → ShortFields fs → fields_names_good fs ≡ true → FieldsNumbered fs
  fields_numbered no_fields s g f h n ms e = (refl, refl)
  fields_numbered (field k d fs) s g f h n ms e =
      let p = both (names_good d) (fields_names_good fs) g in
      let w = worse_both (fit d (value_at k ms)) (fields_fit fs ms) e in
      let a = fits_numbered d s.0 p.0 (value_at k ms) w.0 in
      let b = fields_numbered fs s.1 p.1 f h.1 n ms w.1 in
      rw (map_value f n k ms, h.0 (value_at k ms)) (both_worse a.0 b.0, ap₂ ◌&&◌ a.1 b.1)
