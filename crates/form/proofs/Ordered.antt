-- Members in table order (M-113): the laws of `ordered`. Assumes nothing.
use Prim.Native.Nat.{ℕ, ◌+◌}
use native.Mathlib.Nat.{zero-add}
use native.Mathlib.Omega.{arith}
use mathlib.Core.Bool.{Bool, true, false, cond, not, ◌&&◌, ◌||◌}
use mathlib.Core.List.{List, [], ◌∷◌}
use mathlib.Core.Path.{◌≡◌, refl, sym, ap, ap₂}
use lib.Dec.{eqb}
use borrow.Author.Tests.{not-true}
use Rattle.ascii.specs.Bytes.{all, any, count, same}
use Rattle.ascii.specs.Names.{distinct}
use Rattle.ascii.proofs.Lists.{both, or-true, neither, all_parts, same_self, same_is, same_other}
use Rattle.json_text.specs.Json.{Json, null, Members, no_members, member}
use Rattle.json_text.specs.Readable.{IsRaw, ReadableMembers}
use Rattle.datainfo.specs.Datainfo.{Fields, no_fields, field, field_names}
use Rattle.fit.specs.Fit.{worse, keys, each_once, value_at, fit, fields_fit, map_members, ordered}
use Rattle.form.specs.Numbers.{numbers_only, fields_numbers_only}
use Rattle.form.proofs.Trees.{map_value, value_readable}

-- ## Names among keys

-- each name is one of ks
abbrev pub Among : Fields → List (List ℕ) → Type 0
Among no_fields ks = Unit {0}
Among (field k d fs) ks = (any (same k) ks ≡ true) × Among fs ks

among_more : (fs : Fields) (k : List ℕ) (ks : List (List ℕ)) → Among fs ks → Among fs (k ∷ ks)
unfolding any
among_more no_fields k ks h = tt
among_more (field j d fs) k ks h = (rw h.0 (or-true (same j k)), among_more fs k ks h.1)

pub among_self : (fs : Fields) → Among fs (field_names fs)
unfolding field_names any
among_self no_fields = tt
among_self (field k d fs) = (rw (same_self k), among_more fs k (field_names fs) (among_self fs))

-- what is counted is there
counted_any : (k : List ℕ) (ks : List (List ℕ)) → eqb (count (same k) ks) 1 ≡ true → any (same k) ks ≡ true
unfolding count any
counted_any k [] e = let n : ◌≡◌ {A = ℕ} 0 1 = cc in absurd (omega arith)
counted_any k (j ∷ ks) e = go (same k j) e (counted_any k ks)
  where
    go : (b : Bool) → eqb (cond b 1 0 + count (same k) ks) 1 ≡ true → (eqb (count (same k) ks) 1 ≡ true → any (same k) ks ≡ true)
        → (b || any (same k) ks) ≡ true
    go true e h = refl
    go false e h = h (rw zero-add at e)

counted_among : (fs : Fields) (ks : List (List ℕ)) → all (λ n. eqb (count (same n) ks) 1) (field_names fs) ≡ true → Among fs ks
unfolding field_names
counted_among no_fields ks e = tt
counted_among (field k d fs) ks e =
    let p = all_parts (λ n. eqb (count (same n) ks) 1) k (field_names fs) e in
    (counted_any k ks p.0, counted_among fs ks p.1)

pub once_among : (fs : Fields) (ks : List (List ℕ)) → each_once (field_names fs) ks ≡ true → Among fs ks
unfolding each_once
once_among fs ks e =
    counted_among fs ks (both (all (λ n. eqb (count (same n) ks) 1) (field_names fs)) (all (λ k. any (same k) (field_names fs)) ks) e).0

-- ## Names that differ are each once among themselves

pub count_none : (k : List ℕ) (ks : List (List ℕ)) → any (same k) ks ≡ false → count (same k) ks ≡ 0
unfolding any count
count_none k [] e = refl
count_none k (j ∷ ks) e = let p = neither (same k j) (any (same k) ks) e in rw (p.0, count_none k ks p.1)

module _ (k : List ℕ) (ks : List (List ℕ)) where
  count_later : (js : List (List ℕ)) → any (same k) js ≡ false → all (λ n. eqb (count (same n) ks) 1) js ≡ true
      → all (λ n. eqb (count (same n) (k ∷ ks)) 1) js ≡ true
  unfolding any count all
  count_later [] e h = refl
  count_later (j ∷ js) e h =
      let p = neither (same k j) (any (same k) js) e in
      let q = both (eqb (count (same j) ks) 1) (all (λ n. eqb (count (same n) ks) 1) js) h in
      rw (same_other k j p.0, zero-add) (ap₂ ◌&&◌ q.0 (count_later js p.1 q.1))

distinct_once : (ks : List (List ℕ)) → distinct ks ≡ true → all (λ n. eqb (count (same n) ks) 1) ks ≡ true
unfolding distinct all count
distinct_once [] e = refl
distinct_once (k ∷ ks) e =
    let p = both (not (any (same k) ks)) (distinct ks) e in
    let none-else = not-true (any (same k) ks) p.0 in
    let first : eqb (cond (same k k) 1 0 + count (same k) ks) 1 ≡ true = rw (same_self k, count_none k ks none-else) in
    ap₂ ◌&&◌ first (count_later k ks ks none-else (distinct_once ks p.1))

among_all : (fs : Fields) (ks : List (List ℕ)) → Among fs ks → all (λ k. any (same k) ks) (field_names fs) ≡ true
unfolding field_names all
among_all no_fields ks h = refl
among_all (field k d fs) ks h = ap₂ ◌&&◌ h.0 (among_all fs ks h.1)

pub once_self : (fs : Fields) → distinct (field_names fs) ≡ true → each_once (field_names fs) (field_names fs) ≡ true
unfolding each_once
once_self fs e = ap₂ ◌&&◌ (distinct_once (field_names fs) e) (among_all fs (field_names fs) (among_self fs))

-- ## In table order

pub ordered_keys : (fs : Fields) (ms : Members) → keys (ordered fs ms) ≡ field_names fs
unfolding ordered keys field_names
ordered_keys no_fields ms = refl
ordered_keys (field k d fs) ms = ap (◌∷◌ k) (ordered_keys fs ms)

-- each member keeps its value
pub ordered_value : (fs : Fields) (ms : Members) (k : List ℕ) → any (same k) (field_names fs) ≡ true → value_at k (ordered fs ms) ≡ value_at k ms
unfolding ordered value_at field_names any
ordered_value no_fields ms k e = let n : ◌≡◌ {A = ℕ} 0 1 = cc in absurd (omega arith)
ordered_value (field j d fs) ms k e = go (same k j) refl e (ordered_value fs ms k)
  where
    go : (b : Bool) → same k j ≡ b → (b || any (same k) (field_names fs)) ≡ true
        → (any (same k) (field_names fs) ≡ true → value_at k (ordered fs ms) ≡ value_at k ms)
        → cond b (value_at j ms) (value_at k (ordered fs ms)) ≡ value_at k ms
    go true q e h = ap (λ j. value_at j ms) (sym (same_is k j q))
    go false q e h = h e

-- so whatever is asked of members by their names is the same, and the order stays
module _ (fs : Fields) (ms : Members) where
  order_again : (gs : Fields) → Among gs (field_names fs) → ordered gs (ordered fs ms) ≡ ordered gs ms
  unfolding ordered
  order_again no_fields h = refl
  order_again (field k d gs) h = ap₂ (member k) (ordered_value fs ms k h.0) (order_again gs h.1)

  pub order_fit : (gs : Fields) → Among gs (field_names fs) → fields_fit gs (ordered fs ms) ≡ fields_fit gs ms
  unfolding fields_fit
  order_fit no_fields h = refl
  order_fit (field k d gs) h = ap₂ worse (ap (fit d) (ordered_value fs ms k h.0)) (order_fit gs h.1)

  pub order_numbers : (gs : Fields) → Among gs (field_names fs) → fields_numbers_only gs (ordered fs ms) ≡ fields_numbers_only gs ms
  unfolding fields_numbers_only
  order_numbers no_fields h = refl
  order_numbers (field k d gs) h = ap₂ ◌&&◌ (ap (numbers_only d) (ordered_value fs ms k h.0)) (order_numbers gs h.1)

pub ordered_twice : (fs : Fields) (ms : Members) → ordered fs (ordered fs ms) ≡ ordered fs ms
ordered_twice fs ms = order_again fs ms fs (among_self fs)

-- values are exchanged before or after
pub ordered_map : (f : List ℕ → Json → Json) → ((k : List ℕ) → f k null ≡ null) → (fs : Fields) (ms : Members)
    → ordered fs (map_members f ms) ≡ map_members f (ordered fs ms)
unfolding ordered map_members
ordered_map f h no_fields ms = refl
ordered_map f h (field k d fs) ms = ap₂ (member k) (map_value f h k ms) (ordered_map f h fs ms)

-- ## What can be read

key_raw : (n : ℕ) (k : List ℕ) (ms : Members) → ReadableMembers n ms → any (same k) (keys ms) ≡ true → IsRaw k
unfolding any keys
key_raw n k no_members r e = let n : ◌≡◌ {A = ℕ} 0 1 = cc in absurd (omega arith)
key_raw n k (member j v ms) r e = go (same k j) refl e (key_raw n k ms r.2)
  where
    go : (b : Bool) → same k j ≡ b → (b || any (same k) (keys ms)) ≡ true → (any (same k) (keys ms) ≡ true → IsRaw k) → IsRaw k
    go true q e h = rw (same_is k j q) r.0
    go false q e h = h e

pub ordered_readable : (n : ℕ) (fs : Fields) (ms : Members) → Among fs (keys ms) → ReadableMembers n ms → ReadableMembers n (ordered fs ms)
unfolding ordered
ordered_readable n no_fields ms h r = tt
ordered_readable n (field k d fs) ms h r = (key_raw n k ms r h.0, value_readable n k ms r, ordered_readable n fs ms h.1 r)
