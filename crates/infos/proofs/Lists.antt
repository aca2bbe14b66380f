-- Laws of the members of a datainfo, whatever its kind: their texts are those of the report, and what they leave. Assumes nothing.
use Rattle.std.specs.Prelude.{Option, Some, None}
use Prim.Native.Nat.{ℕ, zero, suc}
use mathlib.Core.Path.{◌≡◌, refl, ap, ◌∙◌}
use mathlib.Core.Bool.{Bool, true, false, cond}
use mathlib.Core.List.{List, [], ◌∷◌, ◌++◌, append_assoc}
use lib.Dec.{eqb}
use lib.IntN.{ℤ}
use Rattle.ascii.specs.Text.{bytes}
use Rattle.ascii.specs.Bytes.{◌>>=◌, part}
use Rattle.ascii.specs.Numbers.{integer, unsigned, signed}
use Rattle.ascii.specs.Clauses.Reader.{rest}
use Rattle.json_text.specs.Json.{quoted, compact, compact_items, compact_members, more_members}
use Rattle.datainfo.specs.Datainfo as Datainfo
use Rattle.datainfo.specs.Datainfo.{Datainfo, Variant, Elements, Fields, Parts}
use Rattle.datainfo.specs.Layout.{counted, flagged, entry, joined, variants, enum_at, elements, tuple_at, fields, struct_at, partial_at}
use Rattle.datainfo.specs.Clauses.Members.{after_held, after_member, members_at}
use Rattle.datainfo.proofs.Ends.{signed_rest}
use Rattle.report.specs.Report.{variant_values, element_values, field_values, datainfo_value}
use Rattle.emit.specs.Clauses.Emitted.{comma, told}
use Rattle.infos.specs.Clauses.Texts.{datainfo_text, opening, closing, held_text, member_text, members_text, count_text, list_text}
use Rattle.emit.proofs.Says.{rest_told}
use Rattle.emit.proofs.Listed.{listed, listed_first, listed_more, listed_items, items_first, items_more, list_step, told_told}

-- ## What the members of each kind are

module _ (inner : List ℕ → Option (Datainfo × List ℕ)) where
  variant_same : (first : Bool) (k : List ℕ) (v : ℤ) (vs : List Variant) → listed first (variant_values (record { name = k; number = v } ∷ vs)) ≡ comma first ++ (quoted k ++ bytes ":" ++ integer v) ++ listed false (variant_values vs)
  unfolding listed variant_values compact
  variant_same first k v vs = rw (listed_more (variant_values vs))

  variants_text : (first : Bool) (n : ℕ) (xs : List ℕ) → members_text inner 4 first n xs ≡ told (λ vs. listed first (variant_values vs)) (variants n xs)
  unfolding members_text member_text held_text entry flagged variants variant_values listed
  variants_text first zero xs = refl
  variants_text first (suc n) xs = go (counted xs) (variants_text false n)
    where
      go : (o : Option (List ℕ × List ℕ)) → ((ys : List ℕ) → members_text inner 4 false n ys ≡ told (λ vs. listed false (variant_values vs)) (variants n ys)) → (((o >>= λ q. Some ((false, q.0), q.1)) >>= λ (m : (Bool × List ℕ) × List ℕ). told (λ t. quoted m.0.1 ++ bytes ":" ++ t) (told integer (signed 4 m.1))) >>= λ p. told (λ t. comma first ++ p.0 ++ t) (members_text inner 4 false n p.1)) ≡ told (λ vs. listed first (variant_values vs)) (o >>= λ m. signed 4 m.1 >>= λ v. variants n v.1 >>= λ w. Some (record { name = m.0; number = v.0 } ∷ w.0, w.1))
      go None ih = refl
      go (Some m) ih =
          rw (told_told (λ t. quoted m.0 ++ bytes ":" ++ t) integer (signed 4 m.1))
          (list_step first (λ v. quoted m.0 ++ bytes ":" ++ integer v) (λ vs. listed first (variant_values vs)) (λ vs. listed false (variant_values vs)) (λ v vs. record { name = m.0; number = v } ∷ vs) (λ v vs. variant_same first m.0 v vs) (variants n) (members_text inner 4 false n) ih (signed 4 m.1))

  element_same : (first : Bool) (d : Datainfo) (ds : Elements) → listed_items first (element_values (Datainfo.element d ds)) ≡ comma first ++ datainfo_text d ++ listed_items false (element_values ds)
  unfolding listed_items element_values datainfo_text
  element_same first d ds = rw (items_more (element_values ds))

  elements_text : (first : Bool) (n : ℕ) (xs : List ℕ) → members_text inner 7 first n xs ≡ told (λ ds. listed_items first (element_values ds)) (elements inner n xs)
  unfolding members_text member_text elements element_values listed_items
  elements_text first zero xs = refl
  elements_text first (suc n) xs =
      list_step first datainfo_text (λ ds. listed_items first (element_values ds)) (λ ds. listed_items false (element_values ds)) Datainfo.element (element_same first) (elements inner n) (members_text inner 7 false n) (elements_text false n) (inner xs)

  field_same : (first : Bool) (k : List ℕ) (d : Datainfo) (fs : Fields) → listed first (field_values (Datainfo.field k d fs)) ≡ comma first ++ (quoted k ++ bytes ":" ++ datainfo_text d) ++ listed false (field_values fs)
  unfolding listed field_values datainfo_text
  field_same first k d fs = rw (listed_more (field_values fs))

  -- the members of a struct, of either type
  abbrev fields_listed : Bool → Parts → List ℕ
  fields_listed first m = listed first (field_values m.1)

  joined_same : (first : Bool) (e : Bool × List ℕ) (d : Datainfo) (m : Parts)
      → fields_listed first (joined e d m) ≡ comma first ++ (quoted e.1 ++ bytes ":" ++ datainfo_text d) ++ fields_listed false m
  unfolding joined
  joined_same first e d m = field_same first e.1 d m.1

  fields_text : (k : ℕ) → eqb k 7 ≡ false → eqb k 4 ≡ false → (first : Bool) (n : ℕ) (xs : List ℕ)
      → members_text inner k first n xs ≡ told (fields_listed first) (fields inner k n xs)
  unfolding members_text member_text held_text fields field_values listed
  fields_text k a b first zero xs = refl
  fields_text k a b first (suc n) xs = rw a (go (entry k xs) (fields_text k a b false n))
    where
      go : (o : Option ((Bool × List ℕ) × List ℕ)) → ((ys : List ℕ) → members_text inner k false n ys ≡ told (fields_listed false) (fields inner k n ys))
          → ((o >>= λ m. told (λ t. quoted m.0.1 ++ bytes ":" ++ t) (held_text inner k m.1)) >>= λ p. told (λ t. comma first ++ p.0 ++ t) (members_text inner k false n p.1))
          ≡ told (fields_listed first) (o >>= λ m. inner m.1 >>= λ v. fields inner k n v.1 >>= λ w. Some (joined m.0 v.0 w.0, w.1))
      go None ih = refl
      go (Some m) ih =
          rw (b, told_told (λ t. quoted m.0.1 ++ bytes ":" ++ t) datainfo_text (inner m.1))
          (list_step first (λ d. quoted m.0.1 ++ bytes ":" ++ datainfo_text d) (fields_listed first) (fields_listed false) (joined m.0) (joined_same first m.0) (fields inner k n) (members_text inner k false n) ih (inner m.1))

  -- so what a count byte says is told
  pub count_members : (xs : List ℕ) → count_text inner 11 xs ≡ told (fields_listed true) (members_at inner 11 xs)
  unfolding count_text members_at
  count_members xs = go (unsigned 1 xs)
    where
      go : (o : Option (ℕ × List ℕ)) → (o >>= λ n. members_text inner 11 true n.0 n.1) ≡ told (fields_listed true) (o >>= λ p. fields inner 11 p.0 p.1)
      go None = refl
      go (Some n) = fields_text 11 refl refl true n.0 n.1

  -- ## A count byte and as many members

  closed : (x : List ℕ) (a b : ℕ) → x ++ (a ∷ []) ++ [] ++ (b ∷ []) ≡ x ++ (a ∷ b ∷ [])
  closed x a b = simp append_assoc

  closed_with : (x q : List ℕ) → x ++ (125 ∷ []) ++ q ++ (125 ∷ []) ≡ x ++ (125 ∷ (q ++ (125 ∷ [])))
  closed_with x q = simp append_assoc

  enum_is : (vs : List Variant) → datainfo_text (Datainfo.enum vs) ≡ opening 4 ++ listed true (variant_values vs) ++ closing 4
  unfolding datainfo_text datainfo_value compact compact_members more_members quoted bytes opening closing
  enum_is vs = rw (listed_first (variant_values vs)) (ap (λ (l : List ℕ). bytes "{\"type\":\"enum\",\"members\":{" ++ l) (closed (compact_members (variant_values vs)) 125 125))

  tuple_is : (ds : Elements) → datainfo_text (Datainfo.tuple ds) ≡ opening 7 ++ listed_items true (element_values ds) ++ closing 7
  unfolding datainfo_text datainfo_value compact compact_members more_members quoted bytes opening closing
  tuple_is ds = rw (items_first (element_values ds)) (ap (λ (l : List ℕ). bytes "{\"type\":\"tuple\",\"members\":[" ++ l) (closed (compact_items (element_values ds)) 93 125))

  struct_is : (fs : Fields) → datainfo_text (Datainfo.struct fs) ≡ opening 8 ++ listed true (field_values fs) ++ closing 8
  unfolding datainfo_text datainfo_value compact compact_members more_members quoted bytes opening closing
  struct_is fs = rw (listed_first (field_values fs)) (ap (λ (l : List ℕ). bytes "{\"type\":\"struct\",\"members\":{" ++ l) (closed (compact_members (field_values fs)) 125 125))

  partial_is : (ns : List (List ℕ)) (fs : Fields) → datainfo_text (Datainfo.partial ns fs) ≡ opening 11 ++ listed true (field_values fs) ++ closing 11
  unfolding datainfo_text datainfo_value compact compact_members more_members compact_items quoted bytes opening closing
  partial_is ns fs = rw (listed_first (field_values fs)) (ap (λ (l : List ℕ). bytes "{\"type\":\"struct\",\"members\":{" ++ l) (closed_with (compact_members (field_values fs)) (bytes ",\"optional\":[]")))

  -- members of the kind k, which f reads and g tells, made into a datainfo
  module _ {A : Type 0} (k : ℕ) (f : ℕ → List ℕ → Option (A × List ℕ)) (g : A → List ℕ) (m : A → Datainfo) (are : (n : ℕ) (xs : List ℕ) → members_text inner k true n xs ≡ told g (f n xs)) (same : (a : A) → datainfo_text (m a) ≡ opening k ++ g a ++ closing k) where
    list_is : (xs : List ℕ) → list_text inner k xs ≡ told datainfo_text (unsigned 1 xs >>= λ n. f n.0 n.1 >>= λ q. Some (m q.0, q.1))
    unfolding list_text count_text
    list_is xs = go (unsigned 1 xs)
      where
        last : (o : Option (A × List ℕ)) → told (λ t. opening k ++ t ++ closing k) (told g o) ≡ told datainfo_text (o >>= λ q. Some (m q.0, q.1))
        last None = refl
        last (Some q) = rw (same q.0)

        go : (o : Option (ℕ × List ℕ)) → told (λ t. opening k ++ t ++ closing k) (o >>= λ n. members_text inner k true n.0 n.1) ≡ told datainfo_text (o >>= λ n. f n.0 n.1 >>= λ q. Some (m q.0, q.1))
        go None = refl
        go (Some n) = rw (are n.0 n.1) (last (f n.0 n.1))

  pub enum_list : (xs : List ℕ) → list_text inner 4 xs ≡ told datainfo_text (enum_at xs)
  unfolding enum_at
  enum_list xs = list_is 4 variants (λ vs. listed true (variant_values vs)) Datainfo.enum (variants_text true) enum_is xs

  pub tuple_list : (xs : List ℕ) → list_text inner 7 xs ≡ told datainfo_text (tuple_at inner xs)
  unfolding tuple_at
  tuple_list xs = list_is 7 (elements inner) (λ ds. listed_items true (element_values ds)) Datainfo.tuple (elements_text true) tuple_is xs

  pub struct_list : (xs : List ℕ) → list_text inner 8 xs ≡ told datainfo_text (struct_at inner xs)
  unfolding struct_at
  struct_list xs = list_is 8 (fields inner 8) (fields_listed true) (λ m. Datainfo.struct m.1) (fields_text 8 refl refl true) (λ m. struct_is m.1) xs

  pub partial_list : (xs : List ℕ) → list_text inner 11 xs ≡ told datainfo_text (partial_at inner xs)
  unfolding partial_at
  partial_list xs = list_is 11 (fields inner 11) (fields_listed true) (λ m. Datainfo.partial m.0 m.1) (fields_text 11 refl refl true) (λ m. partial_is m.0 m.1) xs

  -- ## What a member leaves

  held_rest : (k : ℕ) (xs : List ℕ) → rest (held_text inner k xs) ≡ after_held inner k xs
  unfolding held_text after_held
  held_rest k xs = go (eqb k 4)
    where
      go : (b : Bool) → rest (cond b (told integer (signed 4 xs)) (told datainfo_text (inner xs))) ≡ cond b (rest (part 4 xs)) (rest (inner xs))
      go true = rest_told integer (signed 4 xs) ∙ signed_rest 4 xs
      go false = rest_told datainfo_text (inner xs)

  pub member_rest : (k : ℕ) (xs : List ℕ) → rest (member_text inner k xs) ≡ after_member inner k xs
  unfolding member_text after_member
  member_rest k xs = go (eqb k 7)
    where
      named : (o : Option ((Bool × List ℕ) × List ℕ)) → rest (o >>= λ n. told (λ t. quoted n.0.1 ++ bytes ":" ++ t) (held_text inner k n.1)) ≡ (rest o >>= after_held inner k)
      named None = refl
      named (Some n) = rest_told (λ t. quoted n.0.1 ++ bytes ":" ++ t) (held_text inner k n.1) ∙ held_rest k n.1

      go : (b : Bool) → rest (cond b (told datainfo_text (inner xs)) (entry k xs >>= λ n. told (λ t. quoted n.0.1 ++ bytes ":" ++ t) (held_text inner k n.1))) ≡ cond b (rest (inner xs)) (rest (entry k xs) >>= after_held inner k)
      go true = rest_told datainfo_text (inner xs)
      go false = named (entry k xs)
