-- Laws of the datainfos that hold others, and of a datainfo by its type byte, one for each way through a function. Assumes nothing.
use Rattle.std.specs.Prelude.{Option, Some, None, unwrap_or}
use Prim.Native.Nat.{ℕ, zero, suc, ◌+◌, ◌-◌, ◌≤◌, ◌<◌}
use native.Mathlib.Numerals.{sub-one}
use native.Mathlib.Omega.{arith}
use mathlib.Core.Path.{◌≡◌, refl, ◌∙◌}
use mathlib.Core.Bool.{Bool, false}
use mathlib.Core.List.{List, [], ◌++◌}
use lib.Dec.{eqb}
use lib.ListN.{length, get_or, drop}
use borrow.Author.Tests.{eq-eqb, ne_eqb}
use Rattle.ascii.specs.Text.{bytes}
use Rattle.ascii.specs.Bytes.{◌>>=◌}
use Rattle.ascii.specs.Numbers.{integer, signed}
use Rattle.ascii.specs.Clauses.Reader.{Ends}
use Rattle.json_text.specs.Json.{quoted, compact, compact_members, more_members}
use Rattle.datainfo.specs.Datainfo.{Datainfo}
use Rattle.datainfo.specs.Layout.{entry, double_at, int_at, string_at, array_at, scaled_at, blob_at, typed, datainfo_in}
use Rattle.datainfo.specs.Clauses.Members.{after_member}
use Rattle.datainfo.specs.Clauses.Obeyed.{name_in}
use Rattle.datainfo.proofs.Ends.{no_byte, one_byte, datainfo_cut, datainfo_typed}
use Rattle.report.specs.Report.{datainfo_value}
use Rattle.emit.specs.Clauses.Emitted.{Emits, comma, told, Says}
use Rattle.infos.specs.Clauses.Texts.{NameEnds, datainfo_text, opening, closing, held_text, member_text, members_text, count_text, list_text}
use Rattle.emit.proofs.Pieces.{both, nothing}
use Rattle.emit.proofs.Says.{says_nothing, says_text, Leads, parts_none, parts_more}
use Rattle.infos.proofs.Lists.{enum_list, tuple_list, struct_list, partial_list, member_rest}

-- ## A member of the kind k

module _ (s : List ℕ) (i l k : ℕ) {d h : List ℕ} {at r : ℕ} where
  pub member_plain : k ≡ 7 → Says (told datainfo_text (datainfo_in l (drop i s))) d at h r → Says (member_text (datainfo_in l) k (drop i s)) d at h r
  unfolding member_text
  member_plain z x = rw z x

  module _ (n7 : k ≡ 7 → ⊥) (j : ℕ) (e : NameEnds s i k j) {f : List ℕ} {p : ℕ} (x : Emits d at (quoted (name_in k (drop i s)) ++ bytes ":") f p) where
    named : Says (held_text (datainfo_in l) k (drop j s)) f p h r → Says (member_text (datainfo_in l) k (drop i s)) d at h r
    unfolding member_text name_in
    named y = rw (ne_eqb k 7 n7) (go (entry k (drop i s)) refl x)
      where
        held : (name : List ℕ) → Emits d at (quoted name ++ bytes ":") f p → (o : Option (List ℕ × List ℕ)) → Says o f p h r → Says (told (λ t. quoted name ++ bytes ":" ++ t) o) d at h r
        held name w None y = says_nothing refl
        held name w (Some t) y = says_text refl (both w (y.is refl))

        go : (o : Option ((Bool × List ℕ) × List ℕ)) → entry k (drop i s) ≡ o → Emits d at (quoted (unwrap_or (o >>= λ p. Some p.0.1) []) ++ bytes ":") f p → Says (o >>= λ n. told (λ t. quoted n.0.1 ++ bytes ":" ++ t) (held_text (datainfo_in l) k n.1)) d at h r
        go None g w = says_nothing refl
        go (Some n) g w = rw (e.is g) (held n.0.1 w (held_text (datainfo_in l) k (drop j s)) y)

    pub member_variant : k ≡ 4 → Says (told integer (signed 4 (drop j s))) f p h r → Says (member_text (datainfo_in l) k (drop i s)) d at h r
    unfolding held_text
    member_variant u y = named (rw (eq-eqb k 4 u) y)

    pub member_field : (k ≡ 4 → ⊥) → Says (told datainfo_text (datainfo_in l (drop j s))) f p h r → Says (member_text (datainfo_in l) k (drop i s)) d at h r
    unfolding held_text
    member_field u y = named (rw (ne_eqb k 4 u) y)

-- ## As many members as the count byte says

-- the members to come from position j on
abbrev pub to_come : List ℕ → ℕ → ℕ → Bool → ℕ → ℕ → Option (List ℕ × List ℕ)
to_come s l k first n j = members_text (datainfo_in l) k first n (drop j s)

module _ (s : List ℕ) (i l k : ℕ) {d : List ℕ} {at : ℕ} where
  pub members_none : {h : List ℕ} {r : ℕ} → length s ≤ i → Says (count_text (datainfo_in l) k (drop i s)) d at h r
  unfolding count_text
  members_none w = says_nothing (rw (no_byte s i w))

  pub members_start : (n : ℕ) → i < length s → n ≡ get_or s i 0 → Leads (count_text (datainfo_in l) k (drop i s)) d at (to_come s l k (eqb 0 0) n (i + 1)) d at
  unfolding count_text
  members_start n w c = record { says = λ y. rw (one_byte s i w, ← c) y }

  pub list_told : {e f h : List ℕ} {p q r : ℕ} → Emits d at (opening k) e p → Says (count_text (datainfo_in l) k (drop i s)) e p f q → Emits f q (closing k) h r → Says (list_text (datainfo_in l) k (drop i s)) d at h r
  unfolding list_text
  list_told {e} {f} {h} {p} {q} {r} x y z = go (count_text (datainfo_in l) k (drop i s)) y
    where
      go : (o : Option (List ℕ × List ℕ)) → Says o e p f q → Says (told (λ t. opening k ++ t ++ closing k) o) d at h r
      go None y = says_nothing refl
      go (Some t) y = says_text refl (both (both x (y.is refl)) z)

-- no member after another is the first
pub not_first : (m : ℕ) → eqb (m + 1) 0 ≡ false
not_first m = ne_eqb (m + 1) 0 (omega arith)

members_step : (f : List ℕ → Option (Datainfo × List ℕ)) (k : ℕ) (first : Bool) (n : ℕ) (xs : List ℕ) → 0 < n → members_text f k first n xs ≡ (member_text f k xs >>= λ p. told (λ t. comma first ++ p.0 ++ t) (members_text f k false (n - 1) p.1))
unfolding members_text
members_step f k first zero xs h = absurd (omega arith)
members_step f k first (suc n) xs h = rw (sub-one (suc n))

-- n members are to come, from position j on
module _ (s : List ℕ) (l k n j : ℕ) (first : Bool) (o : Option (List ℕ × List ℕ)) (d d' : List ℕ) (at p : ℕ) (go : Leads o d at (to_come s l k first n j) d' p) where
  pub members_end : n ≤ 0 → p ≤ 18446744073709551615 → Says o d at d' p
  unfolding members_text
  members_end w h = let z : n ≡ 0 = omega arith in go.says (rw z (says_text refl (nothing d' p h)))

  module _ (w : 0 < n) (q : Option ℕ) (e : Ends s q (after_member (datainfo_in l) k (drop j s))) where
    pub members_bad : q ≡ None → {h : List ℕ} {r : ℕ} → Says o d at h r
    members_bad z =
        go.says
        (says_nothing (rw (members_step (datainfo_in l) k first n (drop j s) w) (parts_none first (member_text (datainfo_in l) k (drop j s)) (members_text (datainfo_in l) k false (n - 1)) (member_rest (datainfo_in l) k (drop j s) ∙ rw z at e))))

    pub members_more : (j' : ℕ) → q ≡ Some j' → {f g : List ℕ} {p1 p2 : ℕ} → Emits d' p (comma first) f p1 → Says (member_text (datainfo_in l) k (drop j s)) f p1 g p2 → (start : Bool) → start ≡ false → (n' : ℕ) → n' ≡ n - 1
        → Leads o d at (to_come s l k start n' j') g p2
    members_more j' z x y start u n' v =
        rw (u, v) record {
          says = λ u. go.says
              (rw (members_step (datainfo_in l) k first n (drop j s) w)
              ((parts_more first (member_text (datainfo_in l) k (drop j s)) (members_text (datainfo_in l) k false (n - 1)) (member_rest (datainfo_in l) k (drop j s) ∙ (rw z at e).0) x y).says u));
        }

-- ## What follows the type byte k

module _ (s : List ℕ) (i l k : ℕ) {d h : List ℕ} {at r : ℕ} where
  pub typed_double : k ≡ 1 → Says (told datainfo_text (double_at (drop i s))) d at h r → Says (told datainfo_text (typed (datainfo_in l) k (drop i s))) d at h r
  unfolding typed
  typed_double z x = rw z x

  pub typed_int : k ≡ 2 → Says (told datainfo_text (int_at (drop i s))) d at h r → Says (told datainfo_text (typed (datainfo_in l) k (drop i s))) d at h r
  unfolding typed
  typed_int z x = rw z x

  pub typed_bool : k ≡ 3 → Emits d at (bytes "{\"type\":\"bool\"}") h r → Says (told datainfo_text (typed (datainfo_in l) k (drop i s))) d at h r
  unfolding typed datainfo_text datainfo_value compact compact_members more_members quoted bytes
  typed_bool z x = rw z (says_text refl x)

  pub typed_enum : k ≡ 4 → Says (list_text (datainfo_in l) 4 (drop i s)) d at h r → Says (told datainfo_text (typed (datainfo_in l) k (drop i s))) d at h r
  unfolding typed
  typed_enum z x = rw z (rw (enum_list (datainfo_in l) (drop i s)) at x)

  pub typed_string : k ≡ 5 → Says (told datainfo_text (string_at (drop i s))) d at h r → Says (told datainfo_text (typed (datainfo_in l) k (drop i s))) d at h r
  unfolding typed
  typed_string z x = rw z x

  pub typed_array : k ≡ 6 → Says (told datainfo_text (array_at (datainfo_in l) (drop i s))) d at h r → Says (told datainfo_text (typed (datainfo_in l) k (drop i s))) d at h r
  unfolding typed
  typed_array z x = rw z x

  pub typed_tuple : k ≡ 7 → Says (list_text (datainfo_in l) 7 (drop i s)) d at h r → Says (told datainfo_text (typed (datainfo_in l) k (drop i s))) d at h r
  unfolding typed
  typed_tuple z x = rw z (rw (tuple_list (datainfo_in l) (drop i s)) at x)

  pub typed_struct : k ≡ 8 → Says (list_text (datainfo_in l) 8 (drop i s)) d at h r → Says (told datainfo_text (typed (datainfo_in l) k (drop i s))) d at h r
  unfolding typed
  typed_struct z x = rw z (rw (struct_list (datainfo_in l) (drop i s)) at x)

  pub typed_scaled : k ≡ 9 → Says (told datainfo_text (scaled_at (drop i s))) d at h r → Says (told datainfo_text (typed (datainfo_in l) k (drop i s))) d at h r
  unfolding typed
  typed_scaled z x = rw z x

  pub typed_blob : k ≡ 10 → Says (told datainfo_text (blob_at (drop i s))) d at h r → Says (told datainfo_text (typed (datainfo_in l) k (drop i s))) d at h r
  unfolding typed
  typed_blob z x = rw z x

  pub typed_partial : k ≡ 11 → Says (list_text (datainfo_in l) 11 (drop i s)) d at h r → Says (told datainfo_text (typed (datainfo_in l) k (drop i s))) d at h r
  unfolding typed
  typed_partial z x = rw z (rw (partial_list (datainfo_in l) (drop i s)) at x)

  pub typed_unknown : (k ≡ 1 → ⊥) → (k ≡ 2 → ⊥) → (k ≡ 3 → ⊥) → (k ≡ 4 → ⊥) → (k ≡ 5 → ⊥) → (k ≡ 6 → ⊥) → (k ≡ 7 → ⊥) → (k ≡ 8 → ⊥) → (k ≡ 9 → ⊥) → (k ≡ 10 → ⊥) → (k ≡ 11 → ⊥)
      → Says (told datainfo_text (typed (datainfo_in l) k (drop i s))) d at h r
  unfolding typed
  typed_unknown a b c d e f g h i j m =
      says_nothing (simp (ne_eqb k 1 a, ne_eqb k 2 b, ne_eqb k 3 c, ne_eqb k 4 d, ne_eqb k 5 e, ne_eqb k 6 f, ne_eqb k 7 g, ne_eqb k 8 h, ne_eqb k 9 i, ne_eqb k 10 j, ne_eqb k 11 m))

-- ## A datainfo

module _ (s : List ℕ) (i l : ℕ) {d h : List ℕ} {at r : ℕ} where
  pub datainfo_fifth : l ≡ 0 → Says (told datainfo_text (datainfo_in l (drop i s))) d at h r
  unfolding datainfo_in
  datainfo_fifth z = says_nothing (rw z)

  module _ (n : l ≡ 0 → ⊥) where
    pub datainfo_none : length s ≤ i → Says (told datainfo_text (datainfo_in l (drop i s))) d at h r
    datainfo_none w = says_nothing (rw (datainfo_cut s i l n w))

    pub datainfo_some : i < length s → Says (told datainfo_text (typed (datainfo_in (l - 1)) (get_or s i 0) (drop (i + 1) s))) d at h r → Says (told datainfo_text (datainfo_in l (drop i s))) d at h r
    datainfo_some w x = rw (datainfo_typed s i l n w) x
