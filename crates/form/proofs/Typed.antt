-- Laws of a datainfo by its type byte, one for each way through the function that writes a value by it. Assumes nothing.
use Rattle.std.specs.Prelude.{Option, Some, None}
use Prim.Native.Nat.{ℕ, zero, suc, ◌-◌}
use native.Mathlib.Nat.{zero-add}
use native.Mathlib.Numerals.{sub-one}
use native.Mathlib.Omega.{arith}
use mathlib.Core.Path.{◌≡◌, refl, sym, ap, ◌∙◌}
use mathlib.Core.Bool.{Bool, true, false, cond}
use mathlib.Core.List.{List}
use lib.ListN.{length, drop}
use lib.Dec.{eqb}
use Rattle.ascii.specs.Numbers.{unsigned, signed}
use Rattle.ascii.specs.Clauses.Read.{ReadsValue}
use Rattle.json_text.specs.Json.{Json, null, boolean, scalar, bare, value, text}
use Rattle.datainfo.specs.Datainfo.{Datainfo, double, int, bool, string, scaled, blob}
use Rattle.datainfo.specs.Layout.{limit, double_at, int_at, string_at, enum_at, array_at, tuple_at, scaled_at, blob_at, typed, datainfo_in}
use Rattle.datainfo.specs.Clauses.Members.{members_at}
use Rattle.datainfo.proofs.Structs.{struct_members, partial_members}
use Rattle.fit.specs.Fit.{Verdict, fits, expect, as_boolean, as_string, as_array, as_object, double_fit, whole_fit, between_integers, string_fit, blob_fit, fit, numbered}
use Rattle.fit.proofs.Shapes.{nothing, just, steps, either}
use Rattle.form.specs.Clauses.Formed.{Copies, Forms, FormsStruct, FormsText, FormIsLong}
use Rattle.form.proofs.Scalars.{Single, number_single, bare_scalar}

-- ## Types that hold no values and no names

boolean_single : (j : Json) (f : Bool → Verdict) → expect (as_boolean j) f ≡ fits → Single j
unfolding expect as_boolean as_array as_object
boolean_single null f e = (refl, refl)
boolean_single (boolean b) f e = (refl, refl)
boolean_single (Json.number t) f e = (refl, refl)
boolean_single (Json.string t) f e = (refl, refl)
boolean_single (Json.array is) f e = let n : ◌≡◌ {A = ℕ} 0 1 = cc in absurd (omega arith)
boolean_single (Json.object ms) f e = let n : ◌≡◌ {A = ℕ} 0 1 = cc in absurd (omega arith)

string_single : (j : Json) (f : List ℕ → Verdict) → expect (as_string j) f ≡ fits → Single j
unfolding expect as_string as_array as_object
string_single null f e = (refl, refl)
string_single (boolean b) f e = (refl, refl)
string_single (Json.number t) f e = (refl, refl)
string_single (Json.string t) f e = (refl, refl)
string_single (Json.array is) f e = let n : ◌≡◌ {A = ℕ} 0 1 = cc in absurd (omega arith)
string_single (Json.object ms) f e = let n : ◌≡◌ {A = ℕ} 0 1 = cc in absurd (omega arith)

-- what fits is one token, and stored as it is
abbrev Plain : Datainfo → Type 0
Plain d = (j : Json) → fit d j ≡ fits → Single j × (numbered d j ≡ j)

double_plain : (lo hi : _) → Plain (double lo hi)
unfolding fit numbered
double_plain lo hi j e = (number_single j (double_fit lo hi) e, refl)

int_plain : (lo hi : _) → Plain (int lo hi)
unfolding fit numbered
int_plain lo hi j e = (number_single j (whole_fit (between_integers lo hi)) e, refl)

bool_plain : Plain bool
unfolding fit numbered
bool_plain j e = (boolean_single j (λ b. fits) e, refl)

string_plain : (lo hi : ℕ) → Plain (string lo hi)
unfolding fit numbered
string_plain lo hi j e = (string_single j (string_fit lo hi) e, refl)

scaled_plain : (s : _) (lo hi : _) → Plain (scaled s lo hi)
unfolding fit numbered
scaled_plain s lo hi j e = (number_single j (whole_fit (between_integers lo hi)) e, refl)

blob_plain : (lo hi : ℕ) → Plain (blob lo hi)
unfolding fit numbered
blob_plain lo hi j e = (string_single j (blob_fit lo hi) e, refl)

-- the type byte k of any other type
typed_plain : (f : List ℕ → Option (Datainfo × List ℕ)) (k : ℕ) (xs : List ℕ) {d : Datainfo} {x : List ℕ} → (k ≡ 4 → ⊥) → (k ≡ 6 → ⊥) → (k ≡ 7 → ⊥) → (k ≡ 8 → ⊥) → (k ≡ 11 → ⊥)
    → typed f k xs ≡ Some (d, x) → Plain d
unfolding typed double_at int_at string_at scaled_at blob_at
typed_plain f k xs n4 n6 n7 n8 n11 e =
    either k 1 _ _ e (λ _ e. steps (limit xs) _ e λ p a e. steps (limit p.1) _ e λ q b e. rw (← (ap (λ p. p.0) (just e))) (double_plain p.0 q.0)) λ _ e.
    either k 2 _ _ e (λ _ e. steps (signed 8 xs) _ e λ p a e. steps (signed 8 p.1) _ e λ q b e. rw (← (ap (λ p. p.0) (just e))) (int_plain p.0 q.0)) λ _ e.
    either k 3 _ _ e (λ _ e. rw (← (ap (λ p. p.0) (just e))) bool_plain) λ _ e.
    either k 4 _ _ e (λ z _. absurd (n4 z)) λ _ e.
    either k 5 _ _ e (λ _ e. steps (unsigned 2 xs) _ e λ p a e. steps (unsigned 2 p.1) _ e λ q b e. rw (← (ap (λ p. p.0) (just e))) (string_plain p.0 q.0)) λ _ e.
    either k 6 _ _ e (λ z _. absurd (n6 z)) λ _ e.
    either k 7 _ _ e (λ z _. absurd (n7 z)) λ _ e.
    either k 8 _ _ e (λ z _. absurd (n8 z)) λ _ e.
    either k 9 _ _ e (λ _ e. steps (limit xs) _ e λ s c e. steps (signed 8 s.1) _ e λ p a e. steps (signed 8 p.1) _ e λ q b e. rw (← (ap (λ p. p.0) (just e))) (scaled_plain s.0 p.0 q.0)) λ _ e.
    either k 10 _ _ e (λ _ e. steps (unsigned 2 xs) _ e λ p a e. steps (unsigned 2 p.1) _ e λ q b e. rw (← (ap (λ p. p.0) (just e))) (blob_plain p.0 q.0)) λ _ e.
    either k 11 _ _ e (λ z _. absurd (n11 z)) λ _ e. absurd (nothing e)

-- ## By the type byte

module _ {o : Option (Datainfo × List ℕ)} {q : Option (Json × List ℕ)} {before after : List ℕ} {at end : ℕ} where
  forms_none : o ≡ None → Forms o q before at after end
  forms_none e = record { is = λ f g h. absurd (nothing (sym e ∙ f)) }

  forms_like : {p : Option (Datainfo × List ℕ)} → o ≡ p → Forms p q before at after end → Forms o q before at after end
  forms_like e h = rw e h

-- the type byte b, and what follows it
pub is_typed : (s : List ℕ) (i levels : ℕ) → (levels ≡ 0 → ⊥) → (u : Option (ℕ × ℕ)) → ReadsValue s u (unsigned 1 (drop i s)) → (b inner : ℕ)
    → u ≡ Some (b, inner) → datainfo_in levels (drop i s) ≡ typed (datainfo_in (levels - 1)) b (drop inner s)
unfolding datainfo_in
is_typed s i levels n u k b inner e = go levels n
  where
    go : (l : ℕ) → (l ≡ 0 → ⊥) → datainfo_in l (drop i s) ≡ typed (datainfo_in (l - 1)) b (drop inner s)
    go zero z = absurd (z refl)
    go (suc l) z = rw (sub-one (suc l)) (simp (rw e at k).0)

module _ (s : List ℕ) (i levels : ℕ) (q : Option (Json × List ℕ)) {before after : List ℕ} {at end : ℕ} where
  pub forms_fifth : levels ≡ 0 → Forms (datainfo_in levels (drop i s)) q before at after end
  unfolding datainfo_in
  forms_fifth e = forms_none (rw e)

  module _ (n : levels ≡ 0 → ⊥) (u : Option (ℕ × ℕ)) (k : ReadsValue s u (unsigned 1 (drop i s))) where
    pub forms_short : u ≡ None → Forms (datainfo_in levels (drop i s)) q before at after end
    unfolding datainfo_in
    forms_short e = forms_none (go levels n)
      where
        go : (l : ℕ) → (l ≡ 0 → ⊥) → datainfo_in l (drop i s) ≡ None
        go zero z = absurd (z refl)
        go (suc l) z = simp (rw e at k)

    module _ (b inner : ℕ) (e : u ≡ Some (b, inner)) where
      pub forms_enum : b ≡ 4 → Forms (enum_at (drop inner s)) q before at after end → Forms (datainfo_in levels (drop i s)) q before at after end
      unfolding typed
      forms_enum z h = forms_like (is_typed s i levels n u k b inner e) (rw z h)

      pub forms_array : b ≡ 6 → Forms (array_at (datainfo_in (levels - 1)) (drop inner s)) q before at after end → Forms (datainfo_in levels (drop i s)) q before at after end
      unfolding typed
      forms_array z h = forms_like (is_typed s i levels n u k b inner e) (rw z h)

      pub forms_tuple : b ≡ 7 → Forms (tuple_at (datainfo_in (levels - 1)) (drop inner s)) q before at after end → Forms (datainfo_in levels (drop i s)) q before at after end
      unfolding typed
      forms_tuple z h = forms_like (is_typed s i levels n u k b inner e) (rw z h)

      pub forms_struct : b ≡ 8 → FormsStruct (members_at (datainfo_in (levels - 1)) 8 (drop inner s)) q before at after end
          → Forms (datainfo_in levels (drop i s)) q before at after end
      unfolding typed
      forms_struct z h = forms_like (is_typed s i levels n u k b inner e)
          (rw z (record { is = λ f g x. struct_members (datainfo_in (levels - 1)) (drop inner s) f λ m a o. rw o (h.is a g (rw o at x)) }))

      -- inside a value type 11 is as type 8
      pub forms_partial : b ≡ 11 → FormsStruct (members_at (datainfo_in (levels - 1)) 11 (drop inner s)) q before at after end
          → Forms (datainfo_in levels (drop i s)) q before at after end
      unfolding typed fit numbered
      forms_partial z h = forms_like (is_typed s i levels n u k b inner e)
          (rw z (record { is = λ f g x. partial_members (datainfo_in (levels - 1)) (drop inner s) f λ m a o. rw o (h.is a g (rw o at x)) }))

module _ (s : List ℕ) (i levels : ℕ) (v : List ℕ) (p depth : ℕ) {before after : List ℕ} {at end : ℕ} (n : levels ≡ 0 → ⊥) (u : Option (ℕ × ℕ))
    (k : ReadsValue s u (unsigned 1 (drop i s))) (b inner : ℕ) (e : u ≡ Some (b, inner)) where
  pub forms_enum_at : b ≡ 4 → ((depth : ℕ) → Forms (enum_at (drop inner s)) (bare depth (drop p v)) before at after end)
      → Forms (datainfo_in levels (drop i s)) (bare depth (drop p v)) before at after end
  forms_enum_at z h = forms_enum s i levels (bare depth (drop p v)) n u k b inner e z (h depth)

  pub forms_plain : (b ≡ 4 → ⊥) → (b ≡ 6 → ⊥) → (b ≡ 7 → ⊥) → (b ≡ 8 → ⊥) → (b ≡ 11 → ⊥) → Copies (scalar (drop p v)) before at after end
      → Forms (datainfo_in levels (drop i s)) (bare depth (drop p v)) before at after end
  forms_plain n4 n6 n7 n8 n11 w = record {
    is = λ {j = j} f g h.
        let t = typed_plain (datainfo_in (levels - 1)) b (drop inner s) n4 n6 n7 n8 n11 (sym (is_typed s i levels n u k b inner e) ∙ f) j h in
        rw t.1 (w.is (bare_scalar depth (drop p v) g t.0.0 t.0.1));
  }

-- ## A whole text

pub text_value : {S : Type 0} (xs : List ℕ) {j : Json} → text xs ≡ Some j → ((y : List ℕ) → value 8 xs ≡ Some (j, y) → S) → S
unfolding text
text_value {S} xs {j} e f = steps (value 8 xs) _ e λ p a e. go (eqb (length p.1) 0) p a e
  where
    go : (b : Bool) (p : Json × List ℕ) → value 8 xs ≡ Some p → cond b (Some p.0) None ≡ Some j → S
    go true p a e = f p.1 (a ∙ ap (λ j. Some (j, p.1)) (just e))
    go false p a e = absurd (nothing e)

-- a form that is written nowhere is measured
pub form_measured : (o : Option (Datainfo × List ℕ)) (v before after : List ℕ) (n : ℕ) → FormsText o v before 0 after n → FormIsLong o v n
form_measured o v before after n h = record { is = λ {d = d} e q f. rw zero-add at (h.is e q f).ends }
