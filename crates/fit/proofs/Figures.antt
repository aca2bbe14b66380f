-- Laws of values that are numbers. Assumes nothing.
use Rattle.std.specs.Prelude.{Option, Some, None, Result, Ok, Err}
use Prim.Native.Nat.{ℕ, zero, suc, ◌-◌, ◌≤◌, ◌<◌}
use native.Mathlib.Numerals.{sub-one}
use native.Mathlib.Omega.{arith}
use mathlib.Core.Path.{◌≡◌, refl, sym, ap, ◌∙◌}
use mathlib.Core.Bool.{Bool, true, false, cond, ◌&&◌, ◌||◌}
use mathlib.Core.List.{List, [], ◌∷◌}
use lib.ListN.{length, take, drop, length-drop, length-append}
use lib.IntN.{ℤ, pos}
use lib.Dec.{eqb}
use mir.Syntax.{Width, w8, w64}
use mir.Val.{SFits, to_z, of_z}
use mir.Facts.{to_z-of_z}
use borrow.Author.Tests.{ne_eqb}
use Rattle.ascii.specs.Bytes.{is_some, any}
use Rattle.ascii.specs.Numbers.{unsigned, signed}
use Rattle.ascii.specs.Clauses.Reader.{Ends, rest}
use Rattle.ascii.specs.Clauses.Read.{ReadsValue}
use Rattle.decimal.specs.Token.{is_whole}
use Rattle.decimal.specs.Token as Token
use Rattle.decimal.specs.Decimal.{Decimal, between, exactly, is_within_limits}
use Rattle.decimal.specs.Clauses.Exact.{decimal, ValueOf, lies_between}
use Rattle.decimal.proofs.Values.{lies}
use Rattle.json_text.specs.Json.{Json, null, boolean, bare, up_to}
use Rattle.json_text.proofs.ReadAgain.{of_some, number_takes}
use Rattle.datainfo.specs.Datainfo.{Datainfo, Variant, double, int, enum, bool, scaled}
use Rattle.datainfo.specs.Layout.{limit, double_at, int_at, counted, variants, enum_at, string_at, scaled_at, blob_at}
use Rattle.datainfo.specs.Clauses.Obeyed.{ReadsLimit}
use Rattle.fit.specs.Fit.{fits, rangeError, wrongType, in_range, expect, expect_or, as_number, as_string, double_fit, whole_fit, between_integers, is_variant, fit}
use Rattle.fit.specs.Clauses.Verdict.{meaning, Judges, numeric, plain}
use Rattle.fit.proofs.Judged.{judges_none, judges_is, judges_of, same_read, same_left}
use Rattle.fit.proofs.Shapes.{just, nothing, steps, either, shape, tells_yes, tells_no, as_number_lem}
use Rattle.decimal.specs.declared.compare.Exact.{Exact}
use Rattle.fit.specs.declared.Misfit.{Misfit}
use Rattle.fit.specs.declared.Misfit.TheVariants.{RangeError, WrongType}

-- a signed number is handed on as its bits, and read back
abbrev back : Width → ℤ → ℤ
back w z = to_z w (of_z w z)

pub range_fits : (b : Bool) → b ≡ true → fits ≡ in_range b
unfolding in_range
range_fits b e = rw e

pub range_error : (b : Bool) → b ≡ false → rangeError ≡ in_range b
unfolding in_range
range_error b e = rw e

-- ## double: two limits

module _ (s : List ℕ) (at : ℕ) (t : List ℕ) (r : Result Unit Misfit) (u : Option (ℤ × ℤ × ℕ)) (k : ReadsLimit s u (limit (drop at s))) where
  pub double_1 : u ≡ None → Judges (double_at (drop at s)) (Some (Json.number t, [])) r
  unfolding double_at
  double_1 e = judges_none (simp (rw e at k))

  module _ (lo lp : ℤ) (a : ℕ) (e : u ≡ Some (lo, lp, a)) (w : Option (ℤ × ℤ × ℕ)) (l : ReadsLimit s w (limit (drop a s))) where
    pub double_2 : w ≡ None → Judges (double_at (drop at s)) (Some (Json.number t, [])) r
    unfolding double_at
    double_2 f = judges_none (simp ((rw e at k).0, rw f at l))

    pub double_good : (hi hp : ℤ) (b : ℕ) → w ≡ Some (hi, hp, b) → SFits w64 lo → SFits w8 lp → SFits w64 hi → SFits w8 hp → (c : Bool)
        → c ≡ (is_within_limits t && between (decimal (back w64 lo) (back w8 lp)) (decimal (back w64 hi) (back w8 hp)) (exactly t)) → meaning r ≡ in_range c
        → Judges (double_at (drop at s)) (Some (Json.number t, [])) r
    unfolding double_at fit expect as_number double_fit
    double_good hi hp b f i1 i2 i3 i4 c z h = judges_is {d = double (decimal lo lp) (decimal hi hp)} {x = drop b s} (simp ((rw e at k).0, (rw f at l).0)) refl
        (rw (z, to_z-of_z i1, to_z-of_z i2, to_z-of_z i3, to_z-of_z i4) at h)

-- ## int: two limits

module _ (lo hi : ℤ) (t : List ℕ) (o : Bool) (g : o ≡ is_whole t) where
  pub whole_good : o ≡ true → SFits w64 lo → SFits w64 hi → (i : Bool) (r : Result Unit Misfit)
      → i ≡ (is_within_limits t && between (decimal (back w64 lo) (pos 0)) (decimal (back w64 hi) (pos 0)) (exactly t)) → meaning r ≡ in_range i
      → meaning r ≡ whole_fit (between_integers lo hi) t
  unfolding whole_fit between_integers
  whole_good h i1 i2 i r m n = rw (← g, h) (rw (m, to_z-of_z i1, to_z-of_z i2) at n)

  pub whole_wrong : o ≡ false → wrongType ≡ whole_fit (between_integers lo hi) t
  unfolding whole_fit
  whole_wrong h = rw (← g, h)

module _ (s : List ℕ) (at : ℕ) (t : List ℕ) (r : Result Unit Misfit) (u : Option (ℤ × ℕ)) (k : ReadsValue s u (signed 8 (drop at s))) where
  pub int_1 : u ≡ None → Judges (int_at (drop at s)) (Some (Json.number t, [])) r
  unfolding int_at
  int_1 e = judges_none (simp (rw e at k))

  module _ (lo : ℤ) (a : ℕ) (e : u ≡ Some (lo, a)) (w : Option (ℤ × ℕ)) (l : ReadsValue s w (signed 8 (drop a s))) where
    pub int_2 : w ≡ None → Judges (int_at (drop at s)) (Some (Json.number t, [])) r
    unfolding int_at
    int_2 f = judges_none (simp ((rw e at k).0, rw f at l))

    pub int_good : (hi : ℤ) (b : ℕ) → w ≡ Some (hi, b) → SFits w64 lo → SFits w64 hi → meaning r ≡ whole_fit (between_integers (back w64 lo) (back w64 hi)) t → Judges (int_at (drop at s)) (Some (Json.number t, [])) r
    unfolding int_at fit expect as_number
    int_good hi b f i1 i2 h = judges_is {d = int lo hi} {x = drop b s} (simp ((rw e at k).0, (rw f at l).0)) refl (rw (to_z-of_z i1, to_z-of_z i2) at h)

-- ## scaled: a scale, and the limits of an int

scaled_some : {S : Type 0} (xs : List ℕ) {d : Datainfo} {x : List ℕ} → scaled_at xs ≡ Some (d, x)
    → ((m : Decimal) (y : List ℕ) (lo hi : ℤ) → limit xs ≡ Some (m, y) → int_at y ≡ Some (int lo hi, x) → d ≡ scaled m lo hi → S) → S
unfolding scaled_at int_at
scaled_some xs e f =
    steps (limit xs) _ e λ o a e. steps (signed 8 o.1) _ e λ p b e. steps (signed 8 p.1) _ e λ q c e.
    f o.0 o.1 p.0 q.0 a (rw (b, c, ap (λ p. p.1) (just e))) (sym (ap (λ p. p.0) (just e)))

module _ (s : List ℕ) (at : ℕ) (t : List ℕ) (r : Result Unit Misfit) (u : Option (ℤ × ℤ × ℕ)) (k : ReadsLimit s u (limit (drop at s))) where
  pub scaled_short : u ≡ None → Judges (scaled_at (drop at s)) (Some (Json.number t, [])) r
  unfolding scaled_at
  scaled_short e = judges_none (simp (rw e at k))

  pub scaled_int : (m p : ℤ) (a : ℕ) → u ≡ Some (m, p, a) → Judges (int_at (drop a s)) (Some (Json.number t, [])) r
      → Judges (scaled_at (drop at s)) (Some (Json.number t, [])) r
  unfolding fit
  scaled_int m p a e h = judges_of refl λ d x f. scaled_some (drop at s) f λ n y lo hi g i z. rw z (h.is (rw (same_left g (rw e at k).0) at i) refl)

-- ## enum: the members

pub variants_some : {S : Type 0} (n : ℕ) (xs : List ℕ) {vs : List Variant} {x : List ℕ} → 0 < n → variants n xs ≡ Some (vs, x)
    → ((k r : List ℕ) (v : ℤ) (y : List ℕ) (ws : List Variant) → counted xs ≡ Some (k, r) → signed 4 r ≡ Some (v, y) → variants (n - 1) y ≡ Some (ws, x)
    → vs ≡ record { name = k; number = v } ∷ ws → S) → S
unfolding variants
variants_some zero xs h e f = absurd (omega arith)
variants_some (suc n) xs h e f =
    steps (counted xs) _ e λ p a e. steps (signed 4 p.1) _ e λ q b e. steps (variants n q.1) _ e λ w c e.
    f p.0 p.1 q.0 q.1 w.0 a b (rw (sub-one (suc n)) (c ∙ ap (λ y. Some (w.0, y)) (ap (λ p. p.1) (just e)))) (sym (ap (λ p. p.0) (just e)))

pub enum_some : {S : Type 0} (xs : List ℕ) {d : Datainfo} {x : List ℕ} → enum_at xs ≡ Some (d, x)
    → ((n : ℕ) (r : List ℕ) (vs : List Variant) → unsigned 1 xs ≡ Some (n, r) → variants n r ≡ Some (vs, x) → d ≡ enum vs → S) → S
unfolding enum_at
enum_some xs e f =
    steps (unsigned 1 xs) _ e λ p a e. steps (variants p.0 p.1) _ e λ q b e.
    f p.0 p.1 q.0 a (b ∙ ap (λ y. Some (q.0, y)) (ap (λ p. p.1) (just e))) (sym (ap (λ p. p.0) (just e)))

-- of the members of an enum at a position, n are left from i on; of those before none is t
pub record VariantsFrom (s t : List ℕ) (d : Datainfo) (x : List ℕ) (i n : ℕ) : Type 0 where
  pub vs : List Variant
  pub reads : variants n (drop i s) ≡ Some (vs, x)
  pub is : fit d (Json.number t) ≡ in_range (is_within_limits t && is_variant vs (exactly t))

pub record Members (s : List ℕ) (at : ℕ) (t : List ℕ) (i n : ℕ) : Type 0 where
  pub from : {d : Datainfo} {x : List ℕ} → is_whole t ≡ true → enum_at (drop at s) ≡ Some (d, x) → VariantsFrom s t d x i n

module _ (s : List ℕ) (at : ℕ) (t : List ℕ) (u : Option (ℕ × ℕ)) (k : ReadsValue s u (unsigned 1 (drop at s))) where
  pub members_short : u ≡ None → (r : Result Unit Misfit) → is_whole t ≡ true → Judges (enum_at (drop at s)) (Some (Json.number t, [])) r
  unfolding enum_at
  members_short e r h = judges_none (simp (rw e at k))

  pub members_first : (n i : ℕ) → u ≡ Some (n, i) → Members s at t i n
  unfolding fit expect expect_or as_number as_string whole_fit
  members_first n i e = record {
    from = λ h g. enum_some (drop at s) g λ m r vs a b z. record {
      vs = vs;
      reads = rw (same_read (rw e at k).0 a, same_left (rw e at k).0 a) b;
      is = rw (z, h);
    };
  }

-- a test of one member more
hit : (a b c : Bool) → (a && b) ≡ true → (a && (b || c)) ≡ true
hit true true c e = refl
hit true false c e = absurd (let z : ◌≡◌ {A = ℕ} 0 1 = cc in omega arith)
hit false b c e = absurd (let z : ◌≡◌ {A = ℕ} 0 1 = cc in omega arith)

miss : (a b c : Bool) → (a && b) ≡ false → (a && (b || c)) ≡ (a && c)
miss true true c e = absurd (let z : ◌≡◌ {A = ℕ} 0 1 = cc in omega arith)
miss true false c e = refl
miss false b c e = refl

and-false : (a : Bool) → (a && false) ≡ false
and-false true = refl
and-false false = refl

module _ (s : List ℕ) (at : ℕ) (t : List ℕ) (i n : ℕ) (m : Members s at t i n) where
  pub members_over : n ≤ 0 → is_whole t ≡ true → Judges (enum_at (drop at s)) (Some (Json.number t, [])) (Err RangeError)
  unfolding in_range is_variant any variants
  members_over h w = judges_of refl λ d x e. let f = m.from w e in none_left d (omega arith) f.vs f.reads f.is
    where
      empty_vs : {vs : List Variant} {x : List ℕ} → n ≡ 0 → variants n (drop i s) ≡ Some (vs, x) → [] ≡ vs
      empty_vs z e = ap (λ p. p.0) (just (rw z at e))

      none_left : (d : Datainfo) {x : List ℕ} → n ≡ 0 → (vs : List Variant) → variants n (drop i s) ≡ Some (vs, x)
          → fit d (Json.number t) ≡ in_range (is_within_limits t && is_variant vs (exactly t)) → rangeError ≡ fit d (Json.number t)
      none_left d z vs e g = sym (g ∙ rw (← (empty_vs z e), and-false (is_within_limits t)))

  module _ (h : 0 < n) (p : Option ℕ) (k : Ends s p (rest (counted (drop i s)))) where
    pub members_nameless : p ≡ None → (r : Result Unit Misfit) → is_whole t ≡ true → Judges (enum_at (drop at s)) (Some (Json.number t, [])) r
    members_nameless e r w = judges_of refl λ d x g. variants_some n (drop i s) h (m.from w g).reads λ k' r' v y ws a b c z. absurd (nothing (sym (rw e at k) ∙ ap rest a))

    module _ (a : ℕ) (e : p ≡ Some a) (u : Option (ℤ × ℕ)) (l : ReadsValue s u (signed 4 (drop a s))) where
      -- past the name
      past : {k' r : List ℕ} → counted (drop i s) ≡ Some (k', r) → r ≡ drop a s
      past f = just (sym (ap rest f) ∙ (rw e at k).0)

      pub members_cut : u ≡ None → (r : Result Unit Misfit) → is_whole t ≡ true → Judges (enum_at (drop at s)) (Some (Json.number t, [])) r
      members_cut f r w = judges_of refl λ d x g. variants_some n (drop i s) h (m.from w g).reads λ k' r' v y ws b c o z.
          absurd (nothing (sym (rw f at l) ∙ (rw (past b) at c)))

      module _ (v : ℤ) (b : ℕ) (f : u ≡ Some (v, b)) (i1 : SFits w64 v) (c : Bool) (sent : Option Exact) (is : ValueOf t sent)
          (g : c ≡ lies_between (decimal (back w64 v) (pos 0)) (decimal (back w64 v) (pos 0)) sent) where
        -- whether t is the first member's value
        is_first : {y : ℤ} {r ws : List ℕ} {k' : List ℕ} → counted (drop i s) ≡ Some (k', r) → signed 4 r ≡ Some (y, ws)
            → c ≡ (is_within_limits t && between (decimal y (pos 0)) (decimal y (pos 0)) (exactly t))
        is_first {y} a' b' = let z : v ≡ y = same_read (rw f at l).0 (rw (past a') at b') in rw (to_z-of_z i1, z) at (g ∙ lies t (decimal (back w64 v) (pos 0)) (decimal (back w64 v) (pos 0)) sent is)

        pub members_found : c ≡ true → is_whole t ≡ true → Judges (enum_at (drop at s)) (Some (Json.number t, [])) (Ok tt)
        unfolding in_range is_variant between_integers any
        members_found q w = judges_of refl λ d x o. let j = m.from w o in variants_some n (drop i s) h j.reads λ k' r y ws' ws a' b' c' z.
            sym (j.is ∙ rw (z, hit (is_within_limits t) (between (decimal y (pos 0)) (decimal y (pos 0)) (exactly t)) (is_variant ws (exactly t)) (sym (is_first a' b') ∙ q)))

        pub members_more : c ≡ false → Members s at t b (n - 1)
        unfolding is_variant between_integers any
        members_more q = record {
          from = λ w o. let j = m.from w o in variants_some n (drop i s) h j.reads λ k' r y ws' ws a' b' c' z. record {
            vs = ws;
            reads = rw (same_left (rw f at l).0 (rw (past a') at b')) c';
            is = j.is ∙ rw z (ap in_range (miss (is_within_limits t) (between (decimal y (pos 0)) (decimal y (pos 0)) (exactly t)) (is_variant ws (exactly t)) (sym (is_first a' b') ∙ q)));
          };
        }

-- a token with a dot or an 'e'
pub enum_wrong : (s : List ℕ) (at : ℕ) (t : List ℕ) (o : Bool) → o ≡ is_whole t → o ≡ false → Judges (enum_at (drop at s)) (Some (Json.number t, [])) (Err WrongType)
unfolding fit expect expect_or as_number as_string whole_fit
enum_wrong s at t o e h = judges_of refl λ d x g. enum_some (drop at s) g λ n r vs a b z. rw (z, ← e, h)

pub enum_whole : (s : List ℕ) (at : ℕ) (t : List ℕ) (o : Bool) (r : Result Unit Misfit) → o ≡ is_whole t → o ≡ true → (is_whole t ≡ true → Judges (enum_at (drop at s)) (Some (Json.number t, [])) r)
    → Judges (enum_at (drop at s)) (Some (Json.number t, [])) r
enum_whole s at t o r e h f = f (sym e ∙ h)

-- ## The three types

module _ (k : ℕ) (xs : List ℕ) (q : Option (Json × List ℕ)) (r : Result Unit Misfit) where
  pub token_double : k ≡ 1 → Judges (double_at xs) q r → Judges (numeric k xs) q r
  unfolding numeric
  token_double e h = rw e h

  pub token_int : k ≡ 2 → Judges (int_at xs) q r → Judges (numeric k xs) q r
  unfolding numeric
  token_int e h = rw e h

  pub token_scaled : (k ≡ 1 → ⊥) → (k ≡ 2 → ⊥) → Judges (scaled_at xs) q r → Judges (numeric k xs) q r
  unfolding numeric
  token_scaled n1 n2 h = simp (ne_eqb k 1 n1, ne_eqb k 2 n2) (go (eqb k 9))
    where
      go : (b : Bool) → Judges (cond b (scaled_at xs) None) q r
      go true = h
      go false = judges_none refl

-- a value that is no number
module _ (j : Json) (n : as_number j ≡ None) where
  double_wrong : (xs : List ℕ) {d : Datainfo} {x : List ℕ} → double_at xs ≡ Some (d, x) → wrongType ≡ fit d j
  unfolding double_at fit expect
  double_wrong xs e = steps (limit xs) _ e λ p a e. steps (limit p.1) _ e λ q b e. rw (← (ap (λ p. p.0) (just e)), n)

  int_wrong : (xs : List ℕ) {d : Datainfo} {x : List ℕ} → int_at xs ≡ Some (d, x) → wrongType ≡ fit d j
  unfolding int_at fit expect
  int_wrong xs e = steps (signed 8 xs) _ e λ p a e. steps (signed 8 p.1) _ e λ q b e. rw (← (ap (λ p. p.0) (just e)), n)

  scaled_wrong : (xs : List ℕ) {d : Datainfo} {x : List ℕ} → scaled_at xs ≡ Some (d, x) → wrongType ≡ fit d j
  unfolding fit expect
  scaled_wrong xs e = scaled_some xs e λ m y lo hi a b z. rw (z, n)

  numeric_wrong : (k : ℕ) (xs : List ℕ) {d : Datainfo} {x : List ℕ} → numeric k xs ≡ Some (d, x) → wrongType ≡ fit d j
  unfolding numeric fit expect
  numeric_wrong k xs e =
      either k 1 _ _ e (λ _ e. double_wrong xs e) λ _ e.
      either k 2 _ _ e (λ _ e. int_wrong xs e) λ _ e.
      either k 9 _ _ e (λ _ e. scaled_wrong xs e) λ _ e. absurd (nothing e)

number_from_lem : (j : Json) {t : List ℕ} → as_number j ≡ Some t → j ≡ Json.number t
unfolding as_number
number_from_lem (Json.number t) e = ap Json.number (just e)
number_from_lem null e = absurd (nothing e)
number_from_lem (boolean b) e = absurd (nothing e)
number_from_lem (Json.string s) e = absurd (nothing e)
number_from_lem (Json.array is) e = absurd (nothing e)
number_from_lem (Json.object ms) e = absurd (nothing e)

-- a number leaves no more than it was given
number_short : (xs r : List ℕ) → Token.number xs ≡ Some r → length r ≤ length xs
number_short [] r e = absurd (nothing (sym number_takes.0 ∙ e))
number_short (x ∷ xs) r e = let q = of_some (rw e at (number_takes.1 x xs)) in rw q.is (simp length-append (omega arith))

pub number_room : (v : List ℕ) (p : ℕ) (n : Option ℕ) → Ends v n (Token.number (drop p v)) → (e : ℕ) → n ≡ Some e → p ≤ length v → p ≤ e
number_room v p n l e z w = let h = number_short _ _ (rw z at l).0 in omega (arith, simp length-drop at h, (rw z at l).1)

module _ (v : List ℕ) (p : ℕ) (n : Option ℕ) (l : Ends v n (Token.number (drop p v))) (depth : ℕ) where
  -- where no token ends, no number stands
  pub no_number : n ≡ None → {j : Json} {y : List ℕ} → bare depth (drop p v) ≡ Some (j, y) → as_number j ≡ None
  no_number z f = tells_no (as_number_lem (shape depth (drop p v) f)) none_there
    where
      none_there : is_some (Token.number (drop p v)) ≡ true → ⊥
      none_there h = let g : is_some (Token.number (drop p v)) ≡ false = rw (rw z at l) in let y : ◌≡◌ {A = ℕ} 0 1 = cc in omega arith

  pub number_none : (k : ℕ) (ys : List ℕ) → n ≡ None → Judges (numeric k ys) (bare depth (drop p v)) (Err WrongType)
  number_none k ys z = record { is = λ e f. numeric_wrong _ (no_number z f) k ys e }

  -- by the datainfo that o reads
  module _ (o : Option (Datainfo × List ℕ)) (e : ℕ) (z : n ≡ Some e) where
    pub number_token : p ≤ length v → (r : Result Unit Misfit) → Judges o (Some (Json.number (take (e - p) (drop p v)), [])) r → Judges o (bare depth (drop p v)) r
    unfolding up_to
    number_token w r h = record { is = λ g f. tells_yes (as_number_lem (shape depth (drop p v) f)) (rw (rw z at l).0) λ a i q. rw (number_from_lem _ i, q.1, ← (same_end_lem q.0), size) (h.is g refl) }
      where
        same_end_lem : {y : List ℕ} → Token.number (drop p v) ≡ Some y → drop e v ≡ y
        same_end_lem f = just (sym (rw z at l).0 ∙ f)

        size : length (drop p v) - length (drop e v) ≡ e - p
        size = simp length-drop (omega (arith, number_room v p n l e z w, (rw z at l).1))

-- ## The plain types

module _ (k : ℕ) (xs : List ℕ) (q : Option (Json × List ℕ)) (r : Result Unit Misfit) where
  pub plain_bool : k ≡ 3 → Judges (Some (bool, [])) q r → Judges (plain k xs) q r
  unfolding plain
  plain_bool e h = rw e (record { is = λ f g. rw (same_read f refl) (h.is refl g) })

  pub plain_enum : k ≡ 4 → Judges (enum_at xs) q r → Judges (plain k xs) q r
  unfolding plain
  plain_enum e h = rw e h

  pub plain_string : k ≡ 5 → Judges (string_at xs) q r → Judges (plain k xs) q r
  unfolding plain
  plain_string e h = rw e h

  pub plain_blob : k ≡ 10 → Judges (blob_at xs) q r → Judges (plain k xs) q r
  unfolding plain
  plain_blob e h = rw e h

  pub plain_number : (k ≡ 3 → ⊥) → (k ≡ 4 → ⊥) → (k ≡ 5 → ⊥) → (k ≡ 10 → ⊥) → Judges (numeric k xs) q r → Judges (plain k xs) q r
  unfolding plain
  plain_number n3 n4 n5 n10 h = simp (ne_eqb k 3 n3, ne_eqb k 4 n4, ne_eqb k 5 n5, ne_eqb k 10 n10) h
