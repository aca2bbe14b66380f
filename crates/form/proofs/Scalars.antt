-- Laws of the code that writes what holds no values: a scalar as it stands, a member's number for its name. Assumes nothing.
use Rattle.std.specs.Prelude.{Option, Some, None}
use Prim.Native.Nat.{ℕ, zero, suc, ◌-◌, ◌≤◌}
use native.Mathlib.Omega.{arith}
use mathlib.Core.Bool.{Bool, true, false, cond}
use mathlib.Core.List.{List, [], ◌∷◌, ◌++◌, append_assoc}
use mathlib.Core.Path.{◌≡◌, refl, sym, ap, ap₂, ◌∙◌}
use lib.Dec.{eqb}
use lib.IntN.{ℤ}
use lib.ListN.{length, take, drop, length-append, length-drop}
use lib.Seq.{take_at}
use borrow.Author.Tests.{eqb-true}
use Rattle.ascii.specs.Text.{bytes}
use Rattle.ascii.specs.Bytes.{is_some, head, tail, after}
use Rattle.ascii.specs.Numbers.{integer}
use Rattle.ascii.specs.Clauses.Reader.{ByteAt, Ends, rest}
use Rattle.decimal.specs.Token as Token
use Rattle.json_text.specs.Json.{Json, null, boolean, up_to, inside, string_end, scalar, bare, quoted, compact}
use Rattle.json_text.proofs.ReadAgain.{Of, failed, gave, of_some, takes_keeps, number_takes, up_to_is, chars_quoted, inside_is}
use Rattle.json_text.proofs.ReadBack.{of_giving}
use Rattle.datainfo.specs.Datainfo.{Variant}
use Rattle.datainfo.specs.Layout.{enum_at}
use Rattle.emit.specs.Clauses.Emitted.{Emits}
use Rattle.fit.specs.Fit.{Verdict, fits, rangeError, in_range, expect_or, expect, as_number, as_array, as_object, whole_fit, is_variant, member_number, fit, within, exchanged, numbered}
use Rattle.fit.specs.Clauses.Walk.{Quoted, NumberOf}
use Rattle.fit.proofs.Figures.{enum_some}
use Rattle.fit.proofs.Shapes as Shapes
use Rattle.fit.proofs.Shapes.{nothing, just, shape, tells_yes, tells_no, as_string_lem, as_array_lem, as_object_lem}
use Rattle.form.specs.Clauses.Formed.{Copies, PutsNumber, Forms}

-- ## A scalar's bytes are its compact text

of_case : {A : Type 0} {P : A → Type 0} (b : Bool) {x y : Option A} → (b ≡ true → Of P x) → (b ≡ false → Of P y) → Of P (cond b x y)
of_case true p q = p refl
of_case false p q = q refl

word_text : (w xs : List ℕ) → Of (λ r. xs ≡ w ++ r) (after w xs)
unfolding after
word_text [] xs = gave refl
word_text (w ∷ ws) [] = failed
word_text (w ∷ ws) (x ∷ xs) = of_case (eqb x w) (λ e. go (word_text ws xs) (eqb-true x w e)) λ e. failed
  where
    go : {o : Option (List ℕ)} → Of (λ r. xs ≡ ws ++ r) o → x ≡ w → Of (λ r. x ∷ xs ≡ w ∷ ws ++ r) o
    go failed e = failed
    go (gave {a = r} q) e = gave (ap₂ ◌∷◌ e q)

first_byte : (xs : List ℕ) (k : ℕ) → eqb 0 k ≡ false → eqb (head xs) k ≡ true → xs ≡ k ∷ tail xs
unfolding head tail
first_byte [] k e h = let n : ◌≡◌ {A = ℕ} 0 1 = cc in absurd (omega arith)
first_byte (x ∷ xs) k e h = ap (λ b. b ∷ xs) (eqb-true x k h)

scalar_text : (xs : List ℕ) → Of (λ p. xs ≡ compact p.0 ++ p.1) (scalar xs)
unfolding scalar string_end compact quoted
scalar_text xs =
    of_case (eqb (head xs) 34)
    (λ e. of_giving (λ r. Json.string (inside (tail xs) r)) (chars_quoted (length (tail xs)) (tail xs)) λ r q.
    first_byte xs 34 refl e ∙ ap (λ z. 34 ∷ z) (q.is ∙ rw (q.is, inside_is) (sym (append_assoc q.s (34 ∷ []) r)))) λ _.
    of_case (eqb (head xs) 110) (λ e. of_giving (λ r. null) (word_text (bytes "null") xs) λ r q. q) λ _.
    of_case (eqb (head xs) 116) (λ e. of_giving (λ r. boolean true) (word_text (bytes "true") xs) λ r q. q) λ _.
    of_case (eqb (head xs) 102) (λ e. of_giving (λ r. boolean false) (word_text (bytes "false") xs) λ r q. q) λ _.
    of_giving (λ r. Json.number (up_to xs r)) (takes_keeps {f = Token.number} number_takes xs) λ r p. rw (p.is, up_to_is)

scalar_is : (xs : List ℕ) {j : Json} {y : List ℕ} → scalar xs ≡ Some (j, y) → xs ≡ compact j ++ y
scalar_is xs e = of_some (rw e at (scalar_text xs))

rest_some : {A : Type 0} {o : Option (A × List ℕ)} {y : List ℕ} {S : Type 0} → rest o ≡ Some y → ((a : A) → o ≡ Some (a, y) → S) → S
rest_some {o = None} e f = absurd (nothing e)
rest_some {o = Some p} e f = f p.0 (ap (λ y. Some (p.0, y)) (just e))

-- the scalar at p, up to e
module _ (v : List ℕ) (p : ℕ) (n : Option ℕ) (l : Ends v n (rest (scalar (drop p v)))) where
  module _ (e : ℕ) (z : n ≡ Some e) (w : p ≤ length v) where
    pub scalar_room : p ≤ e
    scalar_room =
        rest_some (rw z at l).0 λ (j : Json) (h : scalar (drop p v) ≡ Some (j, drop e v)).
        omega (arith, simp (length-append, length-drop) at (ap length (scalar_is (drop p v) h)), (rw z at l).1)

    pub scalar_copied : {before after : List ℕ} {at end : ℕ} → Emits before at (take (e - p) (drop p v)) after end
        → Copies (scalar (drop p v)) before at after end
    scalar_copied x = record { is = λ f. rw (← (bytes_are f)) x }
      where
        bytes_are : {j : Json} {y : List ℕ} → scalar (drop p v) ≡ Some (j, y) → take (e - p) (drop p v) ≡ compact j
        bytes_are {j} {y} f =
            let g = scalar_is (drop p v) f in
            let q : y ≡ drop e v = just (sym (ap rest f) ∙ (rw z at l).0) in
            let h = simp (length-append, length-drop) at (ap length (rw q at g)) in
            rw g (take_at (compact j) y (e - p) (omega (arith, h, scalar_room, (rw z at l).1)))

-- ## The number of a member

module _ (s : List ℕ) (i : ℕ) (name : List ℕ) (r : Option (ℤ × ℕ)) (k : NumberOf (enum_at (drop i s)) name r) {before after : List ℕ} {at end : ℕ} where
  pub named_none : r ≡ None → PutsNumber (enum_at (drop i s)) name before at after end
  named_none z = record { is = λ e f. absurd (nothing (sym ((rw z at k).is e) ∙ f)) }

-- ## A value that is neither an array nor an object

pub bare_scalar : (depth : ℕ) (xs : List ℕ) {j : Json} {y : List ℕ} → bare depth xs ≡ Some (j, y) → as_array j ≡ None → as_object j ≡ None
    → scalar xs ≡ Some (j, y)
unfolding bare
bare_scalar zero xs e n o = e
bare_scalar (suc d) xs {j} {y} e n o = Shapes.either (head xs) 91 _ _ e
    (λ h k. tells_yes (as_array_lem (shape (suc d) xs e)) (omega arith, h) λ a q r. absurd (nothing (sym n ∙ q))) λ _ k.
    Shapes.either (head xs) 123 _ _ k
    (λ h k. tells_yes (as_object_lem (shape (suc d) xs e)) (omega arith, h) λ a q r. absurd (nothing (sym o ∙ q))) λ _ k. k

abbrev pub Single : Json → Type 0
Single j = (as_array j ≡ None) × (as_object j ≡ None)

pub number_single : (j : Json) (f : List ℕ → Verdict) → expect (as_number j) f ≡ fits → Single j
unfolding expect as_number as_array as_object
number_single null f e = (refl, refl)
number_single (boolean b) f e = (refl, refl)
number_single (Json.number t) f e = (refl, refl)
number_single (Json.string t) f e = (refl, refl)
number_single (Json.array is) f e = let n : ◌≡◌ {A = ℕ} 0 1 = cc in absurd (omega arith)
number_single (Json.object ms) f e = let n : ◌≡◌ {A = ℕ} 0 1 = cc in absurd (omega arith)

-- ## A member of an enum, by its name or by its number

named_form : (vs : List Variant) (t : List ℕ) {before after : List ℕ} {at end : ℕ}
    → ((n : ℤ) → member_number vs t ≡ Some n → Emits before at (integer n) after end)
    → in_range (is_some (member_number vs t)) ≡ fits → Emits before at (compact (exchanged t (member_number vs t))) after end
unfolding exchanged compact in_range
named_form vs t {before} {after} {at} {end} h = go (member_number vs t) refl
  where
    go : (o : Option ℤ) → member_number vs t ≡ o → cond (is_some o) fits rangeError ≡ fits → Emits before at (compact (exchanged t o)) after end
    go None q e = let n : ◌≡◌ {A = ℕ} 0 1 = cc in absurd (omega arith)
    go (Some n) q e = h n q

module _ (s : List ℕ) (i : ℕ) (v : List ℕ) (p b : ℕ) (x : ByteAt v p b) {before after : List ℕ} {at end : ℕ} (depth : ℕ) where
  pub choice_named : b ≡ 34 → (t : List ℕ) → Quoted (drop p v) t → PutsNumber (enum_at (drop i s)) t before at after end
      → Forms (enum_at (drop i s)) (bare depth (drop p v)) before at after end
  unfolding fit numbered expect_or within
  choice_named h t q w = record {
    is = λ e f g. enum_some (drop i s) e λ n r vs a c o. tells_yes (as_string_lem (shape depth (drop p v) f)) (sym x.is ∙ h) λ u k z.
        let m : t ≡ u = q.is (sym x.is ∙ h) z.0 ∙ sym z.1 in
        rw (o, k, ← m) (named_form vs t (λ n y. w.is (rw o at e) y) (rw (o, k, ← m) at g));
  }

  pub choice_other : (b ≡ 34 → ⊥) → Copies (scalar (drop p v)) before at after end
      → Forms (enum_at (drop i s)) (bare depth (drop p v)) before at after end
  unfolding fit numbered expect_or within
  choice_other h w = record {
    is = λ {j = j} e f g. enum_some (drop i s) e λ n r vs a c o.
        let k = tells_no (as_string_lem (shape depth (drop p v) f)) (λ z. h (x.is ∙ z)) in
        let m = number_single j (whole_fit (is_variant vs)) (rw (o, k) at g) in
        rw (o, k) (w.is (bare_scalar depth (drop p v) f m.0 m.1));
  }
