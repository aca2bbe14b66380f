-- A text that is in stored form for a narrow int or scaled is a small number's token. Assumes nothing.
use Rattle.std.specs.Prelude.{Option, Some, None}
use Prim.Native.Nat.{ℕ, zero, suc, ◌≤◌}
use native.Mathlib.Nat.{mul-one}
use native.Mathlib.Omega.{arith}
use mathlib.Core.Bool.{Bool, true, false, cond, not, ◌&&◌, ◌||◌, false≢true}
use mathlib.Core.List.{List, [], ◌∷◌}
use mathlib.Core.Path.{◌≡◌, refl, sym, ap, ap₂, ◌∙◌}
use lib.Dec.{eqb}
use lib.IntN.{ℤ, pos, negsuc, neg_ℤ, nat_abs, ◌*ℤ◌}
use lib.ListN.{length}
use lib.Signed.{le_z}
use borrow.Author.Tests.{leb-true, not-true}
use Rattle.ascii.specs.Bytes.{all, any, head, tail}
use Rattle.ascii.proofs.Lists.{both, neither, all_cons, all_weaker, taken, dropped, same_is}
use Rattle.decimal.specs.Token.{is_e, is_whole}
use Rattle.decimal.specs.Decimal.{from_integer, excess, in_power, at_most, between, numeral_from, numeral, significand, exponent, fraction}
use Rattle.decimal.specs.Decimal.{written_power, exactly, is_within_limits}
use Rattle.json_text.specs.Json.{Json, null, boolean, text, compact}
use Rattle.datainfo.specs.Datainfo.{Datainfo, double, int, bool, enum, string, array, tuple, struct, scaled, blob, partial}
use Rattle.fit.specs.Fit.{fits, wrongType, in_range, expect, as_number, whole_fit, between_integers, fit, numbered, form_of}
use Rattle.fit.specs.Fit.{as_partial, at_top, in_order, stored, stored_form, value_verdict, verdict_of, verdict, is_stored}
use Rattle.form.proofs.Verdicts.{worse_both, in_range_lem, cond_fits, fit_is}
use Rattle.figures.specs.Figures.{is_narrow, is_summed}
use Rattle.figures.specs.Clauses.Tally.{below_zero, Small}

-- ## The value of a token without a dot and an 'e'

any_none : (p : ℕ → Bool) (t : List ℕ) → any p t ≡ false → all (λ b. not (p b)) t ≡ true
unfolding any all
any_none p [] h = refl
any_none p (b ∷ t) h =
    let l = neither (p b) (any p t) h in
    all_cons (λ b. not (p b)) b t (ap not l.0) (any_none p t l.1)

not_second : (a b : Bool) → not (a || b) ≡ true → not b ≡ true
not_second true b e = absurd (false≢true e)
not_second false b e = e

not_first : (a b : Bool) → not (a || b) ≡ true → not a ≡ true
not_first true b e = e
not_first false b e = refl

module _ (t : List ℕ) (h : is_whole t ≡ true) where
  parts : all (λ b. not (eqb b 46 || is_e b)) t ≡ true
  unfolding is_whole
  parts = any_none (λ b. eqb b 46 || is_e b) t (not-true (any (λ b. eqb b 46 || is_e b) t) h)

  no_e : all (λ b. not (is_e b)) t ≡ true
  no_e = all_weaker (λ b. not (eqb b 46 || is_e b)) (λ b. not (is_e b)) (λ b e. not_second (eqb b 46) (is_e b) e) t parts

  no_dot : all (λ b. not (eqb b 46)) t ≡ true
  no_dot = all_weaker (λ b. not (eqb b 46 || is_e b)) (λ b. not (eqb b 46)) (λ b e. not_first (eqb b 46) (is_e b) e) t parts

  significand_all : significand t ≡ t
  unfolding significand
  significand_all = taken (λ b. not (is_e b)) t no_e

  power_none : written_power t ≡ pos 0
  unfolding written_power exponent numeral numeral_from head tail
  power_none = rw (dropped (λ b. not (is_e b)) t no_e)

  fraction_none : length (fraction t) ≡ 0
  unfolding fraction tail
  fraction_none = rw (significand_all, dropped (λ b. not (eqb b 46)) t no_dot)

  whole_exactly : exactly t ≡ from_integer (numeral t)
  unfolding exactly
  whole_exactly = rw (significand_all, power_none, fraction_none)

-- ## Limits

one_time : (a : ℤ) → a *ℤ pos 1 ≡ a
one_time (pos n) = ap pos (mul-one n)
one_time (negsuc n) = ap (λ k. neg_ℤ (pos k)) (mul-one (suc n))

integers_order : (a b : ℤ) → at_most (from_integer a) (from_integer b) ≡ le_z a b
unfolding at_most in_power excess
integers_order a b = ap₂ le_z (one_time a) (one_time b)

narrow_number : (lo hi z : ℤ) → le_z (negsuc 2147483647) lo ≡ true → le_z hi (pos 2147483647) ≡ true → le_z lo z ≡ true → le_z z hi ≡ true → nat_abs z ≤ below_zero
narrow_number lo (pos h) (pos n) a b c d = omega (arith, leb-true h 2147483647 b, leb-true n h d)
narrow_number lo (negsuc h) (pos n) a b c d = absurd (false≢true d)
narrow_number (pos l) hi (negsuc n) a b c d = absurd (false≢true c)
narrow_number (negsuc l) hi (negsuc n) a b c d = omega (arith, leb-true l 2147483647 a, leb-true n l c)

signed_size : (s : Bool) (n : ℕ) → nat_abs (cond s (neg_ℤ (pos n)) (pos n)) ≡ n
signed_size false n = refl
signed_size true zero = refl
signed_size true (suc n) = refl

module _ (lo hi : ℤ) (t : List ℕ) (w : is_narrow lo hi ≡ true) (e : whole_fit (between_integers lo hi) t ≡ fits) where
  token_small : Small t
  unfolding whole_fit between_integers between is_narrow numeral
  token_small =
      let c = cond_fits (is_whole t) (in_range (is_within_limits t && between_integers lo hi (exactly t))) e in
      let r = both (is_within_limits t) (between_integers lo hi (exactly t)) (in_range_lem _ c.1) in
      let x = whole_exactly t c.0 in
      let l = both (at_most (from_integer lo) (exactly t)) (at_most (exactly t) (from_integer hi)) r.1 in
      let low : le_z lo (numeral t) ≡ true = sym (integers_order lo (numeral t)) ∙ ap (at_most (from_integer lo)) (sym x) ∙ l.0 in
      let high : le_z (numeral t) hi ≡ true = sym (integers_order (numeral t) hi) ∙ ap (λ d. at_most d (from_integer hi)) (sym x) ∙ l.1 in
      let n = both (le_z (negsuc 2147483647) lo) (le_z hi (pos 2147483647)) w in
      let z = narrow_number lo hi (numeral t) n.0 n.1 low high in
      omega (arith, signed_size (eqb (head t) 45) (numeral_from 0 t))

-- ## Texts

bad : {P : Type 0} → wrongType ≡ fits → P
bad e = let z : ◌≡◌ {A = ℕ} 0 1 = cc in absurd (omega arith)

whole_small : (lo hi : ℤ) (v : Json) (xs : List ℕ) → is_narrow lo hi ≡ true → expect (as_number v) (whole_fit (between_integers lo hi)) ≡ fits
    → compact v ≡ xs → Small xs
unfolding expect as_number compact
whole_small lo hi (Json.number t) xs w e f = rw (← f) (token_small lo hi t w e)
whole_small lo hi null xs w e f = bad e
whole_small lo hi (boolean b) xs w e f = bad e
whole_small lo hi (Json.string s) xs w e f = bad e
whole_small lo hi (Json.array is) xs w e f = bad e
whole_small lo hi (Json.object ms) xs w e f = bad e

value_small : (d : Datainfo) (v : Json) (xs : List ℕ) → is_summed d ≡ true → fit d v ≡ fits → compact (stored d v) ≡ xs → Small xs
unfolding is_summed fit numbered stored in_order as_partial at_top
value_small (int lo hi) v xs s e f = whole_small lo hi v xs s e f
value_small (scaled a lo hi) v xs s e f = whole_small lo hi v xs s e f
value_small (double lo hi) v xs s e f = absurd (false≢true s)
value_small bool v xs s e f = absurd (false≢true s)
value_small (enum vs) v xs s e f = absurd (false≢true s)
value_small (string lo hi) v xs s e f = absurd (false≢true s)
value_small (array lo hi d) v xs s e f = absurd (false≢true s)
value_small (tuple ds) v xs s e f = absurd (false≢true s)
value_small (struct fs) v xs s e f = absurd (false≢true s)
value_small (blob lo hi) v xs s e f = absurd (false≢true s)
value_small (partial ns fs) v xs s e f = absurd (false≢true s)

read_small : (d : Datainfo) (o : Option Json) (xs : List ℕ) → is_summed d ≡ true → verdict_of d o ≡ fits → form_of d o ≡ xs → Small xs
unfolding verdict_of value_verdict form_of
read_small d None xs s e f = let z : ◌≡◌ {A = ℕ} 0 1 = cc in absurd (omega arith)
read_small d (Some v) xs s e f = value_small d v xs s (worse_both (fit d v) _ e).0 f

pub stored_small : (d : Datainfo) (xs : List ℕ) → is_summed d ≡ true → is_stored d xs ≡ true → Small xs
unfolding is_stored verdict stored_form
stored_small d xs s e =
    let b = both _ _ e in
    read_small d (text xs) xs s (fit_is _ b.0) (same_is (stored_form d xs) xs b.1)
