-- What is kept stands for the figures of all settings, one after another. Assumes nothing.
use Prim.Native.Nat.{ℕ, suc, ◌+◌, ◌*◌, ◌≤◌, ◌<◌}
use native.Mathlib.Omega.{arith}
use mathlib.Core.Bool.{Bool, true, false, cond}
use mathlib.Core.List.{List, [], ◌∷◌, ◌++◌, map, map-append, append_assoc}
use mathlib.Core.Path.{◌≡◌, refl, sym, ap, ◌∙◌}
use lib.Dec.{eqb, leb, ltb}
use lib.IntN.{ℤ, sub_ℕ, ◌+ℤ◌}
use lib.ListN.{length, length-append, length-map}
use lib.Seq.{take_all, length-take-le, take-append-le}
use lib.Signed.{le_z}
use borrow.Author.Tests.{ltb-true, ltb-false, ne_eqb}
use Rattle.ascii.specs.Text.{bytes}
use Rattle.ascii.specs.Numbers.{decimal, integer}
use Rattle.decimal.specs.Decimal.{numeral}
use Rattle.datainfo.specs.Datainfo.{Datainfo}
use Rattle.fit.specs.Fit.{is_stored}
use Rattle.figures.specs.declared.Tally.{Tally}
use Rattle.figures.specs.Figures.{is_summed, least, greatest, total, numbers_text, full, first_settings, figure_line}
use Rattle.figures.specs.Clauses.Tally.{below_zero, mark_of, no_settings, lower, higher, noted, Sums, Tallies, tally_numbers, full_text}
use Rattle.figures.specs.Clauses.Tally.{count_text, tally_line}
use Rattle.figures.specs.Theorems.{FiguresAreExact}
use Rattle.figures.proofs.Differences.{sub_sum, sub_order, numeral_back}
use Rattle.figures.proofs.Keeping.{noted_over, noted_one, noted_some}
use Rattle.figures.proofs.Stored.{stored_small}

-- ## One number more

least_more : (x : ℤ) (ys : List ℤ) (y : ℤ) → least x (ys ++ (y ∷ [])) ≡ cond (le_z (least x ys) y) (least x ys) y
unfolding least
least_more x [] y = refl
least_more x (z ∷ ys) y = least_more (cond (le_z x z) x z) ys y

greatest_more : (x : ℤ) (ys : List ℤ) (y : ℤ) → greatest x (ys ++ (y ∷ [])) ≡ cond (le_z y (greatest x ys)) (greatest x ys) y
unfolding greatest
greatest_more x [] y = refl
greatest_more x (z ∷ ys) y = greatest_more (cond (le_z z x) x z) ys y

total_more : (x : ℤ) (ys : List ℤ) (y : ℤ) → total x (ys ++ (y ∷ [])) ≡ total x ys +ℤ y
unfolding total
total_more x [] y = refl
total_more x (z ∷ ys) y = total_more (x +ℤ z) ys y

lower_is : (a b : ℕ) (y z : ℤ) → sub_ℕ a below_zero ≡ y → sub_ℕ b below_zero ≡ z → sub_ℕ (lower a b) below_zero ≡ cond (le_z y z) y z
unfolding lower
lower_is a b y z e f = rw (← e, ← f, sub_order a b below_zero) (go (leb a b))
  where
    go : (t : Bool) → sub_ℕ (cond t a b) below_zero ≡ cond t (sub_ℕ a below_zero) (sub_ℕ b below_zero)
    go true = refl
    go false = refl

higher_is : (a b : ℕ) (y z : ℤ) → sub_ℕ a below_zero ≡ y → sub_ℕ b below_zero ≡ z → sub_ℕ (higher a b) below_zero ≡ cond (le_z z y) y z
unfolding higher
higher_is a b y z e f = rw (← e, ← f, sub_order b a below_zero) (go (leb b a))
  where
    go : (t : Bool) → sub_ℕ (cond t a b) below_zero ≡ cond t (sub_ℕ a below_zero) (sub_ℕ b below_zero)
    go true = refl
    go false = refl

-- ## What is kept of settings

first_settings_room : (vs : List (List ℕ)) → length vs ≤ full → first_settings vs ≡ vs
unfolding first_settings
first_settings_room vs h = take_all full vs h

first_settings_full : (vs : List (List ℕ)) (v : List ℕ) → full ≤ length vs → first_settings (vs ++ (v ∷ [])) ≡ first_settings vs
unfolding first_settings
first_settings_full vs v h = take-append-le full vs (v ∷ []) h

count_full : (vs : List (List ℕ)) → full ≤ length vs → length (first_settings vs) ≡ full
unfolding first_settings
count_full vs h = length-take-le full vs h

one_more_lem : (vs : List (List ℕ)) (v : List ℕ) → length (vs ++ (v ∷ [])) ≡ suc (length vs)
one_more_lem vs v = length-append vs (v ∷ []) ∙ omega arith

module _ (d : Datainfo) (v : List ℕ) (stored : is_stored d v ≡ true) where
  mark_is : is_summed d ≡ true → sub_ℕ (mark_of d v) below_zero ≡ numeral v
  unfolding mark_of
  mark_is s = rw s (numeral_back v (stored_small d v s stored))

  -- where there is room, and no setting yet, or some
  sums_first : is_summed d ≡ true → Sums (numeral v ∷ []) (record { count = 1; least = mark_of d v; greatest = mark_of d v; sum = mark_of d v })
  unfolding least greatest total
  sums_first s =
      let m = mark_is s in
      (m, m, m)

  sums_next : is_summed d ≡ true → (z : ℤ) (zs : List ℤ) (t : Tally) → Sums (z ∷ zs) t
      → Sums (z ∷ (zs ++ (numeral v ∷ [])))
      (record {
        count = t.count + 1;
        least = lower t.least (mark_of d v);
        greatest = higher t.greatest (mark_of d v);
        sum = t.sum + mark_of d v;
      })
  sums_next s z zs t x =
      let m = mark_is s in
      let sum : sub_ℕ (t.sum + mark_of d v) ((t.count + 1) * below_zero) ≡ total z zs +ℤ numeral v =
      ap (λ (n : ℕ). sub_ℕ (t.sum + mark_of d v) n) (omega arith) ∙ sub_sum t.sum (t.count * below_zero) (mark_of d v) below_zero
      ∙ (λ i. x.2 i +ℤ m i) in (
        lower_is t.least (mark_of d v) (least z zs) (numeral v) x.0 m ∙ sym (least_more z zs (numeral v)),
        higher_is t.greatest (mark_of d v) (greatest z zs) (numeral v) x.1 m ∙ sym (greatest_more z zs (numeral v)),
        sum ∙ sym (total_more z zs (numeral v)),
      )

  room_more : (vs : List (List ℕ)) (t : Tally) → length vs < full → t.count ≡ length vs → (is_summed d ≡ true → Sums (map numeral vs) t)
      → Tallies d (vs ++ (v ∷ [])) (noted t (mark_of d v))
  room_more [] t h e x =
      rw (← noted_one t (mark_of d v) e)
      (record {
        count = ap length (sym (first_settings_room (v ∷ []) (omega arith)));
        numbers = λ s. rw (first_settings_room (v ∷ []) (omega arith)) (sums_first s);
      })
  room_more (w ∷ ws) t h e x =
      let l = one_more_lem (w ∷ ws) v in
      let k = first_settings_room ((w ∷ ws) ++ (v ∷ [])) (omega arith) in
      rw (← noted_some t (mark_of d v) (lower t.least (mark_of d v)) (higher t.greatest (mark_of d v)) (omega arith) (λ z. omega arith) refl refl)
      (record {
        count = omega (arith, e, l, ap length k);
        numbers = λ s. rw (k, map-append numeral ws (v ∷ [])) (sums_next s (numeral w) (map numeral ws) t (x s));
      })

  more : (vs : List (List ℕ)) (t : Tally) → Tallies d vs t → Tallies d (vs ++ (v ∷ [])) (noted t (mark_of d v))
  more vs t x = go (ltb (length vs) full) refl
    where
      go : (b : Bool) → ltb (length vs) full ≡ b → Tallies d (vs ++ (v ∷ [])) (noted t (mark_of d v))
      go true e =
          let h = ltb-true (length vs) full e in
          let k = first_settings_room vs (omega arith) in
          room_more vs t h (x.count ∙ ap length k) (λ s. rw k at (x.numbers s))
      go false e =
          let h = ltb-false (length vs) full e in
          let k = first_settings_full vs v h in
          rw (← noted_over t (mark_of d v) (omega (arith, x.count, count_full vs h)))
          (record { count = x.count ∙ ap length (sym k); numbers = λ s. rw k (x.numbers s) })

-- ## The line

module _ (t : Tally) where
  numbers_told : (zs : List ℤ) → t.count ≡ length zs → Sums zs t → tally_numbers t ≡ numbers_text zs
  unfolding tally_numbers numbers_text
  numbers_told [] e x = rw e
  numbers_told (z ∷ zs) e x =
      let c : eqb t.count 0 ≡ false = ne_eqb t.count 0 (λ n. omega arith) in
      rw (c, x.0, x.1, x.2)
      (ap (λ (l : List ℕ). l ++ (bytes " sum " ++ integer (total z zs)))
      (sym (append_assoc (bytes " least " ++ integer (least z zs)) (bytes " greatest ") (integer (greatest z zs))))
      ∙ sym (append_assoc (bytes " least " ++ integer (least z zs) ++ bytes " greatest " ++ integer (greatest z zs)) (bytes " sum ") (integer (total z zs))))

told : (m p : List ℕ) (d : Datainfo) (vs : List (List ℕ)) (t : Tally) → Tallies d vs t → tally_line m p (is_summed d) t ≡ figure_line m p d vs
unfolding tally_line figure_line count_text full_text
told m p d vs t x =
    rw (← x.count)
    (ap (λ (l : List ℕ). l ++ cond (ltb t.count full) [] (bytes " full") ++ bytes "\n")
    (ap (λ (l : List ℕ). l ++ cond (is_summed d) (tally_numbers t) []) (sym (append_assoc (m ++ bytes ":" ++ p) (bytes " count ") (decimal t.count)))
    ∙ ap (λ (l : List ℕ). m ++ bytes ":" ++ p ++ bytes " count " ++ decimal t.count ++ l) (go (is_summed d) refl)))
  where
    go : (b : Bool) → is_summed d ≡ b → cond (is_summed d) (tally_numbers t) [] ≡ cond (is_summed d) (numbers_text (map numeral (first_settings vs))) []
    go true s = rw s (numbers_told t (map numeral (first_settings vs)) (x.count ∙ sym (length-map (first_settings vs) numeral)) (x.numbers s))
    go false s = rw s refl

pub start : (d : Datainfo) → Tallies d [] no_settings
unfolding first_settings
start d = record { count = refl; numbers = λ s. tt }

pub figures_are_exact : FiguresAreExact
figures_are_exact = record { start = start; more = λ d vs t x v e. more d v e vs t x; told = told }
