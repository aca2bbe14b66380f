-- Laws of judging, one for each way through a function that judges. Assumes nothing.
use Prim.Native.Nat.{ℕ, zero, suc, ◌+◌, ◌*◌, ◌-◌, ◌≤◌, ◌<◌}
use native.Mathlib.Numerals.{add-one}
use native.Mathlib.Omega.{arith}
use mathlib.Core.Path.{◌≡◌, refl, sym, ap, ◌∙◌}
use mathlib.Core.Bool.{Bool, true, false, not, ◌&&◌, ◌||◌}
use mathlib.Core.List.{List, [], ◌∷◌}
use Rattle.std.specs.List.{list_any}
use lib.Dec.{eqb, ltb}
use lib.ListN.{length, get_or, take, drop, drop_of_length-le}
use lib.Seq.{drop-cons}
use borrow.Author.Tests.{ne_eqb, lt-ltb, le-ltb}
use Rattle.ascii.specs.Bytes.{any}
use Rattle.plain.specs.Node.{is_active, client_numbers}
use Rattle.state.specs.declared.Brief.{Brief}
use Rattle.state.specs.declared.Clients.{Clients}
use Rattle.state.specs.View.{is_set, bit, line_bytes, client_at}
use Rattle.state.specs.Fit.{client_unfit, past_last}

pub any_is : (p : ℕ → Bool) (xs : List ℕ) → list_any p xs ≡ any p xs
unfolding any
any_is p [] = refl
any_is p (x ∷ xs) = ap (λ (t : Bool). p x || t) (any_is p xs)

-- some element passes, tried from the front
module _ (p : ℕ → Bool) (xs : List ℕ) (i : ℕ) where
  next_is : i < length xs → {v : Bool} → p (get_or xs i 0) ≡ v → any p (drop i xs) ≡ v || any p (drop (suc i) xs)
  unfolding any
  next_is h e = ap (any p) (drop-cons xs i 0 h) ∙ ap (λ (t : Bool). t || any p (drop (suc i) xs)) e

  pub any_found : any p xs ≡ any p (drop i xs) → i < length xs → p (get_or xs i 0) ≡ true → true ≡ any p xs
  any_found z h e = sym (z ∙ next_is h e)

  pub any_more : any p xs ≡ any p (drop i xs) → i < length xs → p (get_or xs i 0) ≡ false → any p xs ≡ any p (drop (i + 1) xs)
  any_more z h e = z ∙ next_is h e ∙ ap (λ (k : ℕ). any p (drop k xs)) (sym (add-one i))

  pub any_none : any p xs ≡ any p (drop i xs) → length xs ≤ i → false ≡ any p xs
  unfolding any
  any_none z h = sym (z ∙ ap (any p) (drop_of_length-le xs h))

pub number_at : (c : ℕ) → c < 8 → get_or client_numbers c 0 ≡ c
number_at zero h = refl
number_at (suc zero) h = refl
number_at (suc (suc zero)) h = refl
number_at (suc (suc (suc zero))) h = refl
number_at (suc (suc (suc (suc zero)))) h = refl
number_at (suc (suc (suc (suc (suc zero))))) h = refl
number_at (suc (suc (suc (suc (suc (suc zero)))))) h = refl
number_at (suc (suc (suc (suc (suc (suc (suc zero))))))) h = refl
number_at (suc (suc (suc (suc (suc (suc (suc (suc c)))))))) h = absurd (omega arith)

-- ## A client

yes_is : (l : List ℕ) (c : ℕ) → not (eqb (get_or l c 0) 0) ≡ is_set l c
unfolding is_set
yes_is l c = refl

pub is_set_lem : (l : List ℕ) (c : ℕ) → (get_or l c 0 ≡ 0 → ⊥) → is_set l c ≡ true
unfolding is_set
is_set_lem l c h = rw (ne_eqb (get_or l c 0) 0 h)

pub not_set : (l : List ℕ) (c : ℕ) → get_or l c 0 ≡ 0 → is_set l c ≡ false
unfolding is_set
not_set l c h = rw h

module _ (s : Brief) (c : ℕ) where
  pub nothing_dropped : get_or s.overlong c 0 ≡ 0 → false ≡ is_set s.overlong c && is_set s.length c
  nothing_dropped h = rw (not_set s.overlong c h)

  pub keeps_dropped : (get_or s.overlong c 0 ≡ 0 → ⊥) → not (eqb (get_or s.length c 0) 0) ≡ is_set s.overlong c && is_set s.length c
  keeps_dropped h = rw (is_set_lem s.overlong c h) (yes_is s.length c)

  pub open_keeps : (get_or s.open c 0 ≡ 0 → ⊥) → false ≡ not (is_set s.open c) && (is_set s.length c || is_set s.overlong c || is_set s.active c)
  open_keeps h = rw (is_set_lem s.open c h)

  module _ (o : get_or s.open c 0 ≡ 0) where
    pub keeps_bytes : (get_or s.length c 0 ≡ 0 → ⊥) → true ≡ not (is_set s.open c) && (is_set s.length c || is_set s.overlong c || is_set s.active c)
    keeps_bytes h = rw (not_set s.open c o, is_set_lem s.length c h)

    module _ (n : get_or s.length c 0 ≡ 0) where
      pub keeps_overlong : (get_or s.overlong c 0 ≡ 0 → ⊥) → true ≡ not (is_set s.open c) && (is_set s.length c || is_set s.overlong c || is_set s.active c)
      keeps_overlong h = rw (not_set s.open c o, not_set s.length c n, is_set_lem s.overlong c h)

      pub keeps_active : get_or s.overlong c 0 ≡ 0 → not (eqb (get_or s.active c 0) 0) ≡ not (is_set s.open c) && (is_set s.length c || is_set s.overlong c || is_set s.active c)
      keeps_active h = rw (not_set s.open c o, not_set s.length c n, not_set s.overlong c h) (yes_is s.active c)

pub unfit_at : (m : ℕ) (s : Clients) (c : ℕ) → c < 8 → (r : Bool) → r ≡ client_unfit m s c → {v : Bool} → r ≡ v → client_unfit m s (get_or client_numbers c 0) ≡ v
unfit_at m s c h r k e = ap (client_unfit m s) (number_at c h) ∙ sym k ∙ e

-- whether it has module i active
module _ (s : Clients) (c i : ℕ) where
  pub closed_inactive : get_or s.open c 0 ≡ 0 → false ≡ is_active (client_at s c) i
  unfolding client_at is_active
  closed_inactive h = rw (not_set s.open c h)

  pub open_active : (get_or s.open c 0 ≡ 0 → ⊥) → (r : Bool) → r ≡ bit (get_or s.active c 0) i → r ≡ is_active (client_at s c) i
  unfolding client_at is_active
  open_active h r e = rw (is_set_lem s.open c h) e

-- of client c, the faults in turn: the flags that the code has
module _ (m : ℕ) (s : Clients) (c : ℕ) where
  pub unfit_long : 1024 < get_or s.length c 0 → true ≡ client_unfit m s c
  unfolding client_unfit
  unfit_long h = rw (lt-ltb 1024 (get_or s.length c 0) h)

  module _ (h : get_or s.length c 0 ≤ 1024) (ls : List ℕ) (l : ls ≡ s.lines) (feed : Bool)
      (is : feed ≡ any (λ b. eqb b 10) (take ((1024 * c + get_or s.length c 0) - 1024 * c) (drop (1024 * c) ls))) where
    short : ltb 1024 (get_or s.length c 0) ≡ false
    short = le-ltb 1024 (get_or s.length c 0) h

    line : {v : Bool} → feed ≡ v → any (λ b. eqb b 10) (line_bytes s c) ≡ v
    unfolding line_bytes
    line e =
        let n : (1024 * c + get_or s.length c 0) - 1024 * c ≡ get_or s.length c 0 = omega arith in
        ap (λ (k : ℕ). any (λ b. eqb b 10) (take k (drop (1024 * c) s.lines))) (sym n) ∙ sym (rw l at is) ∙ e

    pub unfit_feed : feed ≡ true → true ≡ client_unfit m s c
    unfolding client_unfit
    unfit_feed e = rw (short, line e)

    module _ (none : feed ≡ false) (dropped : Bool) (kd : dropped ≡ is_set s.overlong c && is_set s.length c) where
      pub unfit_dropped : dropped ≡ true → true ≡ client_unfit m s c
      unfolding client_unfit
      unfit_dropped e = rw (short, line none, ← kd, e)

      module _ (clean : dropped ≡ false) (past : Bool) (kp : past ≡ past_last (get_or s.active c 0) m) where
        pub unfit_past : past ≡ true → true ≡ client_unfit m s c
        unfolding client_unfit
        unfit_past e = rw (short, line none, ← kd, clean, ← kp, e)

        pub unfit_closed : past ≡ false → (r : Bool) → r ≡ not (is_set s.open c) && (is_set s.length c || is_set s.overlong c || is_set s.active c) → r ≡ client_unfit m s c
        unfolding client_unfit
        unfit_closed e r k = rw (short, line none, ← kd, clean, ← kp, e) k
