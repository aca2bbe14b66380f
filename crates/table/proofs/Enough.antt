-- The counts of `accessibles_at` and `modules_at` never cut a table short: with any count that is at least the number of bytes they read
-- the same. The reason: no reader leaves more than it was given, and each record takes a byte at least. Assumes nothing.
use Rattle.std.specs.Prelude.{Option, Some}
use Prim.Native.Nat.{ℕ, zero, suc, ◌≤◌, ◌<◌}
use native.Mathlib.Omega.{arith}
use mathlib.Core.Path.{◌≡◌, refl, sym, ◌∙◌}
use mathlib.Core.Bool.{Bool, true, false, cond, false≢true}
use mathlib.Core.List.{List, [], ◌∷◌}
use lib.ListN.{length, drop, length-drop}
use lib.Dec.{eqb}
use Rattle.ascii.specs.Text.{bytes}
use Rattle.ascii.specs.Bytes.{◌>>=◌, after}
use Rattle.ascii.specs.Clauses.Reader.{rest}
use Rattle.ascii.proofs.Follows.{then_same}
use Rattle.table.specs.Layout.{begins, parameter_at, command_at, accessibles_at, module_at, modules_at}
use Rattle.table.specs.Clauses.At.{texts_at, accessible_begins, accessible_at, accessibles_from, heading_at, modules_from}
use Rattle.table.proofs.Leaves.{Within, failed, left, Rest, Ending, w_cond, w_then, r_then, r_cond, r_after, w_counted, w_flag, w_datainfo, w_unsigned, w_part, w_argument, w_marked}

-- at most n bytes
pub record Short (n : ℕ) (xs : List ℕ) : Type 0 where
  pub short : length xs ≤ n

shorter : {n : ℕ} → Ending (Short n)
shorter k xs h = record { short = rw length-drop (omega (arith, h.short)) }

-- ## Records, each of which takes a byte

-- a mark takes a byte
r_mark : {n : ℕ} (w : ℕ) (m : List ℕ) {xs : List ℕ} → Short (suc n) xs → Rest (Short n) (after (w ∷ m) xs)
unfolding after
r_mark w m {xs = []} h = failed
r_mark {n} w m {xs = x ∷ xs} h = r_cond (eqb x w) (r_after shorter m (record { short = omega arith })) failed

module _ {n : ℕ} where
  w_parameter : (k : ℕ) {xs : List ℕ} → Short (suc n) xs → Within (Short n) (parameter_at k xs)
  unfolding parameter_at bytes
  w_parameter k h =
      r_then (r_mark 80 (65 ∷ []) h)
      (λ a g. w_then (w_counted shorter g) (λ p i. w_then (w_counted shorter i) (λ q j. w_then (w_flag shorter j) (λ r l. w_then (w_datainfo shorter 4 r.1 l) (λ d e. w_then (w_unsigned shorter 2 e) (λ u v. w_then (w_part shorter u.0 v) (λ x y. left y)))))))

  w_command : {xs : List ℕ} → Short (suc n) xs → Within (Short n) (command_at xs)
  unfolding command_at bytes
  w_command h =
      r_then (r_mark 67 (77 ∷ []) h)
      (λ a g. w_then (w_counted shorter g) (λ p i. w_then (w_counted shorter i) (λ q j. w_then (w_flag shorter j) (λ r l. w_then (w_argument shorter r.0 l) (λ d e. left e)))))

  w_accessible : (k : ℕ) (xs : List ℕ) → Short (suc n) xs → Within (Short n) (accessible_at k xs)
  unfolding accessible_at
  w_accessible k xs h = w_cond (begins (bytes "PA") xs) (w_parameter k h) (w_command h)

-- ## As many records as follow

nil : {xs : List ℕ} → Short 0 xs → xs ≡ []
nil {xs = []} h = refl
nil {xs = x ∷ xs} h = absurd (omega arith)

out : {A : Type 0} {n : ℕ} {p : A × List ℕ} → Within (Short n) (Some p) → Short n p.1
out (left h) = h

all_of_it : (xs : List ℕ) → Short (length xs) xs
all_of_it xs = record { short = omega arith }

-- an element before what else was read
abbrev pub before : {A : Type 0} → A → Option (List A × List ℕ) → Option (List A × List ℕ)
before a o = o >>= λ q. Some (a ∷ q.0, q.1)

-- at most k records, each where the test passes
unfoldable pub many : {A : Type 0} → (List ℕ → Bool) → (List ℕ → Option (A × List ℕ)) → ℕ → List ℕ → Option (List A × List ℕ)
many test read zero xs = Some ([], xs)
many test read (suc k) xs = cond (test xs) (read xs >>= λ p. before p.0 (many test read k p.1)) (Some ([], xs))

-- records of which none begins in no bytes, and each takes a byte
module _ {A : Type 0} (test : List ℕ → Bool) (read : List ℕ → Option (A × List ℕ)) (empty : test [] ≡ false) (takes : (n : ℕ) (xs : List ℕ) → Short (suc n) xs → Within (Short n) (read xs)) where
  pub w_many : (k : ℕ) {n : ℕ} {xs : List ℕ} → Short n xs → Within (Short n) (many test read k xs)
  unfolding many
  w_many zero h = left h
  w_many (suc k) {n} {xs} h =
      w_cond (test xs) (w_then (takes n xs (record { short = omega arith })) (λ p g. w_then (w_many k g) (λ q l. left l))) (left h)

  many_nil : (k : ℕ) → many test read k [] ≡ Some ([], [])
  unfolding many
  many_nil zero = refl
  many_nil (suc k) = rw empty

  many_same : (a b : ℕ) (xs : List ℕ) → Short a xs → Short b xs → many test read a xs ≡ many test read b xs
  unfolding many
  many_same zero b xs h g = rw (nil h) (sym (many_nil b))
  many_same (suc a) zero xs h g = rw (nil g) (many_nil (suc a))
  many_same (suc a) (suc b) xs h g =
      rw (then_same (read xs) (λ p. before p.0 (many test read a p.1)) (λ p. before p.0 (many test read b p.1))
      (λ p e. rw (many_same a b p.1 (out (rw e at (takes a xs h))) (out (rw e at (takes b xs g))))))

  pub many_stop : (xs : List ℕ) → test xs ≡ false → many test read (length xs) xs ≡ Some ([], xs)
  unfolding many
  many_stop [] h = refl
  many_stop (x ∷ xs) h = rw h

  pub many_more : (xs : List ℕ) → test xs ≡ true → many test read (length xs) xs ≡ (read xs >>= λ p. before p.0 (many test read (length p.1) p.1))
  unfolding many
  many_more [] h = absurd (false≢true (sym empty ∙ h))
  many_more (x ∷ xs) h =
      rw h
      (then_same (read (x ∷ xs)) _ _ (λ p e. rw (many_same (length xs) (length p.1) p.1 (out (rw e at (takes (length xs) (x ∷ xs) (all_of_it (x ∷ xs))))) (all_of_it p.1))))

  -- a record that begins takes a byte
  pub many_less : (xs r : List ℕ) → test xs ≡ true → rest (read xs) ≡ Some r → length r < length xs
  many_less [] r h e = absurd (false≢true (sym empty ∙ h))
  many_less (x ∷ xs) r h e = go (takes (length xs) (x ∷ xs) (all_of_it (x ∷ xs))) e
    where
      go : {o : Option (A × List ℕ)} → Within (Short (length xs)) o → rest o ≡ Some r → length r < suc (length xs)
      go failed e = let z : ◌≡◌ {A = ℕ} 0 1 = cc in absurd (omega arith)
      go (left {p = p} g) e = let z : p.1 ≡ r = cc in let y = g.short in rw (← z) (omega arith)

-- the table's accessibles and modules are such records
pub accessibles_many : (n k : ℕ) (xs : List ℕ) → accessibles_at n k xs ≡ many accessible_begins (accessible_at n) k xs
unfolding accessibles_at accessible_at many
accessibles_many n zero xs = refl
accessibles_many n (suc k) xs =
    rw (then_same (cond (begins (bytes "PA") xs) (parameter_at n xs) (command_at xs)) (λ p. before p.0 (accessibles_at n k p.1)) (λ p. before p.0 (many accessible_begins (accessible_at n) k p.1))
    (λ p e. rw (accessibles_many n k p.1)))

accessibles_empty : accessible_begins [] ≡ false
unfolding begins after bytes
accessibles_empty = refl

w_accessibles : (n k : ℕ) {m : ℕ} {xs : List ℕ} → Short m xs → Within (Short m) (accessibles_at n k xs)
w_accessibles n k {m} {xs} h = rw accessibles_many (w_many accessible_begins (accessible_at n) accessibles_empty (λ j ys g. w_accessible n ys g) k h)

pub modules_many : (n k : ℕ) (xs : List ℕ) → modules_at n k xs ≡ many (begins (bytes "MO")) (module_at n) k xs
unfolding modules_at many
modules_many n zero xs = refl
modules_many n (suc k) xs =
    rw (then_same (module_at n xs) (λ p. before p.0 (modules_at n k p.1)) (λ p. before p.0 (many (begins (bytes "MO")) (module_at n) k p.1))
    (λ p e. rw (modules_many n k p.1)))

modules_empty : begins (bytes "MO") [] ≡ false
unfolding begins after bytes
modules_empty = refl

w_module : (k : ℕ) {n : ℕ} (xs : List ℕ) → Short (suc n) xs → Within (Short n) (module_at k xs)
unfolding module_at bytes
w_module k xs h =
    r_then (r_mark 77 (79 ∷ []) h)
    (λ a g. w_then (w_counted shorter g) (λ p i. w_then (w_counted shorter i) (λ q j. w_then (w_marked shorter (bytes "NO") j)
    (λ r l. w_then (w_accessibles k (length r.1) l) (λ d e. left e)))))

-- what a module has before its accessibles
w_heading : {n : ℕ} (xs : List ℕ) → Short (suc n) xs → Within (Short n) (heading_at xs)
unfolding heading_at texts_at bytes
w_heading xs h =
    w_then (r_then (r_mark 77 (79 ∷ []) h) (λ a g. w_then (w_counted shorter g) (λ p i. w_then (w_counted shorter i) (λ q j. left j))))
    (λ t k. w_then (w_marked shorter (bytes "NO") k) (λ r l. left l))

-- ## One record at a position, and those that follow it

module _ (s : List ℕ) (i : ℕ) where
  takes_accessible : (n : ℕ) (xs : List ℕ) → Short (suc n) xs → Within (Short n) (accessible_at (length s) xs)
  takes_accessible n xs h = w_accessible (length s) xs h

  pub accessibles_stop : accessible_begins (drop i s) ≡ false → accessibles_from s i ≡ Some ([], drop i s)
  accessibles_stop h = simp accessibles_many (many_stop accessible_begins (accessible_at (length s)) accessibles_empty takes_accessible (drop i s) h)

  pub accessibles_more : accessible_begins (drop i s) ≡ true → accessibles_from s i ≡ (accessible_at (length s) (drop i s) >>= λ p. before p.0 (accessibles_at (length s) (length p.1) p.1))
  accessibles_more h = simp accessibles_many (many_more accessible_begins (accessible_at (length s)) accessibles_empty takes_accessible (drop i s) h)

  pub accessible_less : (r : List ℕ) → accessible_begins (drop i s) ≡ true → rest (accessible_at (length s) (drop i s)) ≡ Some r → length r < length (drop i s)
  accessible_less r h e = many_less accessible_begins (accessible_at (length s)) accessibles_empty takes_accessible (drop i s) r h e

  takes_module : (n : ℕ) (xs : List ℕ) → Short (suc n) xs → Within (Short n) (module_at (length s) xs)
  takes_module n xs h = w_module (length s) xs h

  pub modules_stop : begins (bytes "MO") (drop i s) ≡ false → modules_from s i ≡ Some ([], drop i s)
  modules_stop h = simp modules_many (many_stop (begins (bytes "MO")) (module_at (length s)) modules_empty takes_module (drop i s) h)

  pub modules_more : begins (bytes "MO") (drop i s) ≡ true → modules_from s i ≡ (module_at (length s) (drop i s) >>= λ p. before p.0 (modules_at (length s) (length p.1) p.1))
  modules_more h = simp modules_many (many_more (begins (bytes "MO")) (module_at (length s)) modules_empty takes_module (drop i s) h)

  pub module_less : (r : List ℕ) → begins (bytes "MO") (drop i s) ≡ true → rest (module_at (length s) (drop i s)) ≡ Some r → length r < length (drop i s)
  module_less r h e = many_less (begins (bytes "MO")) (module_at (length s)) modules_empty takes_module (drop i s) r h e

  takes_heading : (n : ℕ) (xs : List ℕ) → Short (suc n) xs → Within (Short n) (heading_at xs)
  takes_heading n xs h = w_heading xs h

  pub heading_less : (r : List ℕ) → begins (bytes "MO") (drop i s) ≡ true → rest (heading_at (drop i s)) ≡ Some r → length r < length (drop i s)
  heading_less r h e = many_less (begins (bytes "MO")) heading_at modules_empty takes_heading (drop i s) r h e
