-- Laws of the position of the first line feed. Assumes nothing.
use Prim.Native.Nat.{ℕ, ◌+◌, ◌≤◌}
use native.Mathlib.Omega.{arith}
use mathlib.Core.Bool.{Bool, true, false, cond}
use mathlib.Core.List.{List, [], ◌∷◌}
use mathlib.Core.Path.{◌≡◌, refl, sym}
use Rattle.std.specs.Prelude.{Option, Some, None}
use Rattle.std.specs.List.{position_or_len}
use Rattle.std.proofs.lemmas.Bool.{ltb-true, ltb-false}
use Rattle.std.proofs.lemmas.List.Recursion.{is_position_or_len}
use Rattle.std.proofs.lemmas.List.Sums.{prefix_len-le-length}
use lib.Dec.{eqb, ltb}
use lib.ListN.{length}
use Rattle.plain.specs.Calls.{before_feed}
use Rattle.accepted.specs.Clauses.Held.{FeedAt}

abbrev first : List ℕ → ℕ
first bs = position_or_len (λ (b : ℕ). eqb b 10) bs

before_first : (bs : List ℕ) → length (before_feed bs) ≡ first bs
unfolding before_feed
before_first bs = is_position_or_len (λ (l : List ℕ). length (before_feed l)) (λ (b : ℕ). eqb b 10) refl (λ x xs. go x xs (eqb x 10)) bs
  where
    go : (x : ℕ) (xs : List ℕ) (t : Bool) → length (cond t [] (x ∷ before_feed xs)) ≡ cond t 0 (1 + length (before_feed xs))
    go x xs true = refl
    go x xs false = omega arith

-- what `position` finds
pub feed_found : (bs : List ℕ) (o : Option ℕ) → o ≡ cond (ltb (first bs) (length bs)) (Some (first bs)) None → FeedAt bs o
feed_found bs o e = rw e (go (ltb (first bs) (length bs)) refl)
  where
    go : (t : Bool) → ltb (first bs) (length bs) ≡ t → FeedAt bs (cond t (Some (first bs)) None)
    go true h = (sym (before_first bs), ltb-true (first bs) (length bs) h)
    go false h =
        let least = ltb-false (first bs) (length bs) h in
        let most : first bs ≤ length bs = prefix_len-le-length _ bs in
        omega (arith, before_first bs)
