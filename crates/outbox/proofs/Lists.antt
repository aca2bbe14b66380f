-- Lists laid end to end, and how they are parted again: at the last place of a byte, or by a length. Assumes nothing.
use Prim.Native.Nat.{ℕ, ◌-◌}
use mathlib.Core.Bool.{Bool, true}
use mathlib.Core.List.{List, [], ◌∷◌, ◌++◌, reverse, reverse-append, reverse-cons, reverse-reverse}
use mathlib.Core.Path.{◌≡◌}
use lib.ListN.{length, take, length-append}
use lib.Seq.{append_snoc, take_at}
use native.Mathlib.Omega.{arith}
use Rattle.ascii.specs.Bytes.{all}
use Rattle.ascii.proofs.Lists.{all_parts, all_one, all_append, is_other, Lacks, before, beyond, before_at, beyond_at}

module _ {A : Type 0} (p : A → Bool) where
  all_reverse : (a : List A) → all p a ≡ true → all p (reverse a) ≡ true
  all_reverse [] h = h
  all_reverse (x ∷ a) h =
      let l = all_parts p x a h in
      rw reverse-cons (all_append p (reverse a) (x ∷ []) (all_reverse a l.1) (all_one p x l.0))

-- ## Parting at the last place of a byte

-- what stands before the last s, and what follows it
unfoldable pub before_last : ℕ → List ℕ → List ℕ
before_last s xs = reverse (beyond s (reverse xs))

unfoldable pub beyond_last : ℕ → List ℕ → List ℕ
beyond_last s xs = reverse (before s (reverse xs))

module _ (s : ℕ) where
  turned : (a x : List ℕ) → reverse (a ++ s ∷ x) ≡ reverse x ++ s ∷ reverse a
  turned a x = rw (reverse-append, reverse-cons, append_snoc)

  pub before_last_eq : (a x : List ℕ) → Lacks s x → before_last s (a ++ s ∷ x) ≡ a
  unfolding before_last
  before_last_eq a x h = rw (turned a x, beyond_at s (reverse x) (all_reverse (is_other s) x h) (reverse a), reverse-reverse)

  pub beyond_last_eq : (a x : List ℕ) → Lacks s x → beyond_last s (a ++ s ∷ x) ≡ x
  unfolding beyond_last
  beyond_last_eq a x h = rw (turned a x, before_at s (reverse x) (all_reverse (is_other s) x h) (reverse a), reverse-reverse)

-- ## Parting by a length

-- all but the last k
unfoldable pub without : ℕ → List ℕ → List ℕ
without k xs = take (length xs - k) xs

pub without_eq : (a b : List ℕ) → without (length b) (a ++ b) ≡ a
unfolding without
without_eq a b = take_at a b (length (a ++ b) - length b) (simp length-append (omega arith))
