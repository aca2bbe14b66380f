-- A buffer that is filled from the front. Assumes nothing.
use Prim.Native.Nat.{ℕ, ◌+◌, ◌%◌, ◌≤◌, ◌<◌}
use native.Mathlib.Omega.{arith}
use mathlib.Core.Bool.{Bool, true, false}
use mathlib.Core.List.{List}
use mathlib.Core.Path.{◌≡◌, refl, sym, ap, ◌∙◌}
use lib.Dec.{eqb}
use lib.ListN.{length, get_or, set, length-set}
use lib.Seq.{get_or-set_same, get_or-set_other}
use borrow.Author.Tests.{eqb-true, eqb-false}
use Rattle.script.specs.Clauses.Pattern.{Filled}

-- the first i bytes are
pub record Begun (before : List ℕ) (i : ℕ) (after : List ℕ) : Type 0 where
  pub size : length after ≡ length before
  pub bytes : (j : ℕ) → j < i → get_or after j 0 ≡ j % 251

pub begun_none : (before : List ℕ) → Begun before 0 before
begun_none before = record { size = refl; bytes = λ j h. absurd (omega arith) }

module _ {before : List ℕ} {i : ℕ} {after : List ℕ} where
  pub begun_more : Begun before i after → i < length after → Begun before (i + 1) (set after i (i % 251))
  begun_more b l =
      record {
        size = length-set after i (i % 251) ∙ b.size;
        bytes = λ j h. go j h (eqb j i) refl;
      }
    where
      go : (j : ℕ) → j < i + 1 → (q : Bool) → eqb j i ≡ q → get_or (set after i (i % 251)) j 0 ≡ j % 251
      go j h true e = ap (λ k. get_or (set after i (i % 251)) k 0) (eqb-true j i e) ∙ get_or-set_same after i (i % 251) 0 l ∙ ap (◌% 251) (sym (eqb-true j i e))
      go j h false e = get_or-set_other after i j (i % 251) 0 (eqb-false j i e) ∙ b.bytes j (let n = eqb-false j i e in omega arith)

  pub begun_all : Begun before i after → length after ≤ i → Filled before after
  begun_all b l = record { size = b.size; bytes = λ j h. let e = b.size in b.bytes j (omega arith) }
