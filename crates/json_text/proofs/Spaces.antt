-- Laws of spaces, over a byte b that was read at a position. Assumes nothing.
use Prim.Native.Nat.{ℕ, ◌+◌, ◌≤◌}
use mathlib.Core.Path.{◌≡◌}
use mathlib.Core.List.{List}
use lib.ListN.{length, drop}
use borrow.Author.Tests.{eq-eqb, ne_eqb}
use Rattle.ascii.specs.Bytes.{is_space}
use Rattle.ascii.specs.Clauses.Reader.{ByteAt, Left}
use Rattle.ascii.proofs.Bytes.{more, stop}
use Rattle.json_text.specs.Json.{skip}

module _ {s : List ℕ} {at b : ℕ} (x : ByteAt s at b) (l : List ℕ) where
  pub skip_more : b ≡ 32 → l ≡ skip (drop at s) → l ≡ skip (drop (at + 1) s)
  skip_more h e = more x is_space l (eq-eqb b 32 h) e

  pub skip_stop : (b ≡ 32 → ⊥) → l ≡ skip (drop at s) → at ≤ length s → Left s at l
  skip_stop h e w = stop x is_space l (ne_eqb b 32 h) e w
