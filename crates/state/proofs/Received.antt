-- Laws of the bytes that join a client's line. Assumes nothing.
use Prim.Native.Nat.{ℕ, suc, ◌+◌, ◌≤◌, ◌<◌}
use native.Mathlib.Omega.{arith}
use native.Mathlib.Nat.{add-suc, suc-add}
use mathlib.Core.Path.{◌≡◌, refl, ◌∙◌}
use mathlib.Core.Bool.{Bool, true, false, cond}
use mathlib.Core.List.{List, [], ◌∷◌, ◌++◌, append-nil, append_assoc}
use lib.Dec.{ltb}
use lib.ListN.{length, length-append}
use borrow.Author.Tests.{ltb-true, lt-ltb}
use Rattle.ascii.specs.Bytes.{any}
use Rattle.message.specs.Line.{whole, overlong, with_byte}
use Rattle.plain.specs.Node.{closed, connected, receive}
use Rattle.ascii.proofs.Lists.{neither}
use Rattle.state.proofs.Flags.{nor}

pub receive_closed : (bs : List ℕ) → receive closed bs ≡ closed
unfolding receive
receive_closed [] = refl
receive_closed (b ∷ bs) = refl

module _ (a : ℕ → Bool) where
  pub receive_overlong : (bs : List ℕ) → receive (connected overlong a) bs ≡ connected overlong a
  unfolding receive with_byte
  receive_overlong [] = refl
  receive_overlong (b ∷ bs) = receive_overlong bs

  one_more_lem : (xs : List ℕ) (b : ℕ) → length (xs ++ (b ∷ [])) ≡ suc (length xs)
  one_more_lem xs b = length-append xs (b ∷ []) ∙ omega arith

  pub receive_whole : (bs xs : List ℕ) → length xs + length bs ≤ 1024 → receive (connected (whole xs) a) bs ≡ connected (whole (xs ++ bs)) a
  unfolding receive with_byte
  receive_whole [] xs h = rw append-nil
  receive_whole (b ∷ bs) xs h =
      let k : length (xs ++ (b ∷ [])) + length bs ≤ 1024 = rw (one_more_lem xs b, suc-add (length xs) (length bs), ← (add-suc (length xs) (length bs))) h in
      let l : length xs < 1024 = omega (arith, add-suc (length xs) (length bs)) in
      rw (lt-ltb (length xs) 1024 l) (receive_whole bs (xs ++ (b ∷ [])) k ∙ rw append_assoc)

  pub receive_over : (bs xs : List ℕ) → length xs ≤ 1024 → 1024 < length xs + length bs → receive (connected (whole xs) a) bs ≡ connected overlong a
  unfolding receive with_byte
  receive_over [] xs h k = absurd (omega arith)
  receive_over (b ∷ bs) xs h k = go (ltb (length xs) 1024) (ltb-true (length xs) 1024) (receive_over bs (xs ++ (b ∷ [])))
    where
      go : (t : Bool) → (t ≡ true → length xs < 1024)
          → (length (xs ++ (b ∷ [])) ≤ 1024 → 1024 < length (xs ++ (b ∷ [])) + length bs → receive (connected (whole (xs ++ (b ∷ []))) a) bs ≡ connected overlong a)
          → receive (connected (cond t (whole (xs ++ (b ∷ []))) overlong) a) bs ≡ connected overlong a
      go false p f = receive_overlong bs
      go true p f =
          let l = p refl in
          let i : length (xs ++ (b ∷ [])) ≤ 1024 = rw (one_more_lem xs b) l in
          let j : 1024 < length (xs ++ (b ∷ [])) + length bs = rw (one_more_lem xs b, suc-add (length xs) (length bs), ← (add-suc (length xs) (length bs))) k in
          f i j

pub any_append : (p : ℕ → Bool) (xs ys : List ℕ) → any p xs ≡ false → any p ys ≡ false → any p (xs ++ ys) ≡ false
unfolding any
any_append p [] ys h k = k
any_append p (x ∷ xs) ys h k = let n = neither (p x) (any p xs) h in nor n.0 (any_append p xs ys n.1 k)
