-- Records are read back from their bytes: equal bytes, equal records. Assumes nothing.
use Prim.Native.Nat.{ℕ, ◌+◌, ◌*◌}
use mathlib.Core.Bool.{cond}
use mathlib.Core.List.{List, [], ◌∷◌, ◌++◌, append_assoc}
use mathlib.Core.Path.{◌≡◌, refl, sym, ◌∙◌, ap, ap₂}
use lib.ListN.{length, take, drop, get_or, length-append}
use lib.Seq.{take_at, drop_at, take-append_seam, drop-append_seam}
use native.Mathlib.Nat.{div-add-mod'}
use native.Mathlib.Omega.{arith}
use Rattle.ascii.specs.Text.{bytes}
use Rattle.ascii.specs.Bytes.{same, head, tail}
use Rattle.ascii.specs.Numbers.{two_bytes}
use Rattle.message.specs.Reply.{reply_line, update_line}
use Rattle.outbox.specs.Outbox.{Record, final, update, order_change, order_command, mark, client, body, encode, encode_all}
use Rattle.outbox.specs.Theorems.{WellFormed, EncodingIsReadBack}
use Rattle.outbox.proofs.Lists.{without, without_eq}
use Rattle.outbox.proofs.Lines.{read_update, update_read, read_reply, reply_read}

-- ## A record by its mark, client and body

record_of : List ℕ → ℕ → List ℕ → Record
record_of m c b =
    cond (same m (bytes "RP")) (final c (read_reply (without 1 b)))
    (cond (same m (bytes "UP")) (update c (read_update (without 1 b)))
    (cond (same m (bytes "DR")) (order_change c (head b) (tail b))
    (order_command c (head b) (tail b))))

body_read : (r : Record) → WellFormed r → record_of (mark r) (client r) (body r) ≡ r
unfolding record_of mark client body same head tail bytes
body_read (final c r) h = ap (final c) (ap read_reply (without_eq (reply_line r) (bytes "\n")) ∙ reply_read r h)
body_read (update c r) h = ap (update c) (ap read_update (without_eq (update_line r) (bytes "\n")) ∙ update_read r h)
body_read (order_change c p v) h = refl
body_read (order_command c p v) h = refl

-- ## The first record of some bytes, and what follows it

pub two_bytes_lem : (r : Record) → length (mark r) ≡ 2
unfolding mark bytes
two_bytes_lem (final c r) = refl
two_bytes_lem (update c r) = refl
two_bytes_lem (order_change c p v) = refl
two_bytes_lem (order_command c p v) = refl

-- the length of the body, by what follows the mark
size_of : List ℕ → ℕ
size_of xs = get_or xs 1 0 * 256 + get_or xs 2 0

read_first : List ℕ → Record
read_first xs = record_of (take 2 xs) (get_or (drop 2 xs) 0 0) (take (size_of (drop 2 xs)) (drop 3 (drop 2 xs)))

others : List ℕ → List ℕ
others xs = drop (size_of (drop 2 xs)) (drop 3 (drop 2 xs))

module _ (r : Record) (x : List ℕ) where
  frame : encode r ++ x ≡ mark r ++ (client r ∷ two_bytes (length (body r)) ++ (body r ++ x))
  unfolding encode two_bytes
  frame = simp append_assoc

  marked : take 2 (encode r ++ x) ≡ mark r
  marked = rw frame (take_at (mark r) _ 2 (two_bytes_lem r))

  unmarked : drop 2 (encode r ++ x) ≡ client r ∷ two_bytes (length (body r)) ++ (body r ++ x)
  unmarked = rw frame (drop_at (mark r) _ 2 (two_bytes_lem r))

  sized : size_of (client r ∷ two_bytes (length (body r)) ++ (body r ++ x)) ≡ length (body r)
  unfolding size_of two_bytes
  sized = div-add-mod' (length (body r)) 256

  first_read : WellFormed r → read_first (encode r ++ x) ≡ r
  unfolding read_first two_bytes
  first_read h = rw (marked, unmarked, sized, take-append_seam) (body_read r h)

  others_read : others (encode r ++ x) ≡ x
  unfolding others two_bytes
  others_read = rw (unmarked, sized, drop-append_seam)

  never_empty : encode r ++ x ≡ [] → ⊥
  never_empty e = omega (arith, two_bytes_lem r, simp length-append at (ap length (sym frame ∙ e)))

pub encoding_is_read_back : EncodingIsReadBack
unfolding encode_all
encoding_is_read_back [] [] h k e = refl
encoding_is_read_back [] (s ∷ ss) h k e = absurd (never_empty s (encode_all ss) (sym e))
encoding_is_read_back (r ∷ rs) [] h k e = absurd (never_empty r (encode_all rs) e)
encoding_is_read_back (r ∷ rs) (s ∷ ss) h k e =
    ap₂ ◌∷◌ (sym (first_read r (encode_all rs) h.0) ∙ ap read_first e ∙ first_read s (encode_all ss) k.0)
    (encoding_is_read_back rs ss h.1 k.1 (sym (others_read r (encode_all rs)) ∙ ap others e ∙ others_read s (encode_all ss)))
