-- Records that are written one after another: each has room, and together they are the encoding of the list. Assumes nothing.
use Prim.Native.Nat.{ℕ, ◌≤◌}
use mathlib.Core.List.{List, [], ◌∷◌, ◌++◌, append-nil, append_assoc}
use mathlib.Core.Path.{◌≡◌, refl, sym, ap, ◌∙◌}
use native.Mathlib.Nat.{add-zero}
use native.Mathlib.Omega.{arith}
use lib.ListN.{length, length-append}
use Rattle.ascii.specs.Clauses.Writer.{Puts}
use Rattle.ascii.proofs.Puts.{puts_length, puts_both}
use Rattle.outbox.specs.Outbox.{Record, body, encode, encode_all}
use Rattle.outbox.specs.Clauses.Written.{RoomFor}

-- the bytes of records one after another
pub encode_append : (rs ss : List Record) → encode_all (rs ++ ss) ≡ encode_all rs ++ encode_all ss
unfolding encode_all
encode_append [] ss = refl
encode_append (r ∷ rs) ss = ap (λ (l : List ℕ). encode r ++ l) (encode_append rs ss) ∙ sym (append_assoc (encode r) (encode_all rs) (encode_all ss))

pub encode_one : (r : Record) → encode_all (r ∷ []) ≡ encode r
unfolding encode_all
encode_one r = append-nil (encode r)

encoded_after : (rs : List Record) (r : Record) → encode_all (rs ++ (r ∷ [])) ≡ encode_all rs ++ encode r
encoded_after rs r = encode_append rs (r ∷ []) ∙ ap (λ (l : List ℕ). encode_all rs ++ l) (encode_one r)

body_short : (r : Record) → length (body r) ≤ length (encode r)
unfolding encode
body_short r = simp length-append (omega arith)

module _ (rs : List Record) (r : Record) (d e : List ℕ) (p : ℕ) (x : Puts d 0 (encode_all rs) e p) where
  -- a buffer that has room for all records has room for the last one after the others
  pub room_after : length (encode_all (rs ++ (r ∷ []))) ≤ 32768 → 32768 ≤ length d → RoomFor e p r
  room_after h k =
      let i = ap length (encoded_after rs r) ∙ length-append (encode_all rs) (encode r) in
      let l = puts_length x in
      let z = x.ends in
      record { fits = omega arith; short = omega (arith, body_short r) }

  pub puts_after : (f : List ℕ) (q : ℕ) → Puts e p (encode r) f q → Puts d 0 (encode_all (rs ++ (r ∷ []))) f q
  puts_after f q y = rw (encoded_after rs r) (puts_both x y)

-- nothing is written yet
pub puts_none : (d : List ℕ) {at : ℕ} → Puts d at (encode_all []) d at
unfolding encode_all
puts_none d {at} = record { is = refl; ends = sym (add-zero at) }
