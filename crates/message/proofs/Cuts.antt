-- Laws of a part that is cut at the first and the second of some byte. Assumes nothing.
use Prim.Native.Nat.{ℕ, suc, ◌+◌, ◌-◌, ◌≤◌, ◌<◌}
use native.Mathlib.Omega.{arith}
use mathlib.Core.Path.{◌≡◌, refl, sym, ap, ◌∙◌}
use mathlib.Core.Bool.{Bool, true, false, cond}
use mathlib.Core.List.{List, [], ◌∷◌, ◌++◌}
use Rattle.std.specs.Prelude.{Option, Some, None}
use Rattle.std.specs.Option.{unwrap_or}
use Rattle.std.specs.List.{prefix_len, position_or_len}
use Rattle.std.proofs.lemmas.Bool.{ltb-false}
use Rattle.std.proofs.lemmas.List.Sums.{prefix_len-le-length}
use lib.ListN.{length, take, drop, length-append, length-drop, drop_of_length-le}
use lib.Seq.{take_at, drop_at, take-add, take-take, take_all, drop-drop, length-take-le}
use lib.Dec.{eqb, ltb}
use Rattle.ascii.specs.Bytes.{take_while, drop_while, tail}
use Rattle.ascii.proofs.Bytes.{tail_drop}
use Rattle.message.specs.declared.line.Part.{Part}
use Rattle.message.specs.Clauses.Parsed.{Within, before, from_stop, after, Stops, Goes, Cuts}

-- ## The first of some byte

dropped : (p : ℕ → Bool) (xs : List ℕ) → drop_while p xs ≡ drop (prefix_len p xs) xs
unfolding drop_while
dropped p [] = refl
dropped p (x ∷ xs) = go (p x) (dropped p xs)
  where
    go : (t : Bool) → drop_while p xs ≡ drop (prefix_len p xs) xs → cond t (drop_while p xs) (x ∷ xs) ≡ drop (cond t (1 + prefix_len p xs) 0) (x ∷ xs)
    go true e =
        let s : 1 + prefix_len p xs ≡ suc (prefix_len p xs) = omega arith in
        e ∙ sym (ap (λ (k : ℕ). drop k (x ∷ xs)) s)
    go false e = refl

at_or : (i n : ℕ) → i ≤ n → unwrap_or (cond (ltb i n) (Some i) None) n ≡ i
at_or i n l = go (ltb i n) refl
  where
    go : (t : Bool) → ltb i n ≡ t → unwrap_or (cond t (Some i) None) n ≡ i
    go true e = refl
    go false e = let h = ltb-false i n e in omega arith

-- the position that `position` finds in what is left, or its length
pub found :
    (s : List ℕ) (from stop : ℕ) → from ≤ length s → (o : Option ℕ) (r : ℕ)
    → (let rest = take (length s - from) (drop from s) in
    o ≡ cond (ltb (position_or_len (λ b. eqb b stop) rest) (length rest)) (Some (position_or_len (λ b. eqb b stop) rest)) None
    → r ≡ unwrap_or o (length rest) → Stops s from stop (from + r))
unfolding from_stop
found s from stop h o r e u =
    let d = length-drop from s in
    let w : take (length s - from) (drop from s) ≡ drop from s = take_all (length s - from) (drop from s) (omega arith) in
    let i = position_or_len (λ b. eqb b stop) (drop from s) in
    let l : i ≤ length (drop from s) = prefix_len-le-length _ (drop from s) in
    let q : r ≡ i = rw w at (u ∙ ap (λ (x : Option ℕ). unwrap_or x (length (take (length s - from) (drop from s)))) e) ∙ at_or i _ l in
    record { is = dropped _ (drop from s) ∙ drop-drop i from s ∙ rw q; low = omega arith; high = omega arith }

pub past_one : (s : List ℕ) (at : ℕ) → at < length s → Goes s at (at + 1)
past_one s at h = record { is = tail_drop s at; low = omega arith; high = omega arith }

pub past_end : (s : List ℕ) (at : ℕ) → length s ≤ at → at ≤ length s → Goes s at at
unfolding tail
past_end s at h g = record { is = rw (drop_of_length-le s h); low = omega arith; high = g }

-- ## What stands before it

module _ (p : ℕ → Bool) where
  while : (xs : List ℕ) → take_while p xs ++ drop_while p xs ≡ xs
  unfolding take_while drop_while
  while [] = refl
  while (x ∷ xs) = go (p x) (while xs)
    where
      go : (t : Bool) → take_while p xs ++ drop_while p xs ≡ xs → cond t (x ∷ take_while p xs) [] ++ cond t (drop_while p xs) (x ∷ xs) ≡ x ∷ xs
      go true e = ap (λ (l : List ℕ). x ∷ l) e
      go false e = refl

  take_while_lem : (xs : List ℕ) (k : ℕ) → k ≤ length xs → drop_while p xs ≡ drop k xs → take_while p xs ≡ take k xs
  take_while_lem xs k h e =
      let n : length (take_while p xs) + length (drop_while p xs) ≡ length xs = simp length-append at (ap length (while xs)) in
      let m : length (drop_while p xs) ≡ length xs - k = ap length e ∙ length-drop k xs in
      let q : length (take_while p xs) ≡ k = omega arith in
      sym (ap (take k) (sym (while xs)) ∙ take_at (take_while p xs) (drop_while p xs) k q)

-- a part, as what is left of a line that is cut off at its end
module _ (xs : List ℕ) (from to : ℕ) (o : from ≤ to) (w : to ≤ length xs) where
  left : take (to - from) (drop from xs) ≡ drop from (take to xs)
  left =
      let e : from + (to - from) ≡ to = omega arith in
      let h : from ≤ length xs = omega arith in
      sym (ap (λ (k : ℕ). drop from (take k xs)) (sym e) ∙ ap (drop from) (take-add from (to - from) xs) ∙ drop_at (take from xs) _ from (length-take-le from xs h))

  short : (r : ℕ) → from ≤ r → r ≤ to → take (r - from) (drop from (take to xs)) ≡ take (r - from) (drop from xs)
  short r l h =
      let k : r - from ≤ to - from = omega arith in
      ap (take (r - from)) (sym left) ∙ take-take (r - from) (to - from) (drop from xs) k

  high : (r : ℕ) → r ≤ length (take to xs) → r ≤ to
  high r h = let e = length-take-le to xs w in omega arith

  module _ (stop r : ℕ) (s : Stops (take to xs) from stop r) where
    before_stop : take (r - from) (drop from xs) ≡ before stop (drop from (take to xs))
    unfolding before from_stop
    before_stop =
        let k : r - from ≤ length (drop from (take to xs)) = rw length-drop (let a = s.high in let b = s.low in omega arith) in
        let a = s.low in
        let q : from + (r - from) ≡ r = omega arith in
        sym (take_while_lem _ (drop from (take to xs)) (r - from) k (s.is ∙ sym (drop-drop (r - from) from (take to xs) ∙ ap (λ (j : ℕ). drop j (take to xs)) q)) ∙ short r a (high r s.high))

    after_stop : (n : ℕ) → Goes (take to xs) r n → after stop (drop from (take to xs)) ≡ drop n (take to xs)
    unfolding after
    after_stop n g = ap tail s.is ∙ g.is

  -- what begins at n ends where the part ends
  to_end : (n : ℕ) → n ≤ to → (l : List ℕ) → l ≡ drop n (take to xs) → n + length l ≡ to
  to_end n h l e =
      let m : length l ≡ length (take to xs) - n = ap length e ∙ length-drop n (take to xs) in
      let k = length-take-le to xs w in
      omega arith

-- ## Cut twice

pub cuts :
    (xs : List ℕ) (p : Part) (stop a n b m : ℕ) → Within xs p
    → Stops (take p.to xs) p.from stop a → Goes (take p.to xs) a n
    → Stops (take p.to xs) n stop b → Goes (take p.to xs) b m
    → Cuts xs p stop (record { first = record { from = p.from; to = a }; second = record { from = n; to = b }; rest = record { from = m; to = p.to } })
cuts xs p stop a n b m w sa ga sb gb =
    let f = p.from in
    let t = p.to in
    let o = w.ordered in
    let i = w.within in
    let an = high xs f t o i n ga.high in
    let bm = high xs f t o i m gb.high in
    let x1 = sa.low in
    let x2 = ga.low in
    let x3 = sb.low in
    let x4 = gb.low in
    let whole = left xs f t o i in
    let once = ap (after stop) whole ∙ after_stop xs f t o i stop a sa n ga in
    let twice = ap (after stop) once ∙ after_stop xs n t an i stop b sb m gb in
    record {
      first = before_stop xs f t o i stop a sa ∙ ap (before stop) (sym whole);
      second = before_stop xs n t an i stop b sb ∙ ap (before stop) (sym once);
      rest = left xs m t bm i ∙ sym twice;
      first_in = record { ordered = x1; within = omega arith };
      second_in = record { ordered = x3; within = omega arith };
      rest_in = record { ordered = bm; within = i };
      first_at = refl;
      second_at = to_end xs f t o i n an _ once;
      rest_at = to_end xs f t o i m bm _ twice;
    }
