-- Laws of the lines: their parts as the code writes them, and their lengths. Assumes nothing.
use Prim.Native.Nat.{ℕ, zero, suc, ◌+◌, ◌-◌, ◌*◌, ◌^◌, ◌≤◌, ◌<◌}
use native.Mathlib.Numerals.{add-one}
use native.Mathlib.Omega.{arith}
use mathlib.Core.Bool.{Bool, true, false}
use mathlib.Core.List.{List, [], ◌∷◌, ◌++◌, append_assoc, append-nil}
use mathlib.Core.Logic.{◌≢◌}
use mathlib.Core.Path.{◌≡◌, refl, sym, ap, ◌∙◌}
use lib.Dec.{eqb}
use lib.ListN.{length, take, length-append}
use borrow.Author.Tests.{eq-eqb, ne_eqb, eqb-true, eqb-false}
use Rattle.ascii.specs.Text.{bytes}
use Rattle.ascii.specs.Numbers.{decimal}
use Rattle.ascii.specs.Clauses.Writer.{Puts}
use Rattle.ascii.proofs.Decimal.{decimal_short, decimal_low}
use Rattle.ascii.proofs.Puts.{puts_length, puts_both}
use Rattle.message.specs.declared.say.Fault.{Fault}
use Rattle.message.specs.declared.say.Sensor.{Sensor}
use Rattle.message.specs.declared.say.Sensor.TheVariants.{Works, Fails}
use Rattle.message.specs.Error.{fault_name}
use Rattle.message.specs.Clauses.Said.{fault_as, held_by}
use Rattle.trace.specs.declared.Reader.{Reader}
use Rattle.trace.specs.Reader.{end_of}
use Rattle.trace.specs.Clauses.Takes.{progress_of}
use Rattle.summary.specs.Summary.{held_text, value_line, refused_line, refused_lines, end_line, start_line}
use Rattle.summary.specs.Clauses.Lines.{offset_text}

-- ## A parameter's line

module _ (m p v : List ℕ) where
  pub line_length : length (value_line m p v) ≡ length m + length p + length v + 3
  unfolding value_line bytes
  line_length = simp length-append (omega arith)

  pub line_parts : value_line m p v ≡ ((((m ++ (58 ∷ [])) ++ p) ++ (32 ∷ [])) ++ v) ++ (10 ∷ [])
  unfolding value_line bytes
  line_parts = refl

-- a value, or the class of the error in its place
module _ (s : Sensor) (v : List ℕ) (w : s ≡ Works) where
  works : held_text (held_by s v) ≡ v
  unfolding held_text
  works = rw w

  pub works_room : (at n : ℕ) → at + length (held_text (held_by s v)) ≤ n → at + length v ≤ n
  works_room at n h = rw works at h

  pub works_put : (d e : List ℕ) (at r : ℕ) → Puts d at v e r → Puts d at (held_text (held_by s v)) e r
  works_put d e at r x = rw works x

module _ (s : Sensor) (f : Fault) (v : List ℕ) (w : s ≡ Fails f) where
  fails : held_text (held_by s v) ≡ fault_name (fault_as f)
  unfolding held_text
  fails = rw w

  pub fails_room : (at n : ℕ) → at + length (held_text (held_by s v)) ≤ n → at + length (fault_name (fault_as f)) ≤ n
  fails_room at n h = rw fails at h

  pub fails_put : (d e : List ℕ) (at r : ℕ) → Puts d at (fault_name (fault_as f)) e r → Puts d at (held_text (held_by s v)) e r
  fails_put d e at r x = rw fails x

-- ## Refusals

module _ (k n : ℕ) where
  pub refused_none : n ≡ 0 → refused_line k n ≡ []
  unfolding refused_line
  refused_none e = rw (eq-eqb n 0 e)

  abbrev refused_text : List ℕ
  refused_text = (((bytes "refused " ++ decimal k) ++ (32 ∷ [])) ++ decimal n) ++ (10 ∷ [])

  pub refused_parts : n ≢ 0 → refused_line k n ≡ refused_text
  unfolding refused_line bytes
  refused_parts h = rw (ne_eqb n 0 h)

  pub refused_length : n ≢ 0 → length (refused_line k n) ≡ length (decimal k) + length (decimal n) + 10
  unfolding bytes
  refused_length h = ap length (refused_parts h) ∙ simp length-append (omega arith)

  pub refused_short : k < 100 → n < 2 ^ 64 → length (refused_line k n) ≤ 32
  refused_short h l = go (eqb n 0) refl
    where
      go : (t : Bool) → eqb n 0 ≡ t → length (refused_line k n) ≤ 32
      go true e = rw (refused_none (eqb-true n 0 e)) (omega arith)
      go false e =
          let a = decimal_short 1 k h in
          let b = decimal_low n l in
          rw (refused_length (eqb-false n 0 e)) (omega arith)

nothing_put : (d : List ℕ) (at : ℕ) → Puts d at [] d at
nothing_put d at = record { is = refl; ends = omega arith }

pub not_met : (k n : ℕ) → n ≡ 0 → (d : List ℕ) (at : ℕ) → Puts d at (refused_line k n) d at
not_met k n e d at = rw (refused_none k n e) (nothing_put d at)

-- ## Texts one after another: of all some are written, and the others are left

pub record Going (d : List ℕ) (at : ℕ) (all left e : List ℕ) (p : ℕ) : Type 0 where
  pub written : List ℕ
  pub puts : Puts d at written e p
  pub is : all ≡ written ++ left

pub going_start : (d : List ℕ) (at : ℕ) (all : List ℕ) → Going d at all all d at
going_start d at all = record { written = []; puts = nothing_put d at; is = refl }

module _ {d : List ℕ} {at : ℕ} {all : List ℕ} {e : List ℕ} {p : ℕ} where
  pub going_room : (xs left : List ℕ) → Going d at all (xs ++ left) e p → at + length all ≤ length d → p + length xs ≤ length e
  going_room xs left g h =
      let l = ap length g.is ∙ length-append g.written (xs ++ left) ∙ ap (λ (n : ℕ). length g.written + n) (length-append xs left) in
      let n = puts_length g.puts in
      let q = g.puts.ends in
      omega arith

  pub going_on : (xs left : List ℕ) → Going d at all (xs ++ left) e p → {f : List ℕ} {q : ℕ} → Puts e p xs f q → Going d at all left f q
  going_on xs left g x =
      record { written = g.written ++ xs; puts = puts_both g.puts x; is = g.is ∙ sym (append_assoc g.written xs left) }

  pub going_end : Going d at all [] e p → Puts d at all e p
  going_end g = rw (g.is, append-nil g.written) g.puts

  pub going_length : {left : List ℕ} → Going d at all left e p → length e ≡ length d
  going_length g = puts_length g.puts

-- ## All refusals

module _ (f : ℕ → ℕ) where
  abbrev pub refused_from : ℕ → List ℕ
  refused_from k = refused_lines (19 - k) k f

  pub refused_step : (k : ℕ) → k < 19 → refused_from k ≡ refused_line k (f k) ++ refused_from (k + 1)
  unfolding refused_lines
  refused_step k h =
      let e : 19 - k ≡ suc (19 - (k + 1)) = omega arith in
      rw (e, add-one k)

  pub refused_last : (k : ℕ) → 19 ≤ k → refused_from k ≡ []
  unfolding refused_lines
  refused_last k h = let e : 19 - k ≡ 0 = omega arith in rw e

-- where the loop over the numbers stands
pub record Counting (d : List ℕ) (at : ℕ) (f : ℕ → ℕ) (k : ℕ) (e : List ℕ) (p : ℕ) : Type 0 where
  pub low : k ≤ 19
  pub going : Going d at (refused_from f 1) (refused_from f k) e p
  pub room : p + 32 * (19 - k) ≤ length e
  pub short : p + 32 ≤ at + 32 * k

module _ (d : List ℕ) (at : ℕ) (f : ℕ → ℕ) where
  pub counting_start : at + 576 ≤ length d → Counting d at f 1 d at
  counting_start h = record { low = omega arith; going = going_start d at (refused_from f 1); room = omega arith; short = omega arith }

  module _ {k : ℕ} {e : List ℕ} {p : ℕ} (c : Counting d at f k e p) where
    pub counting_on : k < 19 → length (refused_line k (f k)) ≤ 32 → {g : List ℕ} {q : ℕ} → Puts e p (refused_line k (f k)) g q → Counting d at f (k + 1) g q
    counting_on h s x =
        let r = c.room in
        let b = c.short in
        let n = puts_length x in
        let z = x.ends in
        record {
          low = omega arith;
          going = going_on (refused_line k (f k)) (refused_from f (k + 1)) (rw (refused_step f k h) at c.going) x;
          room = omega arith;
          short = omega arith;
        }

    pub counting_room : k < 19 → (k < 100) × (p + 32 ≤ length e)
    counting_room h = let r = c.room in (omega arith, omega arith)

    pub counting_length : length e ≡ length d
    counting_length = going_length c.going

    pub counting_end : 19 ≤ k → Puts d at (refused_lines 18 1 f) e p × (p ≤ at + 576)
    counting_end h = let l = c.low in let s = c.short in (going_end (rw (refused_last f k h) at c.going), omega arith)

-- ## The end of a trace, and a start

pub offset_length : (n : ℕ) → n < 2 ^ 64 → length (offset_text n) ≤ 21
unfolding offset_text bytes
offset_length n h = let l = decimal_low n h in simp length-append (omega arith)

pub offset_parts : (n : ℕ) → offset_text n ≡ decimal n ++ (10 ∷ [])
unfolding offset_text bytes
offset_parts n = refl

taken_none : (n : ℕ) (l : List ℕ) → length l ≡ 4109 → length (take n l) ≡ 0 → n ≡ 0
taken_none zero l h e = refl
taken_none (suc n) [] h e = absurd (omega arith)
taken_none (suc n) (x ∷ l) h e = absurd (omega arith)

module _ (r : Reader) (d e f : List ℕ) (at p q : ℕ) where
  pub ends_wrong : r.stopped ≡ true → Puts d at (bytes "wrong ") e p → Puts e p (offset_text r.offset) f q
      → Puts d at (end_line (end_of (progress_of r)) r.offset) f q
  unfolding end_line end_of offset_text
  ends_wrong s x y = rw (s, append_assoc) (puts_both x y)

  pub ends_half : r.stopped ≡ false → r.size ≢ 0 → length r.held ≡ 4109 → Puts d at (bytes "half ") e p → Puts e p (offset_text r.offset) f q
      → Puts d at (end_line (end_of (progress_of r)) r.offset) f q
  unfolding end_line end_of offset_text
  ends_half s z l x y =
      rw (s, ne_eqb (length (take r.size r.held)) 0 (λ w. z (taken_none r.size r.held l w)), append_assoc) (puts_both x y)

pub ends_clean : (r : Reader) → r.stopped ≡ false → r.size ≡ 0 → (d : List ℕ) (at : ℕ) → Puts d at (end_line (end_of (progress_of r)) r.offset) d at
unfolding end_line end_of
ends_clean r s z d at = rw (s, z) (nothing_put d at)

pub starts : (n : ℕ) (d e f : List ℕ) (p q : ℕ) → Puts d 0 (bytes "start ") e p → Puts e p (offset_text n) f q → Puts d 0 (start_line n) f q
unfolding start_line offset_text
starts n d e f p q x y = rw append_assoc (puts_both x y)
