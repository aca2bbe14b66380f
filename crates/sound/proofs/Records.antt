-- Records that are well formed, and the bytes that they take. Assumes nothing.
use Rattle.std.specs.Prelude.{Option, Some, None, slice_get}
use Prim.Native.Nat.{ℕ, suc, ◌+◌, ◌*◌, ◌≤◌}
use Rattle.counter.specs.declared.Counts.{Counts}
use Rattle.counter.specs.Counts.{highest}
use mathlib.Core.Bool.{Bool, true, false, cond, not, ◌&&◌}
use mathlib.Core.List.{List, [], ◌∷◌, ◌++◌}
use mathlib.Core.Path.{◌≡◌, refl, subst}
use native.Mathlib.Nat.{add-zero}
use native.Mathlib.Omega.{arith}
use lib.Dec.{leb}
use lib.ListN.{length, length-append}
use borrow.Author.Tests.{leb-true}
use Rattle.ascii.specs.Text.{bytes}
use Rattle.ascii.specs.Bytes.{all, head, is_digit}
use Rattle.ascii.specs.Names.{is_name, is_name_byte}
use Rattle.ascii.specs.Numbers.{decimal, two_bytes, latest}
use Rattle.ascii.proofs.Decimal.{decimal_short, seconds_latest}
use Rattle.ascii.proofs.Lists.{both}
use Rattle.message.specs.Error.{Fault, Denial, class, fault}
use Rattle.message.specs.Reply.{Held, valued, failed, DataReport, Reply, identification, describing, pong, active, inactive, reply, changed, done, counted, error, data_report, counts_text, fault_report, held_report, report_text, error_report, optionally, reply_line, update_word, update_line, checked, identity}
use Rattle.message.proofs.Said.{fault_short, class_short}
use Rattle.outbox.specs.Outbox.{Record, final, update, body, encode, encode_all}
use Rattle.outbox.specs.Theorems.{Word, Named, IsValue, WellFormed, WellFormedReply, AllWellFormed}
use Rattle.outbox.proofs.Records.{two_bytes_lem}
use Rattle.table.specs.Table.{Parameter}
use Rattle.table.specs.Layout.{begins}
use Rattle.table.specs.Search.{Placed}
use Rattle.plain.specs.Node.{Client, Value, is_active, report_of, updates_to, updates_of}
use Rattle.sound.specs.Theorems.{CountsHeld}
use Rattle.sound.proofs.Accepted.{GoodNames, GoodEdition}
use Rattle.sound.proofs.Room.{encode_append}

-- ## Texts

pub name_short : (xs : List ℕ) → is_name xs ≡ true → length xs ≤ 63
unfolding is_name
name_short xs e =
    let a = (both (leb 1 (length xs) && leb (length xs) 63 && not (is_digit (head xs))) (all is_name_byte xs) e).0 in
    let b = (both (leb 1 (length xs) && leb (length xs) 63) (not (is_digit (head xs))) a).0 in
    leb-true (length xs) 63 (both (leb 1 (length xs)) (leb (length xs) 63) b).1

-- a value of at most 256 bytes, or an error
abbrev pub Small : Held → Type 0
Small (valued v) = length v ≤ 256
Small (failed f) = Unit {0}

-- a report by good names, of what is so small, at a time within the limit
pub record Fine (r : DataReport) : Type 0 where
  pub names : GoodNames r.module_name r.accessible
  pub small : Small r.held
  pub in_time : r.time ≤ latest

data_short : (v : List ℕ) (t : ℕ) → t ≤ latest → length (data_report v t) ≤ length v + 23
unfolding data_report bytes
data_short v t h = simp length-append (omega (arith, seconds_latest t h))

fault_low : (f : Fault) (t : ℕ) → t ≤ latest → length (fault_report f t) ≤ 66
fault_low f t h = omega (arith, fault_short f t, seconds_latest t h)

held_low : (v : Held) (t : ℕ) → Small v → t ≤ latest → length (update_word v) + length (held_report v t) ≤ 286
unfolding update_word held_report bytes
held_low (valued v) t s h = omega (arith, data_short v t h)
held_low (failed f) t s h = omega (arith, fault_low f t h)

word_low : (v : Held) → 7 ≤ length (update_word v)
unfolding update_word bytes
word_low (valued v) = omega arith
word_low (failed f) = omega arith

report_short : (r : DataReport) → Fine r → length (update_word r.held) + length (report_text r) ≤ 414
unfolding report_text bytes
report_short r f =
    simp length-append
    (omega (
      arith,
      held_low r.held r.time f.small f.in_time,
      name_short r.module_name f.names.0,
      name_short r.accessible f.names.1,
    ))

pub update_short : (r : DataReport) → Fine r → length (update_line r) ≤ 414
unfolding update_line
update_short r f = simp length-append (report_short r f)

reply_short : (r : DataReport) → Fine r → length (report_text r) ≤ 407
reply_short r f = omega (arith, report_short r f, word_low r.held)

-- what an error reply tells, at a time within the limit
abbrev pub DeniedInTime : Denial → Type 0
DeniedInTime (class e) = Unit {0}
DeniedInTime (fault f t) = t ≤ latest

denial_short : (d : Denial) → DeniedInTime d → length (error_report d) ≤ 66
unfolding error_report
denial_short (class e) h = omega (arith, class_short e)
denial_short (fault f t) h = fault_low f t h

-- ## Replies

-- a reply that is well formed, and at most k bytes
abbrev pub ReplyWithin : Reply → ℕ → Type 0
ReplyWithin r k = WellFormedReply r × (length (reply_line r) ≤ k)

pub within_more : (r : Reply) (j k : ℕ) → j ≤ k → ReplyWithin r j → ReplyWithin r k
within_more r j k e h = (h.0, omega (arith, h.1))

-- the first edition's, or what a table gives
pub identification_within : (e : Option (List ℕ)) → GoodEdition e → ReplyWithin (identification e) 16384
unfolding reply_line identity begins bytes
identification_within None h = (tt, omega arith)
identification_within (Some x) h = (h.begun, h.short)

pub describing_within : (xs : List ℕ) → length xs ≤ 32000 → ReplyWithin (describing xs) 32013
unfolding reply_line bytes
describing_within xs h = (tt, omega arith)

pub pong_within : (xs : List ℕ) (t : ℕ) → Word xs → length xs ≤ 1024 → t ≤ latest → ReplyWithin (pong xs t) 1057
unfolding reply_line bytes
pong_within xs t e h i = (e, simp length-append (omega (arith, data_short (bytes "null") t i)))

optionally_short : (w : List ℕ) (m : Option (List ℕ)) → Named m → length (optionally w m) ≤ length w + 64
unfolding optionally bytes
optionally_short w None e = omega arith
optionally_short w (Some m) e = simp length-append (omega (arith, name_short m e))

pub active_within : (m : Option (List ℕ)) → Named m → ReplyWithin (active m) 70
unfolding reply_line bytes
active_within m e = (e, omega (arith, optionally_short (bytes "active") m e))

pub inactive_within : (m : Option (List ℕ)) → Named m → ReplyWithin (inactive m) 72
unfolding reply_line bytes
inactive_within m e = (e, omega (arith, optionally_short (bytes "inactive") m e))

pub reply_within : (r : DataReport) → Fine r → IsValue r.held → ReplyWithin (reply r) 415
unfolding reply_line bytes
reply_within r f v = ((f.names, v), omega (arith, reply_short r f))

pub changed_within : (r : DataReport) → Fine r → IsValue r.held → ReplyWithin (changed r) 415
unfolding reply_line bytes
changed_within r f v = ((f.names, v), omega (arith, reply_short r f))

pub done_within : (r : DataReport) → Fine r → IsValue r.held → ReplyWithin (done r) 415
unfolding reply_line bytes
done_within r f v = ((f.names, v), omega (arith, reply_short r f))

pub checked_within : (r : DataReport) → Fine r → IsValue r.held → ReplyWithin (checked r) 415
unfolding reply_line bytes
checked_within r f v = ((f.names, v), omega (arith, reply_short r f))

count_short : (n : ℕ) → n ≤ highest → length (decimal n) ≤ 10
count_short n h = decimal_short 9 n (omega arith)

counts_short : (x : Counts) (n : ℕ) → CountsHeld x → n ≤ highest → length (counts_text x n) ≤ 45
unfolding counts_text bytes
counts_short x n h i =
    simp length-append
    (omega (arith, count_short x.lines h.0, count_short x.errors h.1.0, count_short x.updates h.1.1, count_short n i))

pub counted_within : (x : Counts) (n t : ℕ) → CountsHeld x → n ≤ highest → t ≤ latest → ReplyWithin (counted x n t) 79
unfolding reply_line bytes
counted_within x n t h i j = (tt, simp length-append (omega (arith, data_short (counts_text x n) t j, counts_short x n h i)))

pub error_within : (a s : List ℕ) (d : Denial) → DeniedInTime d → Word a → Word s → length a ≤ 1024 → length s ≤ 1024 → ReplyWithin (error a s d) 2122
unfolding reply_line bytes
error_within a s d t p q h i = ((p, q), simp length-append (omega (arith, denial_short d t)))

-- ## Records

-- records that are well formed, and at most k bytes
pub record Written (rs : List Record) (k : ℕ) : Type 0 where
  pub formed : AllWellFormed rs
  pub short : length (encode_all rs) ≤ k

pub written_none : Written [] 0
unfolding encode_all
written_none = record { formed = tt; short = omega arith }

pub written_one : (r : Record) (k : ℕ) → WellFormed r → length (body r) + 5 ≤ k → Written (r ∷ []) k
unfolding encode_all encode two_bytes
written_one r k w h = record { formed = (w, tt); short = simp length-append (omega (arith, two_bytes_lem r)) }

formed_append : (rs ss : List Record) → AllWellFormed rs → AllWellFormed ss → AllWellFormed (rs ++ ss)
formed_append [] ss h k = k
formed_append (r ∷ rs) ss h k = (h.0, formed_append rs ss h.1 k)

pub written_append : (rs ss : List Record) (j k : ℕ) → Written rs j → Written ss k → Written (rs ++ ss) (j + k)
written_append rs ss j k h i =
    record { formed = formed_append rs ss h.formed i.formed; short = rw (encode_append rs ss, length-append) (omega (arith, h.short, i.short)) }

pub written_within : {rs : List Record} {j : ℕ} (k : ℕ) → j ≤ k → Written rs j → Written rs k
written_within k e h = record { formed = h.formed; short = omega (arith, h.short) }

-- a final reply
pub written_final : (c : ℕ) (r : Reply) (k : ℕ) → ReplyWithin r k → Written (final c r ∷ []) (k + 6)
unfolding body bytes
written_final c r k h = written_one (final c r) (k + 6) h.0 (simp length-append (omega (arith, h.1)))

-- ## Updates

-- one update or none, before others
written_update : (b : Bool) (c : ℕ) (r : DataReport) → Fine r → (rs : List Record) (j : ℕ) → Written rs (j * 420)
    → Written (cond b (update c r ∷ []) [] ++ rs) (suc j * 420)
unfolding body bytes
written_update false c r f rs j h = written_within (suc j * 420) (omega arith) h
written_update true c r f rs j h =
    let one = written_one (update c r) 420 f.names (simp length-append (omega (arith, update_short r f))) in
    written_within (suc j * 420) (omega arith) (written_append (update c r ∷ []) rs 420 (j * 420) one h)

pub written_to : (f : ℕ → Client) (i : ℕ) (r : DataReport) → Fine r → (cs : List ℕ)
    → Written (updates_to f i r cs) (length cs * 420)
unfolding updates_to
written_to f i r g [] = written_none
written_to f i r g (c ∷ cs) = written_update (is_active (f c) i) c r g (updates_to f i r cs) (length cs) (written_to f i r g cs)

pub written_of : (c : ℕ) (wanted : ℕ → Bool) (values : ℕ → Value) (k : ℕ) (ps : List (Placed Parameter))
    → ((j : ℕ) (p : Placed Parameter) → slice_get ps j ≡ Some p → Fine (report_of p (values (k + j))))
    → Written (updates_of c wanted values k ps) (length ps * 420)
unfolding updates_of
written_of c wanted values k [] h = written_none
written_of c wanted values k (p ∷ ps) h =
    let here : Fine (report_of p (values k)) = rw add-zero at (h 0 p refl) in
    written_update (wanted p.home) c (report_of p (values k)) here (updates_of c wanted values (suc k) ps) (length ps)
    (written_of c wanted values (suc k) ps λ j q e. subst (λ i. Fine (report_of q (values i))) (omega arith) (h (suc j) q e))
