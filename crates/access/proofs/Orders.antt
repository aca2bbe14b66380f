-- The order to carry out a command, and the reply after it: what is written, and that it has room. Assumes nothing.
use Rattle.std.specs.Prelude.{Option, Some, None}
use Prim.Native.Nat.{ℕ, ◌≤◌}
use native.Mathlib.Omega.{arith}
use mathlib.Core.Path.{◌≡◌}
use mathlib.Core.Bool.{Bool, true, false, not}
use mathlib.Core.List.{List, [], ◌∷◌, append-nil}
use lib.ListN.{length, take, drop, length-append}
use borrow.Author.Tests.{not-true, not-false}
use Rattle.ascii.specs.Text.{bytes}
use Rattle.ascii.specs.Numbers.{two_bytes}
use Rattle.ascii.specs.Clauses.Writer.{Puts}
use Rattle.datainfo.specs.Datainfo.{Datainfo}
use Rattle.datainfo.specs.Layout.{datainfo_in}
use Rattle.fit.specs.Fit.{is_fit}
use Rattle.form.specs.Clauses.Formed.{FitsAt, PutsForm}
use Rattle.form.proofs.Stored.{stored_short}
use Rattle.table.specs.Layout.{argument_at}
use Rattle.message.specs.Reply.{valued, done}
use Rattle.message.specs.Clauses.Said.{report_of}
use Rattle.outbox.specs.Outbox.{Record, final, order_command, mark, body, encode, encode_all}
use Rattle.outbox.specs.Clauses.Written.{RoomFor}
use Rattle.plain.specs.Answer.{argument_verdict, argument_form}
use Rattle.sound.proofs.Records.{Fine, Written, done_within, written_one, written_append, written_final}
use Rattle.sound.proofs.Room.{room_after, puts_after}
use Rattle.access.specs.Clauses.Argument.{Ordered, Reported, order_records, PutsOrder, IsOrdered}
use Rattle.access.proofs.Arguments.{none_declared, Declared, some_declared}
use Rattle.access.proofs.Taken.{taken_is, taken_short}

form_short : (a : Option Datainfo) (xs : List ℕ) → is_fit (argument_verdict a xs) ≡ true → length (argument_form a xs) ≤ 256
unfolding argument_form argument_verdict
form_short None xs e = omega arith
form_short (Some d) xs e = stored_short d xs e

-- ## The order

module _ (table : List ℕ) (info : ℕ) (out : List ℕ) (k : ℕ) (b : Bool) (xs : List ℕ) (o : Ordered table info out k b xs) (c : ℕ) where
  abbrev read : Option (Option Datainfo × List ℕ)
  read = argument_at b (drop info table)

  -- whatever the numbers
  pub order_room : (i j : ℕ) (bs : List ℕ) → length bs ≤ 256 → RoomFor out 0 (order_command i j bs)
  unfolding encode mark body bytes two_bytes
  order_room i j bs h = let r = o.room in record { fits = simp length-append (omega arith); short = omega arith }

  pub order_none : not b ≡ true → (after : List ℕ) (r : ℕ) → Puts out 0 (encode (order_command c k [])) after r → PutsOrder read c k xs out after r
  unfolding argument_form
  order_none e after r p = record { is = λ i. rw (none_declared b (drop info table) (not-true b e) i) p }

  -- an argument is declared
  module _ (e : not b ≡ false) where
    declared : {a : Option Datainfo} {x : List ℕ} → read ≡ Some (a, x) → Declared (drop info table) a x
    declared i = some_declared b (drop info table) (not-false b e) i

    pub argument_fits : FitsAt table info xs
    unfolding argument_verdict
    argument_fits =
        let l = o.argument in
        let h = declared l.reads.is in
        record {
          reads = record { within = l.reads.within; datainfo = h.datainfo; left = l.reads.left; is = h.reads };
          fits = rw h.is at l.fits;
        }

    -- its stored form is written to d, and then taken from there
    module _ (d after : List ℕ) (r : ℕ) (x : PutsForm (datainfo_in 4 (drop info table)) xs d 0 after r) (h : length d ≡ 256) where
      pub order_room_form : (i j : ℕ) → RoomFor out 0 (order_command i j (take r after))
      order_room_form i j = order_room i j (take r after) (taken_short table info xs argument_fits d after r x h)

      pub order_some : (last : List ℕ) (q : ℕ) → Puts out 0 (encode (order_command c k (take r after))) last q → PutsOrder read c k xs out last q
      unfolding argument_form
      order_some last q p = record { is = λ i. let z = declared i in rw z.is (rw (taken_is table info xs argument_fits d after r x h z.reads) at p) }

-- ## The order and the reply

module _ (table : List ℕ) (info : ℕ) (out : List ℕ) (k : ℕ) (b : Bool) (xs m a : List ℕ) (c t : ℕ) (o : Ordered table info out k b xs) (n : Reported m a t)
    (after : List ℕ) (told : ℕ) (x : PutsOrder (argument_at b (drop info table)) c k xs out after told) where
  abbrev command : Option Datainfo → Record
  command d = order_command c k (argument_form d xs)

  abbrev reply : Record
  reply = final c (done (report_of m a (valued (bytes "null")) t))

  -- the argument that is declared, or none
  abbrev argument : Option Datainfo
  argument = o.argument.reads.argument

  records_short : Written (command argument ∷ (reply ∷ [])) 683
  unfolding body bytes
  records_short =
      let fine : Fine (report_of m a (valued (bytes "null")) t) = record { names = (n.module_name_lem, n.name); small = omega arith; in_time = n.in_time } in
      let f = form_short argument xs o.argument.fits in
      written_append (command argument ∷ []) (reply ∷ []) 262 421 (written_one (command argument) 262 tt (omega arith)) (written_final c _ 415 (done_within _ fine tt))

  one : {d : Option Datainfo} {y : List ℕ} → argument_at b (drop info table) ≡ Some (d, y) → Puts out 0 (encode_all (command d ∷ [])) after told
  unfolding encode_all
  one i = rw append-nil (x.is i)

  pub report_room : RoomFor after told reply
  report_room =
      let r = o.room in
      room_after (command argument ∷ []) reply out after told (one o.argument.reads.is) (omega (arith, records_short.short)) (omega arith)

  pub order_all : (last : List ℕ) (q : ℕ) → Puts after told (encode reply) last q → IsOrdered (argument_at b (drop info table)) c k xs m a t out last q
  unfolding order_records
  order_all last q y = record { is = λ {d} i. puts_after (command d ∷ []) reply out after told (one i) last q y }
