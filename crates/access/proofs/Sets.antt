-- A parameter is set: what is written and where, and that it has room. Assumes nothing.
use Rattle.std.specs.Prelude.{Option, Some, None}
use Prim.Native.Nat.{ℕ, ◌+◌, ◌*◌, ◌-◌, ◌≤◌}
use native.Mathlib.Omega.{arith}
use mathlib.Core.Path.{◌≡◌, refl, ap, ◌∙◌}
use mathlib.Core.Bool.{true}
use mathlib.Core.List.{List, [], ◌∷◌, ◌++◌}
use lib.ListN.{length, take, drop}
use Rattle.ascii.specs.Text.{bytes}
use Rattle.ascii.specs.Bytes.{all, head, is_in, is_letter}
use Rattle.ascii.specs.Names.{is_name, is_name_byte}
use Rattle.ascii.specs.Clauses.Writer.{Puts}
use Rattle.ascii.proofs.Puts.{puts_length, puts_both}
use Rattle.datainfo.specs.Datainfo.{Datainfo}
use Rattle.datainfo.specs.Layout.{datainfo_in}
use Rattle.fit.specs.Fit.{stored_form}
use Rattle.form.specs.Clauses.Formed.{PutsForm}
use Rattle.form.proofs.Stored.{stored_short}
use Rattle.message.specs.Reply.{valued, DataReport, changed}
use Rattle.message.specs.Clauses.Said.{report_of}
use Rattle.outbox.specs.Outbox.{Record, final, order_change, body, encode, encode_all}
use Rattle.outbox.specs.Clauses.Written.{RoomFor}
use Rattle.plain.specs.Node.{client_numbers, updates_to}
use Rattle.plain.specs.Answer.{busy}
use Rattle.sound.proofs.Records.{Fine, Written, name_short, changed_within, written_none, written_one, written_append, written_within, written_final, written_to}
use Rattle.sound.proofs.Room.{encode_append, room_after, puts_after, puts_none}
use Rattle.state.specs.declared.Clients.{Clients}
use Rattle.state.specs.View.{client_at, with_stored}
use Rattle.state.proofs.Forms.{stands}
use Rattle.outcome.specs.declared.Outcome.TheVariants.{Stored}
use Rattle.access.specs.Clauses.Busy.{FindsStatus, with_status, status_updates}
use Rattle.access.specs.Clauses.Set.{set_records, Settable, Accepts, Staged, IsSet, IsSetBy}
use Rattle.access.proofs.Statuses.{status_length}

-- ## The order, the updates and the reply, with a value of at most 256 bytes, after a status

-- names and values are no longer than updates may have them
pub first_words : (m : List ℕ) → is_name m ≡ true → (z : Option (ℕ × ℕ)) (b : List ℕ) → Staged z b → length m + 6 + length b ≤ 1024
first_words m e z b y = let j = y.short in omega (arith, name_short m e)

pub update_words : (m a v : List ℕ) → is_name m ≡ true → is_name a ≡ true → length v ≤ 256 → length m + length a + length v ≤ 1024
update_words m a v e i n = omega (arith, name_short m e, name_short a i)

-- whatever the numbers
module _ (v : List ℕ) (n : length v ≤ 256) (i j : ℕ) where
  order_short : Written (order_change i j v ∷ []) 262
  unfolding body
  order_short = written_one (order_change i j v) 262 tt (omega arith)

  pub order_room : (out : List ℕ) → 32768 ≤ length out → RoomFor out 0 (order_change i j v)
  order_room out r =
      let w = order_short.short in
      room_after [] (order_change i j v) out out 0 (puts_none out) (omega arith) (omega arith)

module _ (out : List ℕ) (k h : ℕ) (m a : List ℕ) (t : ℕ) (g : Settable out k h m a t) (s : Clients) (z : Option (ℕ × ℕ)) (b : List ℕ) (y : Staged z b) (c : ℕ)
    (v : List ℕ) (n : length v ≤ 256) where
  abbrev report : DataReport
  report = report_of m a (valued v) t

  abbrev order : Record
  order = order_change c k v

  abbrev first : List Record
  first = status_updates s z m b t

  abbrev updates : List Record
  updates = updates_to (client_at s) h report client_numbers

  abbrev reply : Record
  reply = final c (changed report)

  fine_report : Fine report
  fine_report = record { names = (g.module_name_lem, g.name); small = n; in_time = g.in_time }

  first_short : Written first 3360
  unfolding bytes is_name is_name_byte is_letter is_in head all
  first_short = go z
    where
      go : (z : Option (ℕ × ℕ)) → Written (status_updates s z m b t) 3360
      go None = written_within 3360 (omega arith) written_none
      go (Some (i, j)) =
          written_to (client_at s) j (report_of m (bytes "status") (valued b) t)
          (record { names = (g.module_name_lem, refl); small = y.short; in_time = g.in_time }) client_numbers

  updates_short : Written updates 3360
  updates_short = written_to (client_at s) h report fine_report client_numbers

  all_short : Written ((order ∷ (first ++ updates)) ++ (reply ∷ [])) 7403
  all_short =
      written_append (order ∷ (first ++ updates)) (reply ∷ []) 6982 421
      (written_append (order ∷ []) (first ++ updates) 262 6720 (order_short v n c k) (written_append first updates 3360 3360 first_short updates_short))
      (written_final c (changed report) 415 (changed_within report fine_report tt))

  module _ (e : List ℕ) (p : ℕ) (x : Puts out 0 (encode order) e p) where
    ordered : Puts out 0 (encode_all (order ∷ [])) e p
    ordered = puts_after [] order out out 0 (puts_none out) e p x

    pub first_room : p + length (encode_all first) ≤ length e
    first_room =
        let r = g.room in
        let l = puts_length ordered in
        let i = ordered.ends in
        let w = (order_short v n c k).short in
        let u = first_short.short in
        omega arith

    module _ (e1 : List ℕ) (p1 : ℕ) (x1 : Puts e p (encode_all first) e1 p1) where
      started : Puts out 0 (encode_all (order ∷ first)) e1 p1
      unfolding encode_all
      started = puts_both x x1

      pub updates_room : p1 + length (encode_all updates) ≤ length e1
      updates_room =
          let r = g.room in
          let l = puts_length started in
          let i = started.ends in
          let w = (written_append (order ∷ []) first 262 3360 (order_short v n c k) first_short).short in
          let u = updates_short.short in
          omega arith

      module _ (f : List ℕ) (q : ℕ) (x2 : Puts e1 p1 (encode_all updates) f q) where
        told : Puts out 0 (encode_all (order ∷ (first ++ updates))) f q
        told = rw (encode_append (order ∷ first) updates) (puts_both started x2)

        -- at the end of the updates or before it
        pub reply_room : (i : ℕ) → i ≤ q → RoomFor f i reply
        reply_room i l =
            let r = g.room in
            let w = all_short.short in
            let at = room_after (order ∷ (first ++ updates)) reply out f q told (omega arith) (omega arith) in
            let room = at.fits in
            record { fits = omega arith; short = at.short }

        pub set_put : (d : List ℕ) (i : ℕ) → Puts f q (encode reply) d i → Puts out 0 (encode_all (set_records s z b c k h m a v t)) d i
        unfolding set_records
        set_put d i x3 = puts_after (order ∷ (first ++ updates)) reply out f q told d i x3

-- ## The stored form

module _ (out : List ℕ) (k h : ℕ) (m a : List ℕ) (t : ℕ) (g : Settable out k h m a t) (table : List ℕ) (info : ℕ) (start xs : List ℕ)
    (w : Accepts table info start xs) (z : Option (ℕ × ℕ)) (i : FindsStatus table m a z) (values : List ℕ) (j : values ≡ with_status start z busy) where
  abbrev read : Option (Datainfo × List ℕ)
  read = datainfo_in 4 (drop info table)

  pub set_staged : Staged z busy
  unfolding busy bytes
  set_staged = record { low = i.low; short = omega arith }

  kept_room : length values ≡ length start
  kept_room = ap length j ∙ status_length start z busy

  pub set_room : 256 * k + 256 ≤ length values
  set_room = let low = g.low in let area = w.area in omega (arith, kept_room)

  module _ (after : List ℕ) (r : ℕ) (x : PutsForm read xs values (256 * k) after r) where
    pub set_within : r ≤ length after
    set_within = let l = puts_length (x.is w.fitting.reads.is) in let s = x.short in let y = set_room in omega arith

    -- by the datainfo that is read
    module _ {d : Datainfo} {y : List ℕ} (e : read ≡ Some (d, y)) where
      value_is : take (r - 256 * k) (drop (256 * k) after) ≡ stored_form d xs
      value_is = let p = x.is e in stands p (let l = puts_length p in let z = set_within in omega arith)

    pub value_settable : Settable out k h m a t × (Staged z busy × (length (take (r - 256 * k) (drop (256 * k) after)) ≤ 256))
    value_settable = (g, (set_staged, rw (value_is w.fitting.reads.is) (stored_short w.fitting.reads.datainfo xs w.fitting.fits)))

    pub set_is : (s : Clients) (c : ℕ) (last : List ℕ) (written : ℕ)
        → Puts out 0 (encode_all (set_records s z busy c k h m a (take (r - 256 * k) (drop (256 * k) after)) t)) last written
        → IsSetBy table read s c k h m a xs t start out (Stored z k (r - 256 * k) written) after last
    unfolding with_stored
    set_is s c last written p = record { is = λ e. by e }
      where
        by : {d : Datainfo} {y : List ℕ} → read ≡ Some (d, y) → IsSet table d s c k h m a xs t start out (Stored z k (r - 256 * k) written) after last
        by {d} e =
            let f = (x.is e).ends in
            let size : r - 256 * k ≡ length (stored_form d xs) = omega arith in
            record {
              first = z;
              finds = i;
              written = written;
              is = ap (λ (n : ℕ). Stored z k n written) size;
              area = (x.is e).is ∙ ap (λ (l : List ℕ). with_stored l k (stored_form d xs)) j;
              puts = rw (value_is e) at p;
            }
