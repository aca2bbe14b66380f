-- Laws of requests that are carried out: replies of one record, data that is missing, and a client's active modules. Assumes nothing.
use Rattle.std.specs.Prelude.{Option, Some, None}
use Prim.Native.Nat.{ℕ, ◌^◌, ◌≤◌, ◌<◌}
use native.Mathlib.Omega.{arith}
use mathlib.Core.Path.{◌≡◌, refl, sym, ap₂, ◌∙◌, subst}
use mathlib.Core.Bool.{Bool, true, false, cond}
use mathlib.Core.List.{List, []}
use lib.ListN.{length, get_or, length-append, length-take}
use Rattle.ascii.specs.Numbers.{two_bytes, latest}
use Rattle.ascii.specs.Text.{bytes}
use Rattle.ascii.specs.Bytes.{all, count, is_space}
use Rattle.counter.specs.declared.Counts.{Counts}
use Rattle.ascii.specs.Clauses.Writer.{Puts}
use Rattle.ascii.proofs.Decimal.{seconds_low, seconds_latest}
use Rattle.message.specs.Error.{Class, Fault, Denial, class, fault}
use Rattle.message.specs.Reply.{Reply, identification, pong, counted, error, error_report, reply_line, identity}
use Rattle.message.specs.Request as R
use Rattle.message.specs.Request.{or_null}
use Rattle.message.specs.Clauses.Parsed.{part, Within}
use Rattle.message.specs.declared.line.Part.{Part}
use Rattle.message.proofs.Said.{data_length, pong_length, error_length, class_short, fault_short}
use Rattle.table.specs.Table.{Table}
use Rattle.table.specs.Layout.{table_of}
use Rattle.table.specs.Clauses.At.{bytes_of, Inside, EditionIs}
use Rattle.table.specs.declared.layout.Part as TablePart
use Rattle.report.specs.Judge.{table_number}
use Rattle.sound.proofs.Accepted.{GoodEdition, accepted}
use Rattle.outbox.specs.Outbox.{final, mark, client, body, encode}
use Rattle.outbox.specs.Clauses.Written.{RoomFor}
use Rattle.plain.specs.Node.{Node, below}
use Rattle.plain.specs.Answer as Plain
use Rattle.plain.specs.Answer.{carried, outcome}
use Rattle.sound.specs.Theorems.{CountsHeld}
use Rattle.sound.proofs.Room.{puts_after, puts_none}
use Rattle.sound.proofs.Records.{counted_within}
use Rattle.sound.proofs.Accepted.{accepted}
use Rattle.sound.proofs.Steps.{count_low}
use Rattle.state.specs.declared.State.{State}
use Rattle.state.specs.View.{bit, counts_at, view}
use Rattle.state.specs.Fit.{past_last, is_unfit, settings_unfit}
use Rattle.ascii.proofs.Lists.{neither}
use Rattle.state.proofs.Kept.{each_fit}
use Rattle.state.proofs.Cells.{fit_at}
use Rattle.state.proofs.Ones.{active_ones}
use Rattle.outcome.specs.Clauses.Outcome.{Sends, Comes, ComesAtAny}
use Rattle.outcome.specs.Clauses.Ready.{Ready}
use Rattle.outcome.specs.declared.Outcome.TheVariants.{Sent}

-- ## Where the text of an edition lies

module _ (s : List ℕ) (r : Option TablePart.Part) (h : EditionIs s r) (p : TablePart.Part) (z : r ≡ Some p) where
  given_inside : Inside s p
  given_inside = (subst (EditionIs s) z h).inside

  pub given_order : p.from ≤ p.to
  given_order = given_inside.order

  pub given_within : p.to ≤ length s
  given_within = given_inside.within

-- ## Room for one reply

module _ (d : List ℕ) (c : ℕ) (room : 32768 ≤ length d) where
  final_room : (r : Reply) → length (reply_line r) ≤ 32000 → RoomFor d 0 (final c r)
  unfolding encode mark client body two_bytes bytes
  final_room r h = record { fits = simp length-append (omega arith); short = simp length-append (omega arith) }

  pub identification_room : RoomFor d 0 (final c (identification None))
  unfolding reply_line identity bytes
  identification_room = final_room (identification None) (omega arith)

  pub edition_room : (s : List ℕ) → table_number s ≡ 0 → (r : Option TablePart.Part) → EditionIs s r → (p : TablePart.Part) → r ≡ Some p
      → RoomFor d 0 (final c (identification (Some (bytes_of s p))))
  unfolding reply_line identity
  edition_room s e r h p z =
      let x = (subst GoodEdition (subst (EditionIs s) z h).is (accepted s e).edition).short in
      final_room (identification (Some (bytes_of s p))) (omega arith)

  pub pong_room : (t : ℕ) → t ≤ latest → (token : List ℕ) → length token ≤ 1024 → RoomFor d 0 (final c (pong token t))
  unfolding bytes
  pong_room t h token k = final_room (pong token t) (omega (arith, pong_length token t, data_length (bytes "null") t, seconds_latest t h))

  pub counted_room : (k : ℕ) (xs : List Counts) (mask : ℕ) {x : Counts} {m t : ℕ} → x ≡ counts_at xs k → m ≡ count (bit mask) (below 16) → t ≤ latest
      → RoomFor d 0 (final c (counted x m t))
  unfolding counts_at
  counted_room k xs mask {x} {m} {t} e f h =
      let held : CountsHeld x = rw e (omega arith, (omega arith, omega arith)) in
      final_room (counted x m t) (omega (arith, (counted_within x m t held (omega (arith, f, count_low (bit mask) 16)) h).1))

  denial_room : (a s : List ℕ) (e : Denial) → length (error_report e) ≤ 100 → length a ≤ 1024 → length s ≤ 1024 → RoomFor d 0 (final c (error a s e))
  denial_room a s e l h k = final_room (error a s e) (omega (arith, error_length a s e))

  pub error_room : (a s : List ℕ) (e : Class) → length a ≤ 1024 → length s ≤ 1024 → RoomFor d 0 (final c (error a s (class e)))
  unfolding error_report
  error_room a s e h k = denial_room a s (class e) (omega (arith, class_short e)) h k

  pub fault_room : (a s : List ℕ) (f : Fault) (t : ℕ) → t < 2 ^ 64 → length a ≤ 1024 → length s ≤ 1024 → RoomFor d 0 (final c (error a s (fault f t)))
  unfolding error_report
  fault_room a s f t l h k = denial_room a s (fault f t) (omega (arith, fault_short f t, seconds_low t l)) h k

-- a part of a line is no longer than the line
pub part_short : (xs : List ℕ) (p : Part) → Within xs p → length xs ≤ 1024 → length (part xs p) ≤ 1024
part_short xs p w h = let i = w.within in rw length-take (omega arith)

-- nor is the data that it stands for
pub data_short : (xs : List ℕ) → length xs ≤ 1024 → length (or_null xs) ≤ 1024
unfolding or_null bytes
data_short xs h = go (all is_space xs)
  where
    go : (b : Bool) → length (cond b (bytes "null") xs) ≤ 1024
    go true = omega arith
    go false = h

-- ## Replies of one record

module _ {before after : List ℕ} {c written : ℕ} where
  pub sends : (w : Table) (n : Node) (t : ℕ) (values : List ℕ) (o : Plain.Outcome) (r : Reply) → o ≡ carried n [] [] r
      → Puts before 0 (encode (final c r)) after written → Sends w n c t before after values values o written
  sends w n t values o r e x =
      record {
        carries = record {
          records = [];
          reply = r;
          is = e;
          puts = puts_after [] (final c r) before before 0 (puts_none before) after written x;
        };
        unstored = refl;
      }

  -- by the edition that the code finds in the table
  module _ (table : List ℕ) (r : Option TablePart.Part) (h : EditionIs table r) where
    identified : (e : Option (List ℕ)) → (table_of table).edition ≡ e → Puts before 0 (encode (final c (identification e))) after written
        → (t : ℕ) → ComesAtAny table before c t (Sent written) after R.identify
    unfolding outcome
    identified e i x t n values = sends (table_of table) n t values _ (identification e) (rw i refl) x

    pub identified_first : r ≡ None → Puts before 0 (encode (final c (identification None))) after written → (t : ℕ)
        → ComesAtAny table before c t (Sent written) after R.identify
    identified_first z x = identified None (subst (EditionIs table) z h) x

    pub identified_given : (p : TablePart.Part) → r ≡ Some p
        → Puts before 0 (encode (final c (identification (Some (bytes_of table p))))) after written → (t : ℕ)
        → ComesAtAny table before c t (Sent written) after R.identify
    identified_given p z x = identified (Some (bytes_of table p)) (subst (EditionIs table) z h).is x

  pub ponged : (token : List ℕ) (t : ℕ) → Puts before 0 (encode (final c (pong token t))) after written → (table : List ℕ)
      → ComesAtAny table before c t (Sent written) after (R.ping token)
  unfolding outcome
  ponged token t x table n values = sends (table_of table) n t values _ (pong token t) refl x

-- ## The active modules of a client of a fit state

module _ (table : List ℕ) (s : State) (values before : List ℕ) (c : ℕ) (given : Ready table s values before c) where
  pub mask_low : past_last (get_or s.clients.active c 0) (length (table_of table).modules) ≡ false
  unfolding is_unfit
  mask_low =
      let m = length (table_of table).modules in
      let fit = (neither (settings_unfit s.settings values 0 _) _ given.fit).1 in
      (fit_at m s.clients c (each_fit m s.clients fit c given.lent.low)).within

-- ## Counts, of a fit state of which client c is open

pub counted_told : {s : State} {before after : List ℕ} {c t written : ℕ} {x : Counts} {m : ℕ} → x ≡ counts_at s.counts c
    → m ≡ count (bit (get_or s.clients.active c 0)) (below 16) → Puts before 0 (encode (final c (counted x m t))) after written
    → (table values : List ℕ) → Ready table s values before c → Comes table s values before c t (Sent written) values after R.count
unfolding outcome view
counted_told {s} {before} {after} {c} {t} {written} {x} {m} e f p table values g =
    let w = table_of table in
    let active = active_ones w s.clients c g.is_open (accepted table g.lent.accepted).few_modules (mask_low table s values before c g) in
    sends w (view table s values) t values _ (counted x m t)
    (ap₂ (λ (y : Counts) (k : ℕ). carried (view table s values) [] [] (counted y k t)) (sym e) (sym (f ∙ active))) p

-- ## Data

pub no_data : (xs : List ℕ) (b : Bool) → b ≡ all is_space xs → b ≡ true → bytes "null" ≡ or_null xs
unfolding or_null
no_data xs b e h = rw (sym e ∙ h)

pub some_data : (xs : List ℕ) (b : Bool) → b ≡ all is_space xs → b ≡ false → xs ≡ or_null xs
unfolding or_null
some_data xs b e h = rw (sym e ∙ h)
