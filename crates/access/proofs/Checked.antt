-- The ways out of a request to check a value. Assumes nothing.
use Rattle.std.specs.Prelude.{Result, Ok, Err}
use Prim.Native.Nat.{ℕ, ◌≤◌}
use native.Mathlib.Omega.{arith}
use mathlib.Core.Path.{◌≡◌, refl, ◌∙◌}
use mathlib.Core.List.{List, []}
use lib.ListN.{length, take, drop}
use Rattle.ascii.specs.Numbers.{latest}
use Rattle.ascii.specs.Clauses.Writer.{Puts}
use Rattle.datainfo.specs.Layout.{datainfo_in, datainfo_at}
use Rattle.fit.specs.Fit.{stored_form}
use Rattle.form.specs.Clauses.Formed.{FitsAt, PutsForm}
use Rattle.table.specs.declared.layout.ParameterAt.{ParameterAt}
use Rattle.table.specs.Layout.{table_of}
use Rattle.table.specs.Table.{Parameter}
use Rattle.table.specs.Search.{Placed}
use Rattle.search.specs.Clauses.Found.{ParameterFound}
use Rattle.message.specs.Error.{class}
use Rattle.message.specs.Reply.{valued, DataReport, checked}
use Rattle.message.specs.Clauses.Said.{class_of, report_of}
use Rattle.message.specs.declared.say.Class.{Class}
use Rattle.outbox.specs.Outbox.{final, encode}
use Rattle.outbox.specs.Clauses.Written.{RoomFor}
use Rattle.plain.specs.Node.{Node}
use Rattle.plain.specs.Answer as Plain
use Rattle.plain.specs.Answer.{denied, shows}
use Rattle.sound.proofs.Records.{Fine, checked_within, written_final}
use Rattle.sound.proofs.Room.{room_after, puts_none, puts_after}
use Rattle.state.specs.declared.State.{State}
use Rattle.state.specs.View.{view}
use Rattle.outcome.specs.Clauses.Ready.{Lent}
use Rattle.outcome.specs.Clauses.Outcome.{IsDenied, Sends, OfParameter}
use Rattle.outcome.specs.declared.Outcome.TheVariants.{Denied, Sent}
use Rattle.access.specs.Clauses.Argument.{Reported}
use Rattle.access.specs.Clauses.Told.{PutsChecked}
use Rattle.access.specs.Clauses.Whole.{checks_whole}
use Rattle.access.specs.Clauses.Judged.{JudgesChange}
use Rattle.access.proofs.Finding.{ParameterKnown, parameter_known, the_parameter}
use Rattle.access.proofs.Judgements.{judged_denied, judged_let_in, judged_fitting}
use Rattle.access.proofs.Taken.{taken_is, taken_short}

-- ## What is written

module _ (table : List ℕ) (info : ℕ) (out m a xs : List ℕ) (t : ℕ) (room : 32768 ≤ length out) (n : Reported m a t) (w : FitsAt table info xs)
    (d after : List ℕ) (r : ℕ) (x : PutsForm (datainfo_in 4 (drop info table)) xs d 0 after r) (h : length d ≡ 256) where
  abbrev told : DataReport
  told = report_of m a (valued (take r after)) t

  told_fine : Fine told
  told_fine = record { names = (n.module_name_lem, n.name); small = taken_short table info xs w d after r x h; in_time = n.in_time }

  -- whatever the client's number
  pub checked_room : (c : ℕ) → RoomFor out 0 (final c (checked told))
  checked_room c =
      let u = (written_final c (checked told) 415 (checked_within told told_fine tt)).short in
      room_after [] (final c (checked told)) out out 0 (puts_none out) (omega arith) room

  pub checked_put : (c : ℕ) (last : List ℕ) (q : ℕ) → Puts out 0 (encode (final c (checked told))) last q
      → PutsChecked (datainfo_in 4 (drop info table)) c m a xs t out last q
  checked_put c last q p = record { is = λ i. rw (taken_is table info xs w d after r x h i) at p }

-- ## The ways out

module _ (s out : List ℕ) (c t : ℕ) (l : Lent s out c) (m a xs : List ℕ) (k h : ℕ) (q : ParameterAt) (f : ParameterFound s m a k h q)
    (v : Result Unit Class) (j : JudgesChange (datainfo_at (drop q.info s)) q.readonly xs v) where
  p : ParameterKnown s m a k h q
  p = parameter_known s l.accepted m a k h q f

  abbrev check : Node → ℕ × Placed Parameter → Plain.Outcome
  check n x = checks_whole (table_of s) n c t xs x

  pub check_denied : (e : Class) → v ≡ Err e → (st : State) (values : List ℕ)
      → OfParameter s st values out c t (Denied e) values out m a (λ w n c t. checks_whole w n c t xs)
  check_denied e z st values =
      the_parameter p (λ x. IsDenied (table_of s) (view s st values) c t out out values values (check (view s st values) x) (denied (class (class_of e))))
      (record { is = judged_denied s m a xs k h q p v j _ e z; quiet = refl; area = refl })

  module _ (z : v ≡ Ok tt) where
    pub check_told : t ≤ latest → (32768 ≤ length out) × (Reported m a t × FitsAt s q.info xs)
    check_told i =
        (l.room, (record { module_name_lem = p.good_module; name = p.good_name; in_time = i }, judged_fitting s m a xs k h q p v j z))

    pub check_sent : (after : List ℕ) (written : ℕ) → PutsChecked (datainfo_at (drop q.info s)) c m a xs t out after written → (st : State) (values : List ℕ)
        → OfParameter s st values out c t (Sent written) values after m a (λ w n c t. checks_whole w n c t xs)
    unfolding shows
    check_sent after written y st values =
        the_parameter p (λ x. Sends (table_of s) (view s st values) c t out after values values (check (view s st values) x) written)
        (record {
          carries =
              record {
                records = [];
                reply = checked (report_of m a (valued (stored_form p.it.it.datainfo xs)) t);
                is = judged_let_in s m a xs k h q p v j (shows (table_of s) (view s st values) c t) z ∙ rw (p.module_named, p.named);
                puts = puts_after [] _ out out 0 (puts_none out) after written (y.is p.info);
              };
          unstored = refl;
        })
