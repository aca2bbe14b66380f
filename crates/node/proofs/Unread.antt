-- A driver's report that a parameter can't be read, one law for each way through the code. Assumes nothing.
use Rattle.std.specs.Prelude.{Option, Some, None, slice_get}
use Prim.Native.Nat.{ℕ, ◌≤◌, ◌<◌}
use native.Mathlib.Omega.{arith}
use borrow.Author.Tests.{ltb-false}
use mathlib.Core.Bool.{Bool, not}
use mathlib.Core.List.{List}
use mathlib.Core.Logic.{◌≢◌}
use mathlib.Core.Path.{◌≡◌, refl, sym, ap, ◌∙◌}
use lib.Dec.{ltb}
use lib.ListN.{length}
use Rattle.ascii.specs.Bytes.{is_some}
use Rattle.table.specs.Layout.{table_of}
use Rattle.table.specs.Search.{parameters}
use Rattle.table.specs.Clauses.At.{parameter_of}
use Rattle.table.specs.declared.layout.ParameterAt.{ParameterAt}
use Rattle.message.specs.Error.{fault_of}
use Rattle.message.specs.Clauses.Said.{fault_as, sensor_fault}
use Rattle.message.specs.declared.say.Fault.{Fault}
use Rattle.message.specs.declared.say.Sensor.{Sensor}
use Rattle.message.specs.declared.say.Sensor.TheVariants.{Works, Fails}
use Rattle.report.specs.Judge.{fault, table_number}
use Rattle.search.specs.declared.cursor.Cursor.{Cursor}
use Rattle.search.specs.Clauses.Left.{placed}
use Rattle.search.specs.Clauses.Found.{ParameterNumbered, NumberedParameter}
use Rattle.plain.specs.Calls.{Unreadable, Call, with_outbox, beside, sends, is_small, own_faults, event_steps}
use Rattle.state.specs.declared.Bare.{Bare}
use Rattle.state.specs.declared.State.{State}
use Rattle.state.specs.Clauses.Bare.{lined, bare_of}
use Rattle.promise.specs.declared.BareDone.{BareDone}
use Rattle.promise.specs.declared.Done.{Done}
use Rattle.promise.specs.Clauses.Answer.{done_by}
use Rattle.promise.specs.Clauses.Lent.{lent_number}
use Rattle.promise.specs.Promise.{Kept}
use Rattle.promise.proofs.Numbers.{good, number_is_lem}
use Rattle.promise.proofs.Answers.{accepts}
use Rattle.accepted.specs.Clauses.Fitting.{Tellable, Standing, Taken}
use Rattle.node.proofs.Refused.{Quiet, Numbered, refused_lent, refused_first, refused_second, not_refused}
use Rattle.rack.proofs.Readings.{parameter_at_lem, none_past, none_found}

module _ (table : List ℕ) (s : State) (values outbox index : List ℕ) (k t x : ℕ) where
  abbrev report : Call
  report = beside index (with_outbox (Unreadable k x t) (length values) (length outbox))

  abbrev small : Bool
  small = ltb (length outbox) 32768

  abbrev unknown : Bool
  unknown = not (is_some (slice_get (parameters (table_of table)) k))

  abbrev no_class : Bool
  no_class = not (is_some (fault_of x))

  numbered : Numbered table s values outbox report (lent_number table values small index s t) (fault 14 unknown) (fault 16 no_class)
  unfolding sends is_small own_faults
  numbered = record { is = number_is_lem table s values (Unreadable k x t) (length outbox) index t _ refl }

  abbrev Refused : Done → Type 0
  Refused r = Kept table report s values outbox r values outbox

  module _ (n : ℕ) (lent : n ≡ lent_number table values small index s t) where
    pub unread_lent : {r : Done} → n ≢ 0 → Quiet r n s → Refused r
    unread_lent z q = refused_lent table s values outbox report numbered lent z q

    module _ (ok : n ≡ 0) where
      none_lent : lent_number table values small index s t ≡ 0
      none_lent = sym lent ∙ ok

      taken_table : table_number table ≡ 0
      taken_table = (good table s values small index t none_lent).accepted

      no_parameter : {r : Done} → slice_get (parameters (table_of table)) k ≡ None → Quiet r 14 s → Refused r
      no_parameter e q = refused_first table s values outbox report numbered lent ok {j = 13} (rw e refl) q

      -- number 14, "no such parameter number"
      pub unread_past : {r : Done} → 63 < k → Quiet r 14 s → Refused r
      unread_past h q = no_parameter (none_past table taken_table k h) q

      module _ (p : Option (ParameterAt × Cursor)) (f : NumberedParameter table k p) where
        pub unread_none : {r : Done} → p ≡ None → Quiet r 14 s → Refused r
        unread_none e q = no_parameter (none_found table taken_table k p f e) q

        module _ (at : ParameterAt) (c : Cursor) (e : p ≡ Some (at, c)) where
          found : ParameterNumbered table k at c
          found = parameter_at_lem table k p f at c e

          there : slice_get (parameters (table_of table)) k ≡ Some (placed table c (parameter_of table at found.held.datainfo))
          there = found.is

          module _ (o : Sensor) (so : sensor_fault o ≡ fault_of x) where
            -- number 16, "unknown class"
            pub unread_unknown : {r : Done} → o ≡ Works → Quiet r 16 s → Refused r
            unread_unknown z q =
                refused_second table s values outbox report numbered lent ok {j = 15} (rw there refl) (rw (← so, z) refl) q

            module _ (i : Fault) (z : o ≡ Fails i) where
              known : fault_of x ≡ Some (fault_as i)
              known = sym so ∙ ap sensor_fault z

              pub unread_tells : k ≤ 63 → Tellable table outbox k t at c
              unread_tells h =
                  let y = good table s values small index t none_lent in
                  let room = ltb-false (length outbox) 32768 y.outbox in
                  record { accepted = y.accepted; in_time = y.time; room = omega arith; low = omega arith; found = found }

              -- no number is given. The state is handed on without its lines
              pub unread_taken : {b : Bare} → b ≡ bare_of s → {d : BareDone} {outbox' : List ℕ}
                  → ((lines own : List ℕ) (class : ℕ) → Standing table (lined b lines) own → fault_of class ≡ Some (fault_as i)
                  → Taken table (lined b lines) own outbox (Unreadable k class t) (done_by d lines) own outbox')
                  → {r : Done} → r ≡ done_by d s.clients.lines
                  → Kept table report s values outbox r values outbox'
              unfolding event_steps
              unread_taken is {d} {outbox'} h q =
                  let y = good table s values small index t none_lent in
                  let l = (rw is at h) s.clients.lines values x (record { area = y.area; fit = y.fit }) known in
                  rw q
                  (accepts table s values report outbox (done_by d s.clients.lines) values outbox'
                  (not_refused table s values outbox report numbered lent ok (rw there refl) (rw known refl)) (omega (arith, l.short))
                  (record { leaves = l.leaves; steps = l.steps }))
