-- A parameter's value is reported as it is shown, or why it can't be read. Assumes nothing.
use Prim.Native.Nat.{ℕ, ◌≤◌, ◌<◌}
use native.Mathlib.Omega.{arith}
use mathlib.Core.Path.{◌≡◌, refl, sym, ap, subst, ◌∙◌}
use mathlib.Core.Bool.{false}
use mathlib.Core.List.{List, []}
use lib.ListN.{length, get_or}
use Rattle.ascii.specs.Clauses.Writer.{Puts}
use Rattle.ascii.proofs.Lists.{neither}
use Rattle.form.proofs.Stored.{short_stored}
use Rattle.message.specs.Error.{fault_of, fault}
use Rattle.message.specs.Reply.{valued, held_as, DataReport, reply}
use Rattle.message.specs.Clauses.Said.{sensor_fault, held_by, fault_as, report_of}
use Rattle.message.specs.declared.say.Fault.{Fault}
use Rattle.message.specs.declared.say.Sensor.{Sensor}
use Rattle.message.specs.declared.say.Sensor.TheVariants.{Works, Fails}
use Rattle.outbox.specs.Outbox.{Record, final, encode}
use Rattle.outbox.specs.Clauses.Written.{RoomFor}
use Rattle.table.specs.Clauses.At.{Inside}
use Rattle.table.specs.declared.layout.ParameterAt.{ParameterAt}
use Rattle.table.specs.Layout.{table_of}
use Rattle.table.specs.Search.{parameters}
use Rattle.plain.specs.Node as Node
use Rattle.plain.specs.Answer.{denied, tells, reads}
use Rattle.sound.specs.Theorems.{ValueHeld}
use Rattle.sound.proofs.Records.{Fine, reply_within, written_final}
use Rattle.sound.proofs.Room.{room_after, puts_none, puts_after}
use Rattle.state.specs.declared.State.{State}
use Rattle.state.specs.View.{shown, shown_bytes, value_at, view}
use Rattle.state.specs.Fit.{settings_unfit, is_unfit}
use Rattle.state.proofs.Settled.{each_fit, fit_parts}
use Rattle.state.proofs.Stands.{value_held}
use Rattle.outcome.specs.Clauses.Ready.{Ready}
use Rattle.outcome.specs.Clauses.Outcome.{IsDenied, Sends, OfParameter}
use Rattle.outcome.specs.declared.Outcome.TheVariants.{Unreadable, Sent}
use Rattle.search.specs.Clauses.Found.{ParameterFound}
use Rattle.access.proofs.Finding.{ParameterKnown, parameter_known, the_parameter}

module _ (s : List ℕ) (st : State) (values out : List ℕ) (c : ℕ) (g : Ready s st values out c) (m a : List ℕ) (k h : ℕ) (q : ParameterAt) (f : ParameterFound s m a k h q) where
  abbrev p : ParameterKnown s m a k h q
  p = parameter_known s g.lent.accepted m a k h q f

  pub read_low : k < 64
  read_low = p.low

  fit : settings_unfit st.settings values 0 (parameters (table_of s)) ≡ false
  unfolding is_unfit
  fit = (neither (settings_unfit st.settings values 0 (parameters (table_of s))) _ g.fit).0

  pub read_lies : (Inside s q.initial) × ((k < 64) × ((get_or st.settings.length k 0 ≤ 256) × (16384 ≤ length values)))
  read_lies =
      (p.inside, (p.low, ((fit_parts st.settings values k p.it (each_fit st.settings values (parameters (table_of s)) fit k p.it p.there)).short, g.area)))

  abbrev since : ℕ
  since = get_or st.settings.time k 0

  -- what the parameter holds
  pub value_is : (view s st values).values k
      ≡ Node.holding (held_as (fault_of (get_or st.settings.error k 0)) (shown_bytes s st.settings values k q.initial)) since
  unfolding view value_at shown shown_bytes
  value_is = rw (p.there, p.initial)

  pub held_fits : ValueHeld p.it.it ((view s st values).values k)
  unfolding view
  held_fits = value_held s g.lent.accepted st values fit k p.it p.there

  -- by what the code has for whether it can be read
  module _ (r : Sensor) (hr : sensor_fault r ≡ fault_of (get_or st.settings.error k 0)) where
    pub holds : (view s st values).values k ≡ Node.holding (held_by r (shown_bytes s st.settings values k q.initial)) since
    holds = rw hr value_is

    pub read_fails : (e : Fault) → r ≡ Fails e → (t : ℕ) → OfParameter s st values out c t (Unreadable e since) values out m a reads
    unfolding reads tells
    read_fails e z t =
        the_parameter p (λ y. IsDenied (table_of s) (view s st values) c t out out values values (reads (table_of s) (view s st values) c t y) (denied (fault (fault_as e) since)))
        (record { is = rw (holds, z); quiet = refl; area = refl })

    -- and with what it has for the value
    module _ (w : r ≡ Works) (v : List ℕ) (hv : v ≡ shown_bytes s st.settings values k q.initial) where
      abbrev own : DataReport
      own = Node.report_of p.it (Node.showing v since)

      abbrev shows : Record
      shows = final c (reply (report_of m a (valued v) since))

      own_is : final c (reply own) ≡ shows
      own_is = rw (p.module_named, p.named)

      pub is_value : (view s st values).values k ≡ Node.showing v since
      is_value =
          holds ∙ ap (λ (x : Sensor). Node.holding (held_by x (shown_bytes s st.settings values k q.initial)) since) w
          ∙ ap (λ (x : List ℕ). Node.showing x since) (sym hv)

      fine_own : Fine own
      fine_own =
          record {
            names = rw (p.module_named, p.named) (p.good_module, p.good_name);
            small = short_stored p.it.it.datainfo v (subst (ValueHeld p.it.it) is_value held_fits).0;
            in_time = (subst (ValueHeld p.it.it) is_value held_fits).1;
          }

      pub read_room : RoomFor out 0 shows
      read_room =
          let l = g.lent.room in
          let u = (written_final c (reply own) 415 (reply_within own fine_own tt)).short in
          rw own_is at (room_after [] (final c (reply own)) out out 0 (puts_none out) (omega arith) l)

      pub read_sent : (after : List ℕ) (written : ℕ) → Puts out 0 (encode shows) after written
          → (t : ℕ) → OfParameter s st values out c t (Sent written) values after m a reads
      unfolding reads tells
      read_sent after written x t =
          the_parameter p (λ y. Sends (table_of s) (view s st values) c t out after values values (reads (table_of s) (view s st values) c t y) written)
          (record {
            carries =
                record {
                  records = [];
                  reply = reply own;
                  is = rw is_value;
                  puts = puts_after [] (final c (reply own)) out out 0 (puts_none out) after written (rw own_is x);
                };
            unstored = refl;
          })
