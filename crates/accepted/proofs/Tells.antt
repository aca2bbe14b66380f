-- What a driver tells of a parameter is taken in: what is held and sent, and that it has room. Assumes nothing.
use Rattle.std.specs.Prelude.{Some, slice_get}
use Prim.Native.Nat.{ℕ, ◌+◌, ◌-◌, ◌≤◌, ◌<◌}
use native.Mathlib.Nat.{zero-add}
use native.Mathlib.Omega.{arith}
use mathlib.Core.Bool.{false}
use mathlib.Core.List.{List, [], ◌∷◌}
use mathlib.Core.Path.{◌≡◌, refl, sym, ap, subst, ◌∙◌}
use lib.ListN.{length}
use Rattle.ascii.specs.Bytes.{any}
use Rattle.ascii.specs.Clauses.Writer.{Puts}
use Rattle.table.specs.Table.{Parameter, Table}
use Rattle.table.specs.Layout.{table_of}
use Rattle.table.specs.Search.{Placed, parameters}
use Rattle.table.specs.Clauses.At.{bytes_of, parameter_of}
use Rattle.table.specs.declared.layout.ParameterAt.{ParameterAt}
use Rattle.table.proofs.Search.{parameter_home}
use Rattle.message.specs.Error.{fault_number, fault_of}
use Rattle.message.specs.Reply.{Held, failed, DataReport}
use Rattle.message.specs.Clauses.Said.{fault_as, report_of}
use Rattle.message.specs.declared.say.Fault.{Fault}
use Rattle.outbox.specs.Outbox.{Record, encode_all}
use Rattle.outbox.specs.Clauses.Tallied.{Holds}
use Rattle.outbox.proofs.Tallied.{puts_holds}
use Rattle.search.specs.declared.cursor.Cursor.{Cursor}
use Rattle.search.specs.Clauses.Left.{placed}
use Rattle.plain.specs.Node.{Node, Setting, with_settings, counting, client_numbers, updates_to}
use Rattle.plain.proofs.Counts.{no_updates}
use Rattle.plain.specs.Calls.{Event, Unreadable, Effect, driver_effect, unreadable_effect, effect}
use Rattle.sound.specs.Theorems.{HeldFits}
use Rattle.sound.proofs.Lists.{each_at}
use Rattle.sound.proofs.Accepted.{GoodParameter, accepted}
use Rattle.sound.proofs.Records.{Small, Fine, name_short, written_to}
use Rattle.state.specs.declared.Bare.{Bare}
use Rattle.state.specs.declared.Brief.{Brief}
use Rattle.state.specs.declared.Clients.{Clients}
use Rattle.state.specs.declared.Settings.{Settings}
use Rattle.state.specs.declared.State.{State}
use Rattle.state.specs.View.{client_at, view, with_held, with_setting, with_error, area_with, settings_with, outbox_after, written, next_settings}
use Rattle.state.specs.Fit.{client_unfit, settings_unfit, is_unfit}
use Rattle.state.specs.Places.{places_after}
use Rattle.state.specs.Clauses.Bare.{with_lines, lined, brief_of, bare_of}
use Rattle.state.specs.Clauses.Counted.{SentCounted}
use Rattle.state.proofs.Counted.{sent_node, sent_fit, sent_settings, sent_clients}
use Rattle.state.proofs.Settled.{Sized}
use Rattle.state.proofs.Sets.{AllSet, all_set}
use Rattle.promise.specs.Clauses.Answer.{done_with}
use Rattle.promise.specs.Clauses.Leaves.{Leaves}
use Rattle.promise.proofs.Clients.{fit_parts, wholly}
use Rattle.accepted.specs.Clauses.Fitting.{reading_room, Tellable, Standing, Taken}
use Rattle.accepted.proofs.Lines.{updates_lined}

module _ (table outbox : List ℕ) (k t : ℕ) (q : ParameterAt) (e : Cursor) (g : Tellable table outbox k t q e) where
  abbrev w : Table
  w = table_of table

  -- the parameter that is told of
  abbrev pub it : Placed Parameter
  it = placed table e (parameter_of table q g.found.held.datainfo)

  pub there : slice_get (parameters w) k ≡ Some it
  there = g.found.is

  -- the report of what it holds
  abbrev pub told : Held → DataReport
  told h = report_of (bytes_of table e.name) (bytes_of table q.name) h t

  fine : (h : Held) → Small h → Fine (told h)
  unfolding parameter_of
  fine h n =
      let names = (each_at GoodParameter (parameters w) (accepted table g.accepted).all_parameters k it there).0 in
      record { names = names; small = n; in_time = g.in_time }

  -- what is sent to these clients
  module _ (cs : Clients) where
    abbrev pub updates : Held → List Record
    updates h = updates_to (client_at cs) (e.modules - 1) (told h) client_numbers

    updates_short : (h : Held) → Small h → length (encode_all (updates h)) ≤ reading_room
    updates_short h n = (written_to (client_at cs) (e.modules - 1) (told h) (fine h n) client_numbers).short

    pub tell_room : (h : Held) → Small h → (v : List ℕ) → length v ≤ 256
        → (e.modules - 1 < 16)
        × ((0 + length (encode_all (updates h)) ≤ length outbox) × (length (bytes_of table e.name) + length (bytes_of table q.name) + length v ≤ 1024))
    tell_room h n v l =
        let f = fine h n in
        let u = updates_short h n in
        let room = g.room in
        let few = (accepted table g.accepted).few_modules in
        let home = parameter_home w k it there in
        (omega arith, (omega arith, omega (arith, name_short (bytes_of table e.name) f.names.0, name_short (bytes_of table q.name) f.names.1)))

    pub tell_few : (h : Held) → Small h → {o : List ℕ} {n : ℕ} → Puts outbox 0 (encode_all (updates h)) o n → n ≤ 65536
    tell_few h small puts = let u = updates_short h small in let end = puts.ends in omega arith

    -- where it can't be read, by the names as they are read from the table
    module _ (f : Fault) (m a : List ℕ) (named_module : m ≡ bytes_of table e.name) (named : a ≡ bytes_of table q.name) where
      abbrev pub sent : List Record
      sent = updates_to (client_at cs) (e.modules - 1) (report_of m a (failed (fault_as f)) t) client_numbers

      pub fail_room : (e.modules - 1 < 16) × ((0 + length (encode_all sent) ≤ length outbox) × (length m + length a + 0 ≤ 1024))
      fail_room = rw (named_module, named) (tell_room (failed (fault_as f)) tt [] (omega arith))

      pub fail_few : {o : List ℕ} {n : ℕ} → Puts outbox 0 (encode_all sent) o n → n ≤ 65536
      fail_few puts = tell_few (failed (fault_as f)) tt (rw (named_module, named) at puts)

  -- it holds h, from the time t on
  module _ (s : State) (h : Held) (small : Small h) (values : List ℕ) (stands : Standing table s values) (fits : HeldFits it.it h)
      (ev : Event) (does : effect w (view table s values) ev ≡ driver_effect (view table s values) k it h t)
      (places : s.clients ≡ places_after s.clients ev) where
    abbrev sets : List Setting
    sets = record { parameter = k; held = h; time = t } ∷ []

    does_is : effect w (view table s values) ev
        ≡ record {
          next = counting (with_settings (view table s values) sets) (updates s.clients h);
          settings = sets;
          used = 0;
          records = updates s.clients h;
        }
    unfolding driver_effect view parameter_of
    does_is = does

    fit : (settings_unfit s.settings values 0 (parameters w) ≡ false) × (any (client_unfit (length w.modules) s.clients) client_numbers ≡ false)
    fit = fit_parts w s values stands.fit

    module _ (z : Sized s.settings) (settings : Settings) (i : settings ≡ with_setting s.settings k h t) (after : List ℕ) (a : after ≡ with_held values k h)
        (outbox' : List ℕ) (n : ℕ) (bare-puts : Puts outbox 0 (encode_all (updates (with_lines (brief_of s.clients) []) h)) outbox' n) where
      abbrev next : State
      next = next_settings s settings

      abbrev lines : List ℕ
      lines = s.clients.lines

      puts : Puts outbox 0 (encode_all (updates s.clients h)) outbox' n
      puts =
          subst (λ (rs : List Record). Puts outbox 0 (encode_all rs) outbox' n)
          (sym (updates_lined (brief_of s.clients) lines (e.modules - 1) (told h) client_numbers)) bare-puts

      is_set : AllSet table s values sets
      is_set =
          all_set table (accepted table g.accepted).few sets s values z stands.area fit.0
          (record { it = it; there = there; fits = fits; in_time = g.in_time }, tt)

      node_is : view table next after ≡ with_settings (view table s values) sets
      unfolding area_with settings_with
      node_is = rw (i, a) is_set.node

      still_fit : is_unfit w next after ≡ false
      unfolding is_unfit area_with settings_with
      still_fit = rw (i, a) (rw (is_set.fit, fit.1) refl)

      few : n ≤ reading_room
      few = let u = updates_short s.clients h small in let end = puts.ends in omega arith

      -- what is sent is counted
      module _ (r : Bare) (y : SentCounted (bare_of next) outbox' n r) where
        holds : Holds outbox' n (updates s.clients h)
        holds = let room = g.room in puts_holds puts (omega (arith, few))

        same : with_lines r.clients lines ≡ s.clients
        same = ap (λ (b : Brief). with_lines b lines) (sent_clients table (bare_of next) lines after outbox' n r y (updates s.clients h) holds)

        is_left : Leaves table s values ev outbox (done_with 0 n 0 (lined r lines)) after outbox'
        unfolding written outbox_after area_with settings_with
        is_left =
            let d = sym does_is in
            let rs = updates s.clients h in
            record {
              number = refl;
              used = ap (λ (y : Effect). y.used) d;
              writes = puts.ends ∙ zero-add _ ∙ ap (λ (y : Effect). written y.records) d;
              sends = puts.is ∙ ap (λ (y : Effect). outbox_after outbox y.records) d;
              area = a ∙ ap (λ (y : Effect). area_with values y.settings) d;
              settings =
                  sent_settings table (bare_of next) lines after outbox' n r y rs holds
                  ∙ i
                  ∙ ap (λ (y : Effect). settings_with s.settings y.settings) d;
              node =
                  sent_node table (bare_of next) lines after outbox' n r y rs holds
                  (λ d above. no_updates d above (client_at s.clients) (e.modules - 1) (told h))
                  ∙ ap (λ (m : Node). counting m rs) node_is
                  ∙ ap (λ (y : Effect). y.next) d;
              fit = sent_fit table (bare_of next) lines after outbox' n r y rs holds w still_fit;
              clients = wholly (with_lines r.clients lines) (places_after s.clients ev) (same ∙ places);
            }

        pub is_told : Taken table s values outbox ev (done_with 0 n 0 (lined r lines)) after outbox'
        is_told = record { leaves = is_left; short = few; steps = refl; clients = same }

  -- ## A parameter that can't be read, by the names as they are read from the table

  module _ (s : State) (f : Fault) (m a : List ℕ) (named_module : m ≡ bytes_of table e.name) (named : a ≡ bytes_of table q.name) where
    pub is_failed :
        Sized s.settings → (number : ℕ) → number ≡ fault_number (fault_as f) → (settings : Settings) → settings ≡ with_error s.settings k number t
        → (outbox' : List ℕ) (n : ℕ)
        → Puts outbox 0 (encode_all (sent (with_lines (brief_of s.clients) []) f m a named_module named)) outbox' n
        → (r : Bare) → SentCounted (bare_of (next_settings s settings)) outbox' n r
        → (values : List ℕ) (class : ℕ) → Standing table s values → fault_of class ≡ Some (fault_as f)
        → Taken table s values outbox (Unreadable k class t) (done_with 0 n 0 (lined r s.clients.lines)) values outbox'
    unfolding effect unreadable_effect with_held with_setting places_after
    is_failed z number j settings i outbox' n puts r y values class stands known =
        is_told s (failed (fault_as f)) tt values stands tt (Unreadable k class t) (rw (there, known) refl) refl z settings
        (i ∙ ap (λ (x : ℕ). with_error s.settings k x t) j) values refl outbox' n
        (rw (named_module, named) at puts) r y
