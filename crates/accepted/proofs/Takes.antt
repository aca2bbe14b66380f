-- A reading that fits is taken in: where its stored form lies, and what is told of it. Assumes nothing.
use Prim.Native.Nat.{ℕ, ◌+◌, ◌*◌, ◌-◌, ◌≤◌, ◌<◌}
use native.Mathlib.Omega.{arith}
use mathlib.Core.List.{List, []}
use mathlib.Core.Path.{◌≡◌, refl, ap, ◌∙◌}
use lib.ListN.{length, take, drop}
use Rattle.ascii.specs.Clauses.Writer.{Puts}
use Rattle.ascii.proofs.Puts.{puts_length}
use Rattle.datainfo.specs.Datainfo.{Datainfo}
use Rattle.datainfo.specs.Layout.{datainfo_at}
use Rattle.fit.specs.Fit.{stored_form}
use Rattle.form.specs.Clauses.Formed.{FitsAt, PutsForm}
use Rattle.form.proofs.Stored.{stored, stored_short}
use Rattle.table.specs.Layout.{table_of}
use Rattle.table.specs.Clauses.At.{bytes_of, parameter_of}
use Rattle.table.specs.declared.layout.ParameterAt.{ParameterAt}
use Rattle.message.specs.Reply.{valued}
use Rattle.message.specs.Clauses.Said.{report_of}
use Rattle.outbox.specs.Outbox.{Record, encode_all}
use Rattle.search.specs.declared.cursor.Cursor.{Cursor}
use Rattle.plain.specs.Node.{Node, client_numbers, updates_to}
use Rattle.plain.specs.Calls.{Reading, driver_effect, reading_effect, effect}
use Rattle.sound.proofs.Accepted.{datainfos_in_table}
use Rattle.state.specs.declared.Settings.{Settings}
use Rattle.state.specs.declared.Bare.{Bare}
use Rattle.state.specs.View.{client_at, view, with_held, with_setting, with_stored, with_length}
use Rattle.state.specs.Places.{places_after}
use Rattle.state.specs.Clauses.Bare.{with_lines, lined, unlined}
use Rattle.state.proofs.Forms.{stands}
use Rattle.state.specs.Clauses.Counted.{SentCounted}
use Rattle.state.proofs.Settled.{Sized}
use Rattle.promise.specs.Clauses.Answer.{done_with}
use Rattle.accepted.specs.Clauses.Fitting.{Standing, Fitting, Taken}
use Rattle.accepted.proofs.Tells.{it, there, tell_room, tell_few, is_told}

module _ (table : List ℕ) (s : Bare) (values outbox : List ℕ) (k t : ℕ) (bs : List ℕ) (q : ParameterAt) (e : Cursor)
    (g : Fitting table (unlined s) values outbox k t bs q e) where
  abbrev d : Datainfo
  d = g.tellable.found.held.datainfo

  pub read_fits : FitsAt table q.info bs
  read_fits =
      let h = g.tellable.found.held in
      record { reads = record { within = h.info_within; datainfo = h.datainfo; left = h.left; is = h.info }; fits = g.fits }

  pub read_room : 256 * k + 256 ≤ length values
  read_room = let low = g.tellable.low in let area = g.standing.area in omega arith

  -- the stored form of the bytes
  abbrev form : List ℕ
  form = stored_form d bs

  module _ (after : List ℕ) (r : ℕ) (y : PutsForm (datainfo_at (drop q.info table)) bs values (256 * k) after r) where
    x : Puts values (256 * k) form after r
    x = y.is g.tellable.found.held.info

    small : length form ≤ 256
    small = stored_short d bs g.fits

    -- where the stored form lies
    abbrev value : List ℕ
    value = take (r - 256 * k) (drop (256 * k) after)

    room_left : r ≤ length values
    room_left = let z = y.short in omega (arith, read_room)

    pub read_end : r ≤ length after
    read_end = let l = puts_length x in omega (arith, room_left)

    value_is : value ≡ form
    value_is = stands x room_left

    size_is : r - 256 * k ≡ length form
    size_is = let z = x.ends in omega arith

    pub read_size : r - 256 * k ≤ 256
    read_size = rw size_is small

    -- the names, as they are read from the table
    module _ (m a : List ℕ) (named_module : m ≡ bytes_of table e.name) (named : a ≡ bytes_of table q.name) where
      abbrev sent : List Record
      sent = updates_to (client_at (with_lines s.clients [])) (e.modules - 1) (report_of m a (valued value) t) client_numbers

      pub updates_room : (e.modules - 1 < 16) × ((0 + length (encode_all sent) ≤ length outbox) × (length m + length a + length value ≤ 1024))
      updates_room =
          rw (named_module, named, value_is) (tell_room table outbox k t q e g.tellable (with_lines s.clients []) (valued form) small form small)

      pub read_few : {o : List ℕ} {n : ℕ} → Puts outbox 0 (encode_all sent) o n → n ≤ 65536
      read_few p = tell_few table outbox k t q e g.tellable (with_lines s.clients []) (valued form) small (rw (named_module, named, value_is) at p)

      -- what is stored is what the plain node stores
      does : (n : Node) → effect (table_of table) n (Reading k bs t) ≡ driver_effect n k (it table outbox k t q e g.tellable) (valued form) t
      unfolding effect reading_effect parameter_of
      does n = rw (there table outbox k t q e g.tellable) refl

      pub is_taken :
          Sized s.settings → (settings : Settings) → settings ≡ with_length s.settings k (r - 256 * k) t
          → (outbox' : List ℕ) (n : ℕ) → Puts outbox 0 (encode_all sent) outbox' n
          → (r : Bare) → SentCounted (record { clients = s.clients; settings = settings; counts = s.counts }) outbox' n r
          → (lines : List ℕ) → Standing table (lined s lines) values
          → Taken table (lined s lines) values outbox (Reading k bs t) (done_with 0 n 0 (lined r lines)) after outbox'
      unfolding with_held with_setting with_stored parameter_of places_after
      is_taken z settings i outbox' n p u y lines stands =
          let its = it table outbox k t q e g.tellable in
          let good = datainfos_in_table.of_parameters table g.tellable.accepted k its (there table outbox k t q e g.tellable) in
          is_told table outbox k t q e g.tellable (lined s lines) (valued form) small values stands (stored d bs good g.fits) (Reading k bs t)
          (does (view table (lined s lines) values)) refl z settings (i ∙ ap (λ (j : ℕ). with_length s.settings k j t) size_is) after x.is outbox' n
          (rw (named_module, named, value_is) at p) u y
