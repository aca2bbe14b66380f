-- Laws of the plain node that a state stands for: a change of the state is the plain node's own small change. Assumes nothing.
use Rattle.std.specs.Prelude.{Option, Some, None, slice_get}
use Prim.Native.Nat.{ℕ, ◌≤◌, ◌<◌}
use mathlib.Core.Path.{◌≡◌, refl, ap, ap₂, fun_ext, ◌∙◌}
use mathlib.Core.Bool.{false}
use mathlib.Core.List.{List}
use lib.ListN.{length, get_or}
use Rattle.table.specs.Table.{Parameter, Table}
use Rattle.table.specs.Layout.{read_table, or_empty, table_of}
use Rattle.table.specs.Search.{Placed, parameters}
use Rattle.table.proofs.Places.{initial_lies}
use Rattle.counter.specs.Counts.{no_counts}
use Rattle.message.specs.Error.{Fault, fault_number, fault_of}
use Rattle.message.specs.Reply.{failed}
use Rattle.plain.specs.Node.{Client, closed, Value, with_client, with_value, initially, begin, holding, showing, with_clients, with_values, with_counts, none_open}
use Rattle.sound.proofs.Lists.{there_low}
use Rattle.state.specs.declared.Clients.{Clients}
use Rattle.state.specs.declared.Settings.{Settings}
use Rattle.state.specs.declared.State.{State}
use Rattle.state.specs.View.{shown, value_at, client_at, counts_at, view, with_stored, with_length, with_error, next_clients, next_settings}
use Rattle.state.specs.Fit.{settings_unfit}
use Rattle.state.proofs.Becomes.{Becomes}
use Rattle.state.proofs.Settled.{Sized, stored_view, failed_view}

-- one client becomes another
pub client_view : (table : List ℕ) (s : State) (values : List ℕ) {r : Clients} {c : ℕ} {x : Client} {condition : ℕ → Type 0} → Becomes s.clients c x condition r
    → view table (next_clients s r) values ≡ with_client (view table s values) c x
unfolding view
client_view table s values b = ap (λ (f : ℕ → Client). with_clients (view table s values) f) (fun_ext b.is)

-- a value is stored
module _ (table : List ℕ) (s : State) (z : Sized s.settings) (values : List ℕ) (room : 16384 ≤ length values) (k : ℕ) (h : k < 64) (text : List ℕ) (some_bytes : 0 < length text) (short : length text ≤ 256) (time : ℕ) where
  pub value_view : settings_unfit s.settings values 0 (parameters (table_of table)) ≡ false → (x : Placed Parameter) → slice_get (parameters (table_of table)) k ≡ Some x
      → view table (next_settings s (with_length s.settings k (length text) time)) (with_stored values k text)
      ≡ with_value (view table s values) k (showing text time)
  unfolding view
  value_view fit x at =
      ap (with_values (view table s values))
      (fun_ext (stored_view s.settings z values room k h text some_bytes short time (parameters (table_of table)) fit x at table))

-- a parameter can't be read
pub fault_view :
    (table : List ℕ) (s : State) → Sized s.settings → (values : List ℕ) (k : ℕ) → k < 64 → (f : Fault) (time : ℕ)
    → settings_unfit s.settings values 0 (parameters (table_of table)) ≡ false → (x : Placed Parameter) → slice_get (parameters (table_of table)) k ≡ Some x
    → view table (next_settings s (with_error s.settings k (fault_number f) time)) values ≡ with_value (view table s values) k (holding (failed f) time)
unfolding view
fault_view table s z values k h f time fit x at =
    ap (with_values (view table s values)) (fun_ext (failed_view s.settings z values k h f time (parameters (table_of table)) fit x at table))

-- a parameter that was never set shows its initial value
module _ (table : List ℕ) (w : Table) (read : read_table table ≡ Some w) (s : Settings) (values : List ℕ) where
  pub never_set : (p : ℕ) (x : Placed Parameter) → slice_get (parameters w) p ≡ Some x → get_or s.length p 0 ≡ 0 → shown table s values p x.it ≡ x.it.initial
  unfolding shown
  never_set p x e h = rw h (initial_lies table w read p x e)

  -- with nothing set, no error, and one time for all
  started :
      (t : ℕ) → ((p : ℕ) → p < length (parameters w) → get_or s.length p 0 ≡ 0) → ((p : ℕ) → p < length (parameters w) → get_or s.error p 0 ≡ 0)
      → ((p : ℕ) → p < length (parameters w) → get_or s.time p 0 ≡ t) → (p : ℕ)
      → value_at table s values p (slice_get (parameters w) p) ≡ initially (slice_get (parameters w) p) t
  unfolding value_at initially fault_of
  started t n k m p = go (slice_get (parameters w) p) refl
    where
      go : (o : Option (Placed Parameter)) → slice_get (parameters w) p ≡ o → value_at table s values p o ≡ initially o t
      go None e = refl
      go (Some x) e =
          let low = there_low (parameters w) p x e in
          rw (k p low, never_set p x e (n p low), m p low)

-- the node after an accepted start: no client is open, nothing is set, no parameter is in error, and all times are the start's
pub begun_view : (table : List ℕ) (w : Table) → read_table table ≡ Some w → (s : State) (values : List ℕ) (t : ℕ) → ((c : ℕ) → client_at s.clients c ≡ closed)
    → ((p : ℕ) → p < length (parameters w) → get_or s.settings.length p 0 ≡ 0) → ((p : ℕ) → p < length (parameters w) → get_or s.settings.error p 0 ≡ 0)
    → ((p : ℕ) → p < length (parameters w) → get_or s.settings.time p 0 ≡ t) → ((c : ℕ) → counts_at s.counts c ≡ no_counts)
    → view table s values ≡ begin w t
unfolding view begin table_of or_empty
begun_view table w read s values t c n k m z =
    rw read
    (ap₂ (λ (f : ℕ → Client) (g : ℕ → Value). with_counts (with_clients (none_open g) f) (counts_at s.counts)) (fun_ext c) (fun_ext (started table w read s.settings values t n k m))
    ∙ ap (with_counts (begin w t)) (fun_ext z))
