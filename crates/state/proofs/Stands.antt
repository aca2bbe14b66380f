-- A state that is fit for an accepted table stands for a sound node. Assumes nothing.
use Rattle.std.specs.Prelude.{Option, Some, None, slice_get}
use Prim.Native.Nat.{ℕ, ◌≤◌, ◌<◌}
use native.Mathlib.Omega.{arith}
use mathlib.Core.Path.{◌≡◌, refl, sym, subst}
use mathlib.Core.Bool.{Bool, true, false, cond, not, ◌&&◌}
use mathlib.Core.List.{List, [], ◌∷◌}
use lib.Dec.{eqb, ltb}
use lib.ListN.{length, get_or, take, drop, length-take, get_or-eq_default}
use borrow.Author.Tests.{ltb-true, ltb-false, not-false}
use Rattle.ascii.specs.Bytes.{all, any}
use Rattle.fit.specs.Fit.{is_stored}
use Rattle.message.specs.Line.{whole, overlong}
use Rattle.message.specs.Error.{Fault, fault_of}
use Rattle.message.specs.Reply.{held_as}
use Rattle.table.specs.Table.{Parameter, Table}
use Rattle.table.specs.Layout.{read_table, or_empty, table_of}
use Rattle.table.specs.Search.{Placed, parameters}
use Rattle.table.proofs.Places.{initial_lies}
use Rattle.report.specs.Judge.{number_of, table_number}
use Rattle.plain.specs.Node.{closed, connected, client_numbers}
use Rattle.sound.specs.Theorems.{LineHeld, ClientHeld, HeldFits, ValueHeld, Sound}
use Rattle.sound.proofs.Lists.{each_at}
use Rattle.sound.proofs.Accepted.{GoodParameter, accepted}
use Rattle.state.specs.declared.Clients.{Clients}
use Rattle.state.specs.declared.State.{State}
use Rattle.state.specs.View.{is_set, bit, line_bytes, line_at, client_at, stored_text, shown, value_at, counts_at, view}
use Rattle.state.specs.Fit.{client_unfit, settings_unfit, is_unfit}
use Rattle.state.proofs.Becomes.{Sized}
use Rattle.ascii.proofs.Lists.{neither}
use Rattle.state.proofs.Masks.{not_past}
use Rattle.state.proofs.Cells as Cells
use Rattle.state.proofs.Settled as Settled
use Rattle.state.proofs.Kept.{each_fit}

pub was_read : (table : List ℕ) → table_number table ≡ 0 → read_table table ≡ Some (table_of table)
unfolding table_number table_of number_of or_empty
was_read table e = go (read_table table) e
  where
    go : (o : Option Table) → number_of o ≡ 0 → o ≡ Some (or_empty o)
    go None e = absurd (omega arith)
    go (Some w) e = refl

-- ## Clients

-- no byte passes a test: all pass its contrary
none_all : (p : ℕ → Bool) (xs : List ℕ) → any p xs ≡ false → all (λ b. not (p b)) xs ≡ true
unfolding any all
none_all p [] h = refl
none_all p (x ∷ xs) h = let n = neither (p x) (any p xs) h in rw n.0 (none_all p xs n.1)

module _ (w : Table) (s : Clients) (z : Sized s) (fit : any (client_unfit (length w.modules) s) client_numbers ≡ false) where
  -- past the last client there is none
  past : (c : ℕ) → 8 ≤ c → client_at s c ≡ closed
  unfolding client_at is_set
  past c h = rw (get_or-eq_default s.open 0 {n = c} (rw z.is_open h))

  line_held : (c : ℕ) → c < 8 → LineHeld (line_at s c)
  unfolding line_at line_bytes
  line_held c h = go (is_set s.overlong c)
    where
      f : Cells.FitAt (length w.modules) s c
      f = Cells.fit_at (length w.modules) s c (each_fit (length w.modules) s fit c h)

      go : (t : Bool) → LineHeld (cond t overlong (whole (line_bytes s c)))
      go true = tt
      go false =
          let n = ltb-false 1024 (get_or s.length c 0) f.short in
          (rw length-take (omega arith), none_all (λ b. eqb b 10) (line_bytes s c) f.no_feed)

  client_held : (c : ℕ) → ClientHeld w (client_at s c)
  unfolding client_at
  client_held c = go (ltb c 8) (ltb-true c 8) (ltb-false c 8)
    where
      one : c < 8 → (t : Bool) → ClientHeld w (cond t (connected (line_at s c) (bit (get_or s.active c 0))) closed)
      one h true = (line_held c h, not_past (get_or s.active c 0) (length w.modules) (Cells.fit_at (length w.modules) s c (each_fit (length w.modules) s fit c h)).within)
      one h false = tt

      go : (t : Bool) → (t ≡ true → c < 8) → (t ≡ false → 8 ≤ c) → ClientHeld w (client_at s c)
      go true p q = one (p refl) (is_set s.open c)
      go false p q = subst (ClientHeld w) (sym (past c (q refl))) tt

-- ## Values

module _ (table : List ℕ) (e : table_number table ≡ 0) (s : State) (values : List ℕ) (fit : settings_unfit s.settings values 0 (parameters (table_of table)) ≡ false) where
  pub value_held : (k : ℕ) (p : Placed Parameter) → slice_get (parameters (table_of table)) k ≡ Some p → ValueHeld p.it (value_at table s.settings values k (slice_get (parameters (table_of table)) k))
  unfolding value_at shown
  value_held k p h =
      rw h (either (fault_of (get_or s.settings.error k 0)) _ (go (eqb (get_or s.settings.length k 0) 0) f.form), f.in_time)
    where
      either : (o : Option Fault) (v : List ℕ) → is_stored p.it.datainfo v ≡ true → HeldFits p.it (held_as o v)
      either None v i = i
      either (Some x) v i = tt

      f : Settled.Fit (get_or s.settings.length k 0) (stored_text s.settings values k) (get_or s.settings.time k 0) (get_or s.settings.error k 0) p
      f = Settled.fit_parts s.settings values k p (Settled.each_fit s.settings values (parameters (table_of table)) fit k p h)

      initial : is_stored p.it.datainfo (take (length p.it.initial) (drop p.it.place table)) ≡ true
      initial =
          rw (initial_lies table (table_of table) (was_read table e) k p h)
          (each_at GoodParameter (parameters (table_of table)) (accepted table e).all_parameters k p h).1

      go : (t : Bool) → not t && not (is_stored p.it.datainfo (stored_text s.settings values k)) ≡ false
          → is_stored p.it.datainfo (cond t (take (length p.it.initial) (drop p.it.place table)) (stored_text s.settings values k)) ≡ true
      go true g = initial
      go false g = not-false _ g

pub fit_is_sound : (table : List ℕ) (s : State) (values : List ℕ) → Sized s.clients → table_number table ≡ 0 → is_unfit (table_of table) s values ≡ false → Sound (table_of table) (view table s values)
unfolding is_unfit view counts_at
fit_is_sound table s values z e h =
    let n = neither (settings_unfit s.settings values 0 (parameters (table_of table))) _ h in
    record {
      values = value_held table e s values n.0;
      clients = client_held (table_of table) s.clients z n.1;
      above = λ c l. past (table_of table) s.clients z n.1 c (omega arith);
      counts = λ c. (omega arith, (omega arith, omega arith));
    }
