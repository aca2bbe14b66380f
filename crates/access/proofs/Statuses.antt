-- The status that a change sets first: which one the code finds, and that it stands for the plain node's. Assumes nothing.
use Rattle.std.specs.Prelude.{Option, Some, None}
use Prim.Native.Nat.{ℕ, ◌+◌, ◌*◌, ◌≤◌, ◌<◌}
use mathlib.Core.Path.{◌≡◌, refl, sym, subst, ◌∙◌}
use mathlib.Core.Bool.{Bool, true, false, cond, not, true≢false, false≢true}
use mathlib.Core.List.{List}
use lib.ListN.{length, drop}
use lib.Seq.{length-sets}
use Rattle.ascii.specs.Text.{bytes}
use Rattle.ascii.specs.Bytes.{same}
use Rattle.ascii.specs.Clauses.Writer.{Puts}
use Rattle.datainfo.specs.Layout.{datainfo_at}
use Rattle.fit.specs.Fit.{verdict, is_fit}
use Rattle.table.specs.Table.{Parameter}
use Rattle.table.specs.Layout.{table_of}
use Rattle.table.specs.Search.{Placed, find_parameter}
use Rattle.table.specs.declared.layout.ParameterAt.{ParameterAt}
use Rattle.search.specs.Clauses.Found.{FindsParameter}
use Rattle.report.specs.Judge.{table_number}
use Rattle.message.specs.Reply.{valued}
use Rattle.message.specs.Clauses.Said.{report_of}
use Rattle.outbox.specs.Outbox.{Record, encode_all}
use Rattle.plain.specs.Node.{client_numbers, updates_to}
use Rattle.plain.specs.Answer.{busy, admitting, status_of, busy_settings, busy_updates}
use Rattle.plain.proofs.Busy.{status_is, busy_stored}
use Rattle.sound.proofs.Accepted.{datainfos_in_table}
use Rattle.sound.proofs.Room.{puts_none}
use Rattle.state.specs.declared.Clients.{Clients}
use Rattle.state.specs.View.{client_at, with_stored, with_held, area_with}
use Rattle.outcome.specs.Clauses.Outcome.{status_settings, stored_by, StatusHolds}
use Rattle.access.specs.Clauses.Busy.{StatusLow, Admits, StatusIs, FindsStatus, with_status, status_updates}
use Rattle.access.proofs.Finding.{ParameterKnown, parameter_known}

pub status_length : (values : List ℕ) (z : Option (ℕ × ℕ)) (b : List ℕ) → length (with_status values z b) ≡ length values
unfolding with_stored
status_length values None b = refl
status_length values (Some (k, h)) b = length-sets values (256 * k) b

-- the values area: the status's text, and then the parameter's
pub area_stands : (values : List ℕ) (z : Option (ℕ × ℕ)) (k : ℕ) (v : List ℕ) (t : ℕ) → with_stored (with_status values z busy) k v ≡ area_with values (stored_by z k v t)
unfolding area_with with_held
area_stands values None k v t = refl
area_stands values (Some (j, h)) k v t = refl

-- ## Where it is stored, and its updates

module _ (z : Option (ℕ × ℕ)) (l : StatusLow z) where
  -- one that is set has numbers that a table may have
  module _ (k h : ℕ) (e : z ≡ Some (k, h)) where
    low : (k < 64) × (h < 16)
    low = subst StatusLow e l

    pub home_low_lem : h < 16
    home_low_lem = low.1

    pub store_is : (values b after : List ℕ) (r : ℕ) → Puts values (256 * k) b after r → after ≡ with_status values z b
    unfolding with_stored
    store_is values b after r p = p.is ∙ rw e

    module _ (s : Clients) (m b : List ℕ) (t : ℕ) where
      abbrev busied : List Record
      busied = updates_to (client_at s) h (report_of m (bytes "status") (valued b) t) client_numbers

      pub told_room : (out : List ℕ) (at : ℕ) → at + length (encode_all (status_updates s z m b t)) ≤ length out → at + length (encode_all busied) ≤ length out
      told_room out at r = rw e at r

      pub told_put : (out : List ℕ) (at : ℕ) (after : List ℕ) (r : ℕ) → Puts out at (encode_all busied) after r
          → Puts out at (encode_all (status_updates s z m b t)) after r
      told_put out at after r p = rw e p

  module _ (e : z ≡ None) where
    pub told_none : (s : Clients) (m b : List ℕ) (t : ℕ) (out : List ℕ) (at : ℕ) → Puts out at (encode_all (status_updates s z m b t)) out at
    told_none s m b t out at = rw e (puts_none out)

-- ## Which one it is

module _ (s m a : List ℕ) where
  -- a change of another parameter
  pub other_stays : (t : Bool) → t ≡ same a (bytes "target") → not t ≡ true → FindsStatus s m a None
  unfolding status_of
  other_stays true e q = absurd (false≢true q)
  other_stays false e q = record { low = tt; is = λ p f g. rw (g, ← e) }

  -- no status
  pub none_stays : (r : Option (ℕ × ℕ × ParameterAt)) → FindsParameter s m (bytes "status") r → r ≡ None → FindsStatus s m a None
  unfolding status_of admitting
  none_stays r x q =
      let e : find_parameter (table_of s) m (bytes "status") ≡ None = subst (FindsParameter s m (bytes "status")) q x in
      record { low = tt; is = λ p f g. rw (f, e) (go (same p.it.name (bytes "target"))) }
    where
      go : (t : Bool) → ◌≡◌ {A = Option (ℕ × Placed Parameter)} (cond t None None) None
      go true = refl
      go false = refl

  module _ (n : table_number s ≡ 0) (k h : ℕ) (q : ParameterAt) (r : Option (ℕ × ℕ × ParameterAt)) (x : FindsParameter s m (bytes "status") r)
      (i : r ≡ Some (k, h, q)) where
    known : ParameterKnown s m (bytes "status") k h q
    known = parameter_known s n m (bytes "status") k h q (subst (FindsParameter s m (bytes "status")) i x)

    pub status_found : (t : Bool) → t ≡ same a (bytes "target") → not t ≡ false → (v : List ℕ) → v ≡ busy → (z : Option (ℕ × ℕ))
        → Admits (datainfo_at (drop q.info s)) v k h z → FindsStatus s m a z
    unfolding status_of admitting
    status_found true e y v u z w =
        let p = known in
        let r : z ≡ cond (is_fit (verdict p.it.it.datainfo busy)) (Some (k, h)) None = rw u at (w.is p.info) in
        subst (FindsStatus s m a) (sym r) (go (is_fit (verdict p.it.it.datainfo busy)) refl)
      where
        go : (b : Bool) → is_fit (verdict known.it.it.datainfo busy) ≡ b → FindsStatus s m a (cond b (Some (k, h)) None)
        go true f =
            record {
              low = (known.low, known.home_low);
              is = λ p g l. (known.it, (rw (l, ← e, g, known.is, f), known.home));
            }
        go false f = record { low = tt; is = λ p g l. rw (l, ← e, g, known.is, f) }
    status_found false e y v u z w = absurd (true≢false y)

-- ## What it stands for

module _ (table m a : List ℕ) (n : table_number table ≡ 0) (z : Option (ℕ × ℕ)) (f : FindsStatus table m a z) (p : Placed Parameter) (e : p.module_name ≡ m)
    (i : p.it.name ≡ a) where
  abbrev o : Option (ℕ × Placed Parameter)
  o = status_of (table_of table) p

  pub settings_stand : (t : ℕ) → busy_settings o t ≡ status_settings z t
  unfolding busy_settings
  settings_stand t = go z (f.is p e i)
    where
      go : (z : Option (ℕ × ℕ)) → StatusIs z o → busy_settings o t ≡ status_settings z t
      go None x = rw x
      go (Some (k, h)) x = rw x.1.0

  pub updates_stand : (s : Clients) (t : ℕ) → busy_updates (client_at s) o t ≡ status_updates s z m busy t
  unfolding busy_updates
  updates_stand s t = go z (f.is p e i)
    where
      go : (z : Option (ℕ × ℕ)) → StatusIs z o → busy_updates (client_at s) o t ≡ status_updates s z m busy t
      go None x = rw x
      go (Some (k, h)) x =
          let y = status_is (table_of table) p (k, x.0) x.1.0 in
          rw (x.1.0, x.1.1, y.home, e, y.named)

  pub status_holds : StatusHolds (table_of table) z
  status_holds = go z (f.is p e i)
    where
      go : (z : Option (ℕ × ℕ)) → StatusIs z o → StatusHolds (table_of table) z
      go None x = tt
      go (Some (k, h)) x =
          let y = status_is (table_of table) p (k, x.0) x.1.0 in
          record {
            parameter = x.0;
            there = y.there;
            fits = busy_stored x.0.it.datainfo (datainfos_in_table.of_parameters table n k x.0 y.there).names y.admits;
          }
