-- Small changes of a sound node leave it sound. Assumes nothing.
use Rattle.std.specs.Prelude.{Some, slice_get}
use Prim.Native.Nat.{ℕ, ◌≤◌, ◌<◌}
use mathlib.Core.Bool.{Bool, false, not, ◌&&◌, ◌||◌}
use mathlib.Core.List.{List}
use mathlib.Core.Path.{◌≡◌, refl}
use native.Mathlib.Omega.{arith}
use lib.Dec.{ltb}
use lib.ListN.{length}
use borrow.Author.Tests.{le-ltb}
use Rattle.ascii.specs.Bytes.{all}
use Rattle.ascii.specs.Numbers.{latest}
use Rattle.counter.specs.declared.Counts.{Counts}
use Rattle.counter.specs.Counts.{highest, stopping, lines_counted}
use Rattle.outbox.specs.Outbox.{Record}
use Rattle.table.specs.Table.{Parameter, Table}
use Rattle.table.specs.Search.{Placed, parameters}
use Rattle.plain.specs.Node.{Client, closed, connected, Value, Node, with_client, with_value, line_of, is_active, emptied, activated, initially, begin, with_count, counting}
use Rattle.plain.proofs.Put.{put_all}
use Rattle.sound.specs.Theorems.{LineHeld, ClientHeld, ValueHeld, CountsHeld, Sound}
use Rattle.sound.proofs.Lists.{each_at}
use Rattle.sound.proofs.Accepted.{Accepted, GoodParameter}

module _ (w : Table) where
  -- ## Nodes

  pub with_client_lem : (n : Node) (c : ℕ) (x : Client) → c ≤ 7 → ClientHeld w x → Sound w n → Sound w (with_client n c x)
  with_client_lem n c x h k s =
      record {
        values = s.values;
        clients = put_all (λ j. ClientHeld w) n.clients c x k s.clients;
        above = put_all (λ j y. 7 < j → y ≡ closed) n.clients c x (λ i. absurd (omega arith)) s.above;
        counts = s.counts;
      }

  pub with_value_lem : (n : Node) (k : ℕ) (v : Value)
      → ((p : Placed Parameter) → slice_get (parameters w) k ≡ Some p → ValueHeld p.it v)
      → Sound w n → Sound w (with_value n k v)
  with_value_lem n k v h s =
      record {
        values =
            put_all (λ j y. (p : Placed Parameter) → slice_get (parameters w) j ≡ Some p → ValueHeld p.it y) n.values k v h s.values;
        clients = s.clients;
        above = s.above;
        counts = s.counts;
      }

  pub begun : Accepted w → (t : ℕ) → t ≤ latest → Sound w (begin w t)
  unfolding begin initially
  begun a t h =
      record {
        values = λ k p e. rw e ((each_at GoodParameter (parameters w) a.all_parameters k p e).1, h);
        clients = λ c. tt;
        above = λ c i. refl;
        counts = λ c. (omega arith, (omega arith, omega arith));
      }

  -- ## Counts

  pub with_count_lem : (n : Node) (c : ℕ) (x : Counts) → CountsHeld x → Sound w n → Sound w (with_count n c x)
  with_count_lem n c x h s =
      record { values = s.values; clients = s.clients; above = s.above; counts = put_all (λ j. CountsHeld) n.counts c x h s.counts }

  stops : (k n : ℕ) → stopping k n ≤ highest
  stops k n = omega arith

  pub one_line : (x : Counts) → CountsHeld x → CountsHeld (lines_counted x 1)
  one_line x h = (stops x.lines 1, h.1)

  pub with_counting : (n : Node) (rs : List Record) → Sound w n → Sound w (counting n rs)
  with_counting n rs s =
      record {
        values = s.values;
        clients = s.clients;
        above = s.above;
        counts = λ c. (stops (n.counts c).lines 0, (stops (n.counts c).errors _, stops (n.counts c).updates _));
      }

  -- ## Clients

  pub line_held : (x : Client) → ClientHeld w x → LineHeld (line_of x)
  unfolding line_of all
  line_held closed h = (omega arith, refl)
  line_held (connected l a) h = h.0

  pub emptied_held : (x : Client) → ClientHeld w x → ClientHeld w (emptied x)
  unfolding emptied all
  emptied_held closed h = tt
  emptied_held (connected l a) h = ((omega arith, refl), h.1)

  inactive_held : (x : Client) → ClientHeld w x → (i : ℕ) → length w.modules ≤ i → is_active x i ≡ false
  unfolding is_active
  inactive_held closed h i e = refl
  inactive_held (connected l a) h i e = h.1 i e

  activated_held : (f : ℕ → Bool) (x : Client) → ((i : ℕ) → length w.modules ≤ i → f i ≡ false)
      → ClientHeld w x → ClientHeld w (activated f x)
  unfolding activated
  activated_held f closed g h = tt
  activated_held f (connected l a) g h = (h.0, g)

  pub more_active : (x : Client) (wanted : ℕ → Bool) → ClientHeld w x
      → ClientHeld w (activated (λ i. is_active x i || (ltb i (length w.modules) && wanted i)) x)
  more_active x wanted h =
      activated_held (λ i. is_active x i || (ltb i (length w.modules) && wanted i)) x
      (λ i e. rw (inactive_held x h i e, le-ltb i (length w.modules) e)) h

  pub less_active : (x : Client) (wanted : ℕ → Bool) → ClientHeld w x
      → ClientHeld w (activated (λ i. is_active x i && not (wanted i)) x)
  less_active x wanted h = activated_held (λ i. is_active x i && not (wanted i)) x (λ i e. rw (inactive_held x h i e)) h
