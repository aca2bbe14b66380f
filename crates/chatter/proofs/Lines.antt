-- A line that is carried out at two nodes which are the same for one client, and one that is left out at the second. Assumes nothing.
use Prim.Native.Nat.{ℕ}
use mathlib.Core.Bool.{Bool, false, true, cond, not, ◌&&◌, ◌||◌}
use mathlib.Core.List.{List, [], ◌∷◌, ◌++◌}
use mathlib.Core.Path.{◌≡◌, refl, sym, ap, ap₂, subst}
use lib.Dec.{eqb, ltb}
use lib.ListN.{length}
use borrow.Author.Tests.{eqb-true}
use Rattle.table.specs.Table.{Parameter, Command, Table}
use Rattle.table.specs.Search.{Placed, parameters}
use Rattle.message.specs.Line.{Parts}
use Rattle.message.specs.Request.{Request}
use Rattle.message.specs.Reply.{valued, DataReport, Reply, active, inactive, changed, counted}
use Rattle.outbox.specs.Outbox.{Record, order_change, order_command}
use Rattle.plain.specs.Node.{Value, Node, with_client, Setting, setting_value, is_active, active_count, activated, report_of, updates_of}
use Rattle.plain.specs.Answer.{Outcome, carried, status_of, busy_settings, argument_form, activates, deactivates, sets, outcome}
use Rattle.plain.proofs.Outcomes.{node_after, before, reply_to, ordering, counting, all_hold, outcome_holds}
use Rattle.chatter.specs.Without.{Choice, sent_to, orders, orders_less}
use Rattle.chatter.proofs.Records.{Updates, updates_less, of_updates, change_updates, change_updates_lem, none_ordered, sent_change, sent_of}
use Rattle.chatter.proofs.Near.{beside_activated_left, beside_activated, Near, near_settings, near_by, near_left, Told}

-- what a line of client d comes to at the nodes m and n
pub record Same (c : ℕ) (f : Choice) (out : ℕ → Bool) (k : ℕ → ℕ) (d : ℕ) (p : Parts) (m n : Node) (o q : Outcome) : Type 0 where
  pub told : Told c f out k (node_after m o, before o) (node_after n q, before q)
  -- the reply, if it is client c's; another may be told other counts of its own
  pub reply : eqb c d ≡ true → reply_to p q ≡ reply_to p o

-- A line of client d.
module _ (c : ℕ) (f : Choice) (out : ℕ → Bool) (k : ℕ → ℕ) (w : Table) (d now : ℕ) (p : Parts) (m n : Node) (h : Near c out m n) where
  -- nothing alters, and nothing is sent but the reply
  still : Told c f out k (m, []) (n, [])
  unfolding sent_to orders orders_less
  still = record { nodes = h; sends = refl; ordered = refl }

  -- ## A line that stays

  abbrev Agree : Outcome → Outcome → Type 0
  Agree o q = Same c f out k d p m n o q

  -- a change of the client's active modules, by what they were
  agree_active : (g : (ℕ → Bool) → ℕ → Bool) (rs : (ℕ → Value) → List Record) → ((v : ℕ → Value) → Updates (rs v)) → (r : Reply)
      → Agree (carried (with_client m d (activated (g (is_active (m.clients d))) (m.clients d))) [] (rs m.values) r)
      (carried (with_client n d (activated (g (is_active (n.clients d))) (n.clients d))) [] (rs n.values) r)
  agree_active g rs u r =
      record {
        told =
            record {
              nodes =
                  near_by c out out m n d h (λ e q. refl) (λ z. activated (g (is_active z)) z)
                  (beside_activated (out d) (m.clients d) (n.clients d) _ _ (h.each d));
              sends = ap (λ v. sent_to c (rs v)) h.values;
              ordered = none_ordered f k (rs m.values) (rs n.values) (u m.values) (u n.values);
            };
        reply = λ e. refl;
      }

  agree_sets : (j : ℕ × Placed Parameter) (v : List ℕ) → Agree (sets w m d now j v) (sets w n d now j v)
  unfolding sets sent_to orders orders_less
  agree_sets j v =
      let s : Setting = record { parameter = j.0; held = valued v; time = now } in
      let o = status_of w j.1 in
      let i = j.1.home in
      let r = report_of j.1 (setting_value s) in
      record {
        told =
            record {
              nodes = near_settings c out m n (busy_settings o now ++ (s ∷ [])) h;
              sends = sent_change c m.clients n.clients h.client o now i r;
              ordered =
                  ap (order_change d j.0 v ∷◌)
                  (none_ordered f k (change_updates m.clients o now i r) (change_updates n.clients o now i r)
                  (change_updates_lem m.clients o now i r) (change_updates_lem n.clients o now i r));
            };
        reply = λ e. refl;
      }

  agree_does : f d (k d) ≡ false → (j : ℕ × Placed Command) (v : List ℕ) → Agree (ordering m d now j v) (ordering n d now j v)
  unfolding sent_to orders orders_less
  agree_does e j v =
      record {
        told =
            record {
              nodes = h;
              sends = refl;
              ordered = ap (λ q. cond q [] (order_command d j.0 (argument_form j.1.it.argument v) ∷ []) ++ []) (sym e);
            };
        reply = λ e. refl;
      }

  -- client c is told the same counts
  agree_counts : Agree (counting w m d now) (counting w n d now)
  agree_counts =
      record {
        told = still;
        reply = λ e.
            subst
            (λ i. counted (n.counts i) (active_count w (n.clients i)) now ≡ counted (m.counts i) (active_count w (m.clients i)) now)
            (eqb-true c d e)
            (ap₂ (λ x y. counted x (active_count w y) now) h.counts h.client);
      }

  -- What it says is carried out alike, if it is not chosen.
  pub agree : f d (k d) ≡ false → (q : Request) → Agree (outcome w m d now q) (outcome w n d now q)
  unfolding activates deactivates
  agree e =
      all_hold w m n (sym h.values) d now (λ q. Agree)
      (record {
        bad = λ q x. record { told = still; reply = λ e. refl };
        failing = λ j x t y z. record { told = still; reply = λ e. refl };
        telling = λ q r y. record { told = still; reply = λ e. refl };
        activating = λ s g y.
            agree_active
            (λ a i. a i || (ltb i (length w.modules) && g i))
            (λ v. updates_of d g v 0 (parameters w))
            (λ v. of_updates d g v 0 (parameters w))
            (active s);
        deactivating = λ s g y. agree_active (λ a i. a i && not (g i)) (λ v. []) (λ v. tt) (inactive s);
        setting = λ j v y. agree_sets j _;
        doing = λ j v y. agree_does e j v;
      })
      agree_counts

  -- ## A line that is left out

  -- it is carried out at the first only
  abbrev Aside : Outcome → Type 0
  Aside o = Told c f out k (node_after m o, before o) (n, [])

  -- Another client's line that is not answered by `changed` is nothing to client c, and orders nothing but its command.
  pub aside : eqb c d ≡ false → f d (k d) ≡ true → (q : Request) → ((x : DataReport) → reply_to p (outcome w m d now q) ≡ changed x → ⊥)
      → Aside (outcome w m d now q)
  unfolding activates deactivates sets sent_to orders orders_less
  aside e s =
      outcome_holds (λ q o. ((x : DataReport) → reply_to p o ≡ changed x → ⊥) → Aside o) w m d now
      (record {
        bad = λ q x u. still;
        failing = λ j x t y z u. still;
        telling = λ q r y u. still;
        activating = λ x g y u.
            record {
              nodes = shifted _;
              sends = sym (sent_of c d e g m.values 0 (parameters w));
              ordered = sym (updates_less f k (updates_of d g m.values 0 (parameters w)) (of_updates d g m.values 0 (parameters w)));
            };
        deactivating = λ x g y u. record { nodes = shifted _; sends = refl; ordered = refl };
        setting = λ j v y u. absurd (u _ refl);
        doing = λ j v y u.
            record {
              nodes = h;
              sends = refl;
              ordered = ap (λ q. cond q [] (order_command d j.0 (argument_form j.1.it.argument v) ∷ []) ++ []) (sym s);
            };
      })
    where
      shifted : (a : ℕ → Bool) → Near c out (with_client m d (activated a (m.clients d))) n
      shifted a =
          near_left c out out m n d h (λ i z. refl) (activated a (m.clients d)) e
          (beside_activated_left (out d) (m.clients d) (n.clients d) a (h.each d))
