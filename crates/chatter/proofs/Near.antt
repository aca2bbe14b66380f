-- When two nodes are the same for one client, and what keeps them so. Assumes nothing.
use Prim.Native.Nat.{ℕ}
use mathlib.Core.Bool.{Bool, true, false, cond, false≢true}
use mathlib.Core.List.{List, [], ◌∷◌, ◌++◌}
use mathlib.Core.Path.{◌≡◌, refl, sym, ◌∙◌, ap, ap₂, subst}
use lib.Dec.{eqb}
use native.Mathlib.Omega.{arith}
use borrow.Author.Tests.{eqb-true}
use Rattle.counter.specs.declared.Counts.{Counts}
use Rattle.counter.specs.Counts.{stopping, lines_counted, all_counted}
use Rattle.message.specs.Line.{whole, with_byte}
use Rattle.message.specs.Reply.{Reply}
use Rattle.outbox.specs.Outbox.{Record, final}
use Rattle.outbox.specs.Sent.{errors_sent, updates_sent}
use Rattle.plain.specs.Node.{Client, closed, connected, Node, put, with_clients, with_client, with_counts, with_count, counting, Setting, set_values, with_settings, is_open, line_of, receive, emptied, activated}
use Rattle.plain.proofs.Put.{put_same}
use Rattle.plain.proofs.Clients.{emptied_open, emptied_line, activated_open, activated_line}
use Rattle.rule.proofs.Laws.{NoFinal}
use Rattle.chatter.specs.Without.{Choice, one_more, sent_to, orders, orders_less}
use Rattle.chatter.proofs.Records.{sent_append, orders_append, less_append, errors_heard, updates_heard}

-- ## Clients

-- a client x of the whole history, and y of the one without: where the line that it is within is left out, y has nothing of it
pub record Beside (out : Bool) (x y : Client) : Type 0 where
  pub opened : is_open y ≡ is_open x
  pub line : line_of y ≡ cond out (whole []) (line_of x)

emptied_beside : (out : Bool) (x : Client) → whole [] ≡ cond out (whole []) (line_of (emptied x))
emptied_beside true x = refl
emptied_beside false x = sym (emptied_line x)

-- a line ends, whether or not the client's next one is left out
pub beside_emptied : (out : Bool) (x y : Client) → is_open y ≡ is_open x → Beside out (emptied x) (emptied y)
beside_emptied out x y e =
    record { opened = emptied_open y ∙ e ∙ sym (emptied_open x); line = emptied_line y ∙ emptied_beside out x }

-- one that is left out ends at the first
pub beside_left : (out : Bool) (x y : Client) → Beside true x y → Beside out (emptied x) y
beside_left out x y h = record { opened = h.opened ∙ sym (emptied_open x); line = h.line ∙ emptied_beside out x }

pub beside_activated_left : (out : Bool) (x y : Client) (a : ℕ → Bool) → Beside out x y → Beside out (activated a x) y
beside_activated_left out x y a h =
    record { opened = h.opened ∙ sym (activated_open a x); line = h.line ∙ ap (cond out (whole [])) (sym (activated_line a x)) }

pub beside_activated : (out : Bool) (x y : Client) (a b : ℕ → Bool) → Beside out x y → Beside out (activated a x) (activated b y)
beside_activated out x y a b h =
    let g = beside_activated_left out x y a h in
    record { opened = activated_open b y ∙ g.opened; line = activated_line b y ∙ g.line }

-- a byte of a line that stays, and of one that is left out
pub beside_byte : (out : Bool) (b : ℕ) (x y : Client) → out ≡ false → Beside out x y → Beside out (receive x (b ∷ [])) (receive y (b ∷ []))
unfolding receive is_open line_of
beside_byte true b x y e h = absurd (false≢true (sym e))
beside_byte false b closed closed e h = h
beside_byte false b closed (connected l a) e h = absurd (false≢true (sym h.opened))
beside_byte false b (connected l a) closed e h = absurd (false≢true h.opened)
beside_byte false b (connected k i) (connected l a) e h = record { opened = refl; line = ap (λ z. with_byte z b) h.line }

pub beside_byte_left : (out : Bool) (b : ℕ) (x y : Client) → out ≡ true → Beside out x y → Beside out (receive x (b ∷ [])) y
unfolding receive is_open line_of
beside_byte_left false b x y e h = absurd (false≢true e)
beside_byte_left true b closed y e h = h
beside_byte_left true b (connected k i) y e h = record { opened = h.opened; line = h.line }

-- ## Counts

-- a count that has stopped where it has to
abbrev Stopped : Counts → Type 0
Stopped x = all_counted x 0 0 0 ≡ x

stopping_again : (k m : ℕ) → stopping (stopping k m) 0 ≡ stopping k m
stopping_again k m = omega arith

counted_stopped : (x : Counts) (a b e : ℕ) → Stopped (all_counted x a b e)
counted_stopped x a b e =
    λ i. record { lines = stopping_again x.lines a i; errors = stopping_again x.errors b i; updates = stopping_again x.updates e i }

line_stopped : (x : Counts) → Stopped x → Stopped (lines_counted x 1)
line_stopped x h = λ i. record { lines = stopping_again x.lines 1 i; errors = (h i).errors; updates = (h i).updates }

-- ## Nodes

-- What is the same at the node m of the whole history and at the node n of the one without: all values, client c and its counts, and of the
-- others who is open, and their lines but for those that are left out. Their active modules and counts may differ.
pub record Near (c : ℕ) (out : ℕ → Bool) (m n : Node) : Type 0 where
  pub values : n.values ≡ m.values
  pub client : n.clients c ≡ m.clients c
  pub counts : n.counts c ≡ m.counts c
  pub stopped : Stopped (m.counts c)
  pub each : (d : ℕ) → Beside (out d) (m.clients d) (n.clients d)

pub near_out : (c : ℕ) (o out : ℕ → Bool) (m n : Node) → ((d : ℕ) → o d ≡ out d) → Near c o m n → Near c out m n
near_out c o out m n s h =
    record {
      values = h.values;
      client = h.client;
      counts = h.counts;
      stopped = h.stopped;
      each = λ d. subst (λ q. Beside q (m.clients d) (n.clients d)) (s d) (h.each d);
    }

pub near_settings : (c : ℕ) (out : ℕ → Bool) (m n : Node) (ss : List Setting) → Near c out m n → Near c out (with_settings m ss) (with_settings n ss)
near_settings c out m n ss h =
    record { values = ap (λ g. set_values g ss) h.values; client = h.client; counts = h.counts; stopped = h.stopped; each = h.each }

module _ (c : ℕ) (out : ℕ → Bool) (m n : Node) (h : Near c out m n) where
  -- records are counted, at both
  pub near_counted : (a b : List Record) → sent_to c b ≡ sent_to c a → Near c out (counting m a) (counting n b)
  near_counted a b e =
      record {
        values = h.values;
        client = h.client;
        counts =
            ap (λ x. all_counted x 0 (errors_sent c b) (updates_sent c b)) h.counts
            ∙ ap₂ (all_counted (m.counts c) 0)
            (errors_heard c b ∙ ap (errors_sent c) e ∙ sym (errors_heard c a))
            (updates_heard c b ∙ ap (updates_sent c) e ∙ sym (updates_heard c a));
        stopped = counted_stopped (m.counts c) 0 (errors_sent c a) (updates_sent c a);
        each = h.each;
      }

  -- at the first only, where none is sent to client c
  pub near_counted_left : (a : List Record) → sent_to c a ≡ [] → Near c out (counting m a) n
  unfolding errors_sent updates_sent
  near_counted_left a e =
      record {
        values = h.values;
        client = h.client;
        counts =
            h.counts ∙ sym h.stopped
            ∙ ap₂ (all_counted (m.counts c) 0)
            (sym (errors_heard c a ∙ ap (errors_sent c) e))
            (sym (updates_heard c a ∙ ap (updates_sent c) e));
        stopped = counted_stopped (m.counts c) 0 (errors_sent c a) (updates_sent c a);
        each = h.each;
      }

  -- client d's counts alter, at both
  pub near_count : (d : ℕ) (x y : Counts) → (eqb c d ≡ true → (y ≡ x) × Stopped x) → Near c out (with_count m d x) (with_count n d y)
  unfolding put
  near_count d x y p =
      let g = go (eqb c d) refl in
      record { values = h.values; client = h.client; counts = g.0; stopped = g.1; each = h.each }
    where
      go : (q : Bool) → eqb c d ≡ q → (cond q y (n.counts c) ≡ cond q x (m.counts c)) × Stopped (cond q x (m.counts c))
      go true e = p e
      go false e = (h.counts, h.stopped)

  -- a line of client d is counted, at both
  pub near_line : (d : ℕ) → Near c out (with_count m d (lines_counted (m.counts d) 1)) (with_count n d (lines_counted (n.counts d) 1))
  near_line d =
      near_count d _ _ (λ e.
      subst
      (λ i. (lines_counted (n.counts i) 1 ≡ lines_counted (m.counts i) 1) × Stopped (lines_counted (m.counts i) 1))
      (eqb-true c d e)
      (ap (λ x. lines_counted x 1) h.counts, line_stopped (m.counts c) h.stopped))

  -- at the first only, where it is not client c
  pub near_count_left : (d : ℕ) (x : Counts) → eqb c d ≡ false → Near c out (with_count m d x) n
  near_count_left d x e =
      subst
      (λ g. Near c out (with_count m d x) (with_counts n g))
      (put_same n.counts d)
      (near_count d x (n.counts d) (λ t. absurd (false≢true (sym e ∙ t))))

module _ (c : ℕ) (o out : ℕ → Bool) (m n : Node) (d : ℕ) (h : Near c o m n) (s : (e : ℕ) → eqb e d ≡ false → o e ≡ out e) where
  -- client d alters, at both
  pub near_put : (x y : Client) → (eqb c d ≡ true → y ≡ x) → Beside (out d) x y → Near c out (with_client m d x) (with_client n d y)
  unfolding put
  near_put x y p b =
      record { values = h.values; client = go (eqb c d) refl; counts = h.counts; stopped = h.stopped; each = λ e. at e (eqb e d) refl }
    where
      go : (q : Bool) → eqb c d ≡ q → cond q y (n.clients c) ≡ cond q x (m.clients c)
      go true e = p e
      go false e = h.client

      at : (e : ℕ) (q : Bool) → eqb e d ≡ q → Beside (out e) (cond q x (m.clients e)) (cond q y (n.clients e))
      at e true r = subst (λ i. Beside (out i) x y) (sym (eqb-true e d r)) b
      at e false r = subst (λ q. Beside q (m.clients e) (n.clients e)) (s e r) (h.each e)

  -- in the same way at both
  pub near_by : (g : Client → Client) → Beside (out d) (g (m.clients d)) (g (n.clients d))
      → Near c out (with_client m d (g (m.clients d))) (with_client n d (g (n.clients d)))
  near_by g b =
      near_put (g (m.clients d)) (g (n.clients d)) (λ e. ap g (subst (λ i. n.clients i ≡ m.clients i) (eqb-true c d e) h.client)) b

  -- at the first only, where it is not client c
  pub near_left : (x : Client) → eqb c d ≡ false → Beside (out d) x (n.clients d) → Near c out (with_client m d x) n
  near_left x e b =
      subst
      (λ g. Near c out (with_client m d x) (with_clients n g))
      (put_same n.clients d)
      (near_put x (n.clients d) (λ t. absurd (false≢true (sym e ∙ t))) b)

-- ## Nodes and what was sent

-- What the whole history comes to, and the one without: client c was sent the same, and the driver's orders are the same less the commands of
-- the chosen lines, where each client d had k d replies before.
pub record Told (c : ℕ) (f : Choice) (out : ℕ → Bool) (k : ℕ → ℕ) (a b : Node × List Record) : Type 0 where
  pub nodes : Near c out a.0 b.0
  pub sends : sent_to c b.1 ≡ sent_to c a.1
  pub ordered : orders b.1 ≡ orders_less f k a.1

module _ (c : ℕ) (f : Choice) (out o : ℕ → Bool) (k : ℕ → ℕ) where
  pub told_append : (a b x y : Node × List Record) → NoFinal a.1 → Told c f o k a b → Told c f out k x y
      → Told c f out k (x.0, a.1 ++ x.1) (y.0, b.1 ++ y.1)
  told_append a b x y q h g =
      record {
        nodes = g.nodes;
        sends = sent_append c b.1 y.1 ∙ ap₂ ◌++◌ h.sends g.sends ∙ sym (sent_append c a.1 x.1);
        ordered =
            orders_append b.1 y.1
            ∙ ap₂ ◌++◌ h.ordered g.ordered
            ∙ sym (less_append f k a.1 x.1 q);
      }

-- a reply to client c is the same, and one to another is not looked at
pub final_same : (c d : ℕ) (r s : Reply) → (eqb c d ≡ true → s ≡ r) → (q : Bool) → eqb c d ≡ q
    → cond q (final d s ∷ []) [] ≡ cond q (final d r ∷ []) []
final_same c d r s e true i = ap (λ z. final d z ∷ []) (e i)
final_same c d r s e false i = refl

module _ (c : ℕ) (f : Choice) (out : ℕ → Bool) (k : ℕ → ℕ) (d : ℕ) (a b : Node × List Record) (h : Told c f out (one_more k d) a b) where
  -- a reply of both, and one of a line that is left out
  pub told_final : (r s : Reply) → (eqb c d ≡ true → s ≡ r) → Told c f out k (a.0, final d r ∷ a.1) (b.0, final d s ∷ b.1)
  unfolding sent_to orders orders_less
  told_final r s e =
      record {
        nodes = h.nodes;
        sends = ap₂ ◌++◌ (final_same c d r s e (eqb c d) refl) h.sends;
        ordered = h.ordered;
      }

  pub told_final_left : (r : Reply) → eqb c d ≡ false → Told c f out k (a.0, final d r ∷ a.1) b
  unfolding sent_to orders_less
  told_final_left r e =
      record {
        nodes = h.nodes;
        sends = h.sends ∙ ap (λ q. cond q (final d r ∷ []) [] ++ sent_to c a.1) (sym e);
        ordered = h.ordered;
      }
