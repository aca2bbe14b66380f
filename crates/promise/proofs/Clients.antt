-- What is left by a call that changes one client: an open, a close, and a piece without a line feed. Assumes nothing.
use Prim.Native.Nat.{ℕ, suc, ◌+◌, ◌≤◌, ◌<◌}
use native.Mathlib.Omega.{arith}
use native.Mathlib.Nat.{add-zero}
use mathlib.Core.Bool.{Bool, true, false, cond, true≢false}
use mathlib.Core.List.{List, [], ◌∷◌}
use mathlib.Core.Path.{◌≡◌, refl, sym, ap, subst, ◌∙◌}
use lib.Dec.{eqb}
use lib.ListN.{length, take}
use Rattle.ascii.specs.Bytes.{any}
use Rattle.table.specs.Layout.{table_of}
use Rattle.table.specs.Table.{Table}
use Rattle.table.specs.Search.{parameters}
use Rattle.outbox.specs.Outbox.{encode_all}
use Rattle.counter.specs.Counts.{no_counts}
use Rattle.plain.specs.Node.{Client, closed, Node, with_client, with_count, fresh, receive, client_numbers}
use Rattle.plain.specs.Calls.{Event, Open, Close, Piece, Effect, effect, piece_effect, ended, ended_sets, before_feed, has_feed, used_of}
use Rattle.state.specs.declared.Clients.{Clients}
use Rattle.state.specs.declared.State.{State}
use Rattle.state.specs.View.{is_set, client_at, view, area_with, settings_with, outbox_after, written, next_clients, next_counts}
use Rattle.state.specs.Places.{with_masks, places_after}
use Rattle.state.specs.Changed.{with_opened, with_closed, with_joined}
use Rattle.state.specs.Clauses.Counted.{counts_cleared}
use Rattle.state.proofs.Counted.{cleared_view}
use Rattle.state.specs.Fit.{client_unfit, settings_unfit, is_unfit}
use Rattle.state.proofs.Becomes.{Becomes, Always, Joinable}
use Rattle.ascii.proofs.Lists.{neither}
use Rattle.state.proofs.Kept.{still_fit}
use Rattle.state.proofs.Views.{client_view}
use Rattle.promise.specs.Clauses.Leaves.{Leaves}
use Rattle.promise.specs.Clauses.Answer.{quiet_done, done_with}

-- ## Fitness

module _ (w : Table) (s : State) (values : List ℕ) where
  pub fit_parts : is_unfit w s values ≡ false
      → (settings_unfit s.settings values 0 (parameters w) ≡ false) × (any (client_unfit (length w.modules) s.clients) client_numbers ≡ false)
  unfolding is_unfit
  fit_parts e = neither _ _ e

  pub with_clients_lem : (r : Clients) → is_unfit w s values ≡ false → any (client_unfit (length w.modules) r) client_numbers ≡ false
      → is_unfit w (next_clients s r) values ≡ false
  unfolding is_unfit
  with_clients_lem r e f = rw ((fit_parts e).0, f) refl

-- ## Line feeds

pub no_feed_before : (bs : List ℕ) → any (λ b. eqb b 10) (before_feed bs) ≡ false
unfolding before_feed any
no_feed_before [] = refl
no_feed_before (b ∷ bs) = go (eqb b 10) refl (no_feed_before bs)
  where
    go : (t : Bool) → eqb b 10 ≡ t → any (λ b. eqb b 10) (before_feed bs) ≡ false
        → any (λ b. eqb b 10) (cond t [] (b ∷ before_feed bs)) ≡ false
    go true e h = refl
    go false e h = rw (e, h) refl

pub take_before : (bs : List ℕ) → take (length (before_feed bs)) bs ≡ before_feed bs
unfolding before_feed
take_before [] = refl
take_before (b ∷ bs) = go (eqb b 10) (take_before bs)
  where
    go : (t : Bool) → take (length (before_feed bs)) bs ≡ before_feed bs
        → take (length (cond t [] (b ∷ before_feed bs))) (b ∷ bs) ≡ cond t [] (b ∷ before_feed bs)
    go true h = refl
    go false h = ap (λ (x : List ℕ). b ∷ x) h

pub before_long : (bs : List ℕ) → length (before_feed bs) + cond (has_feed bs) 1 0 ≤ length bs
unfolding before_feed has_feed
before_long [] = omega arith
before_long (b ∷ bs) = go (eqb b 10) (before_long bs)
  where
    go : (t : Bool) → length (before_feed bs) + cond (has_feed bs) 1 0 ≤ length bs
        → length (cond t [] (b ∷ before_feed bs)) + cond (cond t true (has_feed bs)) 1 0 ≤ suc (length bs)
    go true h = omega arith
    go false h = omega arith

before_all : (bs : List ℕ) → has_feed bs ≡ false → length (before_feed bs) ≡ length bs
unfolding before_feed has_feed
before_all [] e = refl
before_all (b ∷ bs) e = go (eqb b 10) (before_all bs) e
  where
    go : (t : Bool) → (has_feed bs ≡ false → length (before_feed bs) ≡ length bs) → cond t true (has_feed bs) ≡ false
        → length (cond t [] (b ∷ before_feed bs)) ≡ suc (length bs)
    go true h e = absurd (true≢false e)
    go false h e = ap suc (h e)

pub no_feed_lem : (bs : List ℕ) → length (before_feed bs) ≡ length bs → has_feed bs ≡ false
no_feed_lem bs e = go (has_feed bs) (before_long bs)
  where
    go : (t : Bool) → length (before_feed bs) + cond t 1 0 ≤ length bs → t ≡ false
    go true h = absurd (omega arith)
    go false h = refl

pub a_feed : (bs : List ℕ) → length (before_feed bs) < length bs → has_feed bs ≡ true
a_feed bs e = go (has_feed bs) (before_all bs)
  where
    go : (t : Bool) → (t ≡ false → length (before_feed bs) ≡ length bs) → t ≡ true
    go true h = refl
    go false h = let q = h refl in absurd (omega arith)

-- ## Calls

-- clients that are known wholly
pub wholly : (r q : Clients) → r ≡ q → r ≡ with_masks q r.active
wholly r q e = subst (λ (x : Clients). x ≡ with_masks q x.active) (sym e) refl

module _ (table : List ℕ) (s : State) (values : List ℕ) (fit : is_unfit (table_of table) s values ≡ false) (c t : ℕ) (r : Clients) where
  abbrev next : State
  next = next_clients s r

  -- client c becomes x, and nothing is sent
  quiet : (e : Event) → r ≡ places_after s.clients e → (x : Client) (u : ℕ) (condition : ℕ → Type 0) → Becomes s.clients c x condition r
      → condition (length (table_of table).modules)
      → effect (table_of table) (view table s values) e ≡ record { next = with_client (view table s values) c x; settings = []; used = u; records = [] }
      → (outbox : List ℕ)
      → Leaves table s values e outbox (done_with u 0 0 next) values outbox
  unfolding written outbox_after encode_all area_with settings_with
  quiet e places x u condition b h f outbox =
      record {
        number = refl;
        used = ap (λ (y : Effect). y.used) (sym f);
        writes = ap (λ (y : Effect). written y.records) (sym f);
        sends = ap (λ (y : Effect). outbox_after outbox y.records) (sym f);
        area = ap (λ (y : Effect). area_with values y.settings) (sym f);
        settings = ap (λ (y : Effect). settings_with s.settings y.settings) (sym f);
        node = client_view table s values b ∙ ap (λ (y : Effect). y.next) (sym f);
        fit = with_clients_lem (table_of table) s values r fit
            (still_fit (length (table_of table).modules) b h (fit_parts (table_of table) s values fit).1);
        clients = wholly r (places_after s.clients e) places;
      }

  -- an open, besides, sets the client's counts to 0
  pub opens : r ≡ with_opened s.clients c → Becomes s.clients c fresh Always r → length s.counts ≡ 8 → c < 8
      → Leaves table s values (Open c t) [] (quiet_done 0 (next_counts next (counts_cleared s.counts c))) values []
  unfolding effect is_unfit written outbox_after encode_all area_with settings_with places_after
  opens d b z low =
      record {
        number = refl;
        used = refl;
        writes = refl;
        sends = refl;
        area = refl;
        settings = refl;
        node = cleared_view table next values z c low ∙ ap (λ (n : Node). with_count n c no_counts) (client_view table s values b);
        fit = with_clients_lem (table_of table) s values r fit
            (still_fit (length (table_of table).modules) b tt (fit_parts (table_of table) s values fit).1);
        clients = wholly r (with_opened s.clients c) d;
      }

  pub closes : r ≡ with_closed s.clients c → Becomes s.clients c closed Always r
      → Leaves table s values (Close c t) [] (quiet_done 0 next) values []
  unfolding effect places_after
  closes d b = quiet (Close c t) d closed 0 Always b tt refl []

  pub joins : (bs outbox : List ℕ) → is_set s.clients.open c ≡ true → has_feed bs ≡ false → r ≡ with_joined s.clients c bs
      → Becomes s.clients c (receive (client_at s.clients c) (before_feed bs)) (Joinable s.clients c (before_feed bs)) r
      → Leaves table s values (Piece c bs t) outbox
      (done_with (length (before_feed bs)) 0 0 next) values outbox
  unfolding effect piece_effect used_of ended ended_sets view places_after
  joins bs outbox o f d b =
      quiet (Piece c bs t) (rw f d) (receive (client_at s.clients c) (before_feed bs)) (length (before_feed bs)) (Joinable s.clients c (before_feed bs)) b
      (record { is_open = o; no_feed = no_feed_before bs })
      (rw f (ap (λ (k : ℕ). record { next = with_client (view table s values) c (receive (client_at s.clients c) (before_feed bs)); settings = []; used = k; records = [] }) (add-zero (length (before_feed bs)))))
      outbox
