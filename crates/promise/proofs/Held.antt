-- What stays as answering needs it while a line is joined and carried out. Assumes nothing.
use Prim.Native.Nat.{ℕ, ◌≤◌}
use borrow.Author.Tests.{ltb-false, eqb-true}
use mathlib.Core.Bool.{Bool, true, false, cond, not, ◌&&◌, true≢false}
use mathlib.Core.List.{List}
use mathlib.Core.Path.{◌≡◌, refl, sym, ap, ◌∙◌}
use lib.Dec.{eqb}
use lib.ListN.{length, get_or}
use Rattle.table.specs.Layout.{table_of}
use Rattle.plain.specs.Node.{Client, closed, connected, is_open, receive, emptied}
use Rattle.plain.proofs.Put.{put_at}
use Rattle.plain.proofs.Clients.{receive_open, emptied_open}
use Rattle.state.specs.declared.Clients.{Clients}
use Rattle.state.specs.declared.State.{State}
use Rattle.message.specs.Line.{Line}
use Rattle.state.specs.View.{is_set, bit, line_at, client_at, next_clients}
use Rattle.state.specs.Fit.{client_unfit}
use Rattle.state.proofs.Becomes.{Becomes, Always, Sized, LinesFit}
use Rattle.state.proofs.Cells.{fit_at}
use Rattle.state.proofs.Kept.{each_fit, fit_lines, still_fit}
use Rattle.outcome.specs.Clauses.Ready.{Ready}
use Rattle.promise.proofs.Clients.{fit_parts, with_clients_lem}

-- ## Open clients

open_flag : (b : Bool) (l : Line) (a : ℕ → Bool) → is_open (cond b (connected l a) closed) ≡ b
unfolding is_open
open_flag true l a = refl
open_flag false l a = refl

pub open_is : (s : Clients) (c : ℕ) → is_open (client_at s c) ≡ is_set s.open c
unfolding client_at is_open
open_is s c = open_flag (is_set s.open c) (line_at s c) (bit (get_or s.active c 0))

-- two flags that are not both set
not_both : (a n : ℕ) → not (eqb a 0) && not (eqb n 0) ≡ false → not (eqb a 0) ≡ true → n ≡ 0
not_both a n h e = go (eqb n 0) (eqb-true n 0) (rw e at h)
  where
    go : (t : Bool) → (t ≡ true → n ≡ 0) → not t ≡ false → n ≡ 0
    go true p q = p refl
    go false p q = absurd (true≢false q)

module _ (table : List ℕ) (s : State) (values out : List ℕ) (c : ℕ) (g : Ready table s values out c) where
  abbrev modules : ℕ
  modules = length (table_of table).modules

  client_open : is_open (client_at s.clients c) ≡ true
  client_open = open_is s.clients c ∙ g.is_open

  own_fit : client_unfit modules s.clients c ≡ false
  own_fit = each_fit modules s.clients (fit_parts (table_of table) s values g.fit).1 c g.lent.low

  -- a line is at most 1,024 bytes, and none where it is overlong
  pub line_short : get_or s.clients.length c 0 ≤ 1024
  line_short = ltb-false 1024 (get_or s.clients.length c 0) (fit_at modules s.clients c own_fit).short

  pub lines_fit : Sized s.clients → LinesFit s.clients
  lines_fit z = fit_lines modules s.clients z (fit_parts (table_of table) s values g.fit).1

  pub overlong_empty : is_set s.clients.overlong c ≡ true → get_or s.clients.length c 0 ≡ 0
  unfolding is_set
  overlong_empty e = not_both (get_or s.clients.overlong c 0) (get_or s.clients.length c 0) (fit_at modules s.clients c own_fit).dropped e

  -- client c becomes another that is open
  becomes_ready : (x : Client) (condition : ℕ → Type 0) (r : Clients) → Becomes s.clients c x condition r → condition modules → is_open x ≡ true
      → Ready table (next_clients s r) values out c
  becomes_ready x condition r b h o =
      record {
        lent = g.lent;
        area = g.area;
        fit = with_clients_lem (table_of table) s values r g.fit (still_fit modules b h (fit_parts (table_of table) s values g.fit).1);
        is_open = sym (open_is r c) ∙ ap is_open (b.is c ∙ put_at (client_at s.clients) c x) ∙ o;
      }

  pub joined_ready : (bs : List ℕ) (condition : ℕ → Type 0) (r : Clients) → Becomes s.clients c (receive (client_at s.clients c) bs) condition r
      → condition modules → Ready table (next_clients s r) values out c
  joined_ready bs condition r b h =
      becomes_ready (receive (client_at s.clients c) bs) condition r b h (receive_open (client_at s.clients c) bs ∙ client_open)

  pub emptied_ready : (r : Clients) → Becomes s.clients c (emptied (client_at s.clients c)) Always r
      → Ready table (next_clients s r) values out c
  emptied_ready r b = becomes_ready (emptied (client_at s.clients c)) Always r b tt (emptied_open (client_at s.clients c) ∙ client_open)
