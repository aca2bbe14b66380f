-- What the clients' counts are after an open, a line and what is sent (M-108). Assumes nothing.
use Rattle.std.specs.Prelude.{ℕ, zero, suc, List, ◌≡◌, length, get_or, set}
use Rattle.counter.specs.declared.Counts.{Counts}
use Rattle.counter.specs.Counts.{no_counts, all_counted}
use Rattle.outbox.specs.Outbox.{Record}
use Rattle.outbox.specs.Sent.{errors_sent, updates_sent}
use Rattle.outbox.specs.Clauses.Tallied.{Holds}
use Rattle.state.specs.declared.Bare.{Bare}
use Rattle.state.specs.declared.State.{State}
use Rattle.state.specs.View.{next_counts}
use Rattle.state.specs.Clauses.Bare.{bare_counts}

-- "open set them to 0": client c's
abbrev pub counts_cleared : List Counts → ℕ → List Counts
counts_cleared xs c = set xs c no_counts

-- one more line of client c
abbrev pub line_counted : List Counts → ℕ → List Counts
line_counted xs c = set xs c (all_counted (get_or xs c no_counts) 1 0 0)

-- one client's counts after these records
abbrev pub with_sent : Counts → List Record → ℕ → Counts
with_sent x rs c = all_counted x 0 (errors_sent c rs) (updates_sent c rs)

-- of the first c clients, after these records
unfoldable pub sent_counted : List Counts → List Record → ℕ → List Counts
sent_counted xs rs zero = xs
sent_counted xs rs (suc c) = set (sent_counted xs rs c) c (with_sent (get_or (sent_counted xs rs c) c no_counts) rs c)

-- ## What the code that counts leaves of the state s, or of one without its lines

pub record Cleared (s : State) (c : ℕ) (r : State) : Type 0 where
  pub size : length s.counts ≡ 8
  pub is : r ≡ next_counts s (counts_cleared s.counts c)

pub record LineCounted (s : Bare) (c : ℕ) (r : Bare) : Type 0 where
  pub size : length s.counts ≡ 8
  pub is : r ≡ bare_counts s (line_counted s.counts c)

-- by the records that stand in the first bytes of an outbox
pub record SentCounted (s : Bare) (out : List ℕ) (written : ℕ) (r : Bare) : Type 0 where
  pub size : length s.counts ≡ 8
  pub is : (rs : List Record) → Holds out written rs → r ≡ bare_counts s (sent_counted s.counts rs 8)
