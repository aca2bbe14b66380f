-- "Without the record both stay as in document 01." (M-107): of a table without an `ED` record, every line is answered as document 01 has it, which
-- knows one identification and no `check`. Only a theorem speaks of that node. Assumes nothing.
use Rattle.std.specs.Prelude.{ℕ, cond, [], ◌≡◌, None}
use Rattle.ascii.specs.Text.{bytes}
use Rattle.ascii.specs.Bytes.{same}
use Rattle.table.specs.Table.{Table}
use Rattle.message.specs.Line.{Parts}
use Rattle.message.specs.Request.{Request, identify, describe, ping, activate, deactivate, read, change, execute, check, count, malformed, request}
use Rattle.message.specs.Error.{class, ProtocolError}
use Rattle.message.specs.Reply.{identification}
use Rattle.plain.specs.Node.{Node}
use Rattle.plain.specs.Answer.{Outcome, denied, carried, outcome, conclude, answer_parts, settings_of, parts_set}

-- `check` is one of "Anything else: ProtocolError." [L-15, L-24]
unfoldable pub first_request : Parts → Request
first_request p = cond (same p.action (bytes "check")) malformed (request p)

-- On the table w, at the node n, by client c, at the time `now`.
module _ (w : Table) (n : Node) (c now : ℕ) where
  -- "`*IDN?`: `ISSE&SINE2020,SECoP,V2019-09-16,v1.0`."; a check is never asked for [L-15, L-24]
  unfoldable pub first_outcome : Request → Outcome
  first_outcome identify = carried n [] [] (identification None)
  first_outcome describe = outcome w n c now describe
  first_outcome (ping token) = outcome w n c now (ping token)
  first_outcome (activate m) = outcome w n c now (activate m)
  first_outcome (deactivate m) = outcome w n c now (deactivate m)
  first_outcome (read m a) = outcome w n c now (read m a)
  first_outcome (change m a v) = outcome w n c now (change m a v)
  first_outcome (execute m a v) = outcome w n c now (execute m a v)
  first_outcome (check m a v) = denied (class ProtocolError)
  first_outcome count = outcome w n c now count
  first_outcome malformed = denied (class ProtocolError)

  -- a line with these parts
  pub record AsInFirst (p : Parts) : Type 0 where
    -- what is set
    pub sets : parts_set w n c now p ≡ settings_of (first_outcome (first_request p))
    -- the next node and all records
    pub answer : answer_parts w n c now p ≡ conclude w n c now p (first_outcome (first_request p))

abbrev pub FirstEditionStays : Type 0
FirstEditionStays = (w : Table) → w.edition ≡ None → (n : Node) (c now : ℕ) (p : Parts) → AsInFirst w n c now p
