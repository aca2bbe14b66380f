-- Of a table without an `ED` record, lines are answered as document 01 has it. Assumes nothing.
use Rattle.std.specs.Prelude.{None}
use Prim.Native.Nat.{ℕ}
use mathlib.Core.Bool.{Bool, true, false, cond, ◌&&◌}
use mathlib.Core.List.{List}
use mathlib.Core.Path.{◌≡◌, refl, ◌∙◌, ap}
use Rattle.ascii.specs.Text.{bytes}
use Rattle.ascii.specs.Bytes.{same}
use Rattle.ascii.specs.Names.{is_name}
use Rattle.ascii.proofs.Lists.{same_is}
use Rattle.table.specs.Table.{Table}
use Rattle.message.specs.Line.{Parts}
use Rattle.message.specs.Request.{Request, identify, describe, ping, activate, deactivate, read, change, execute, check, count, malformed, module_part, accessible_part, named, or_null, request}
use Rattle.message.specs.Error.{class, ProtocolError}
use Rattle.plain.specs.Node.{Node}
use Rattle.plain.specs.Answer.{denied, outcome, conclude, answer_parts, settings_of, parts_set}
use Rattle.plain.specs.Editions.{first_request, first_outcome, AsInFirst}

-- a line whose action is `check` asks for one, or for nothing
check_asked : (p : Parts) → p.action ≡ bytes "check" → request p ≡ named (λ m a. check m a (or_null p.payload)) p.specifier
unfolding request same bytes
check_asked p e = rw e

module _ (w : Table) (h : w.edition ≡ None) (n : Node) (c now : ℕ) where
  same_request : (q : Request) → outcome w n c now q ≡ first_outcome w n c now q
  unfolding first_outcome outcome
  same_request identify = rw h
  same_request describe = refl
  same_request (ping token) = refl
  same_request (activate m) = refl
  same_request (deactivate m) = refl
  same_request (read m a) = refl
  same_request (change m a v) = refl
  same_request (execute m a v) = refl
  same_request (check m a v) = rw h
  same_request count = refl
  same_request malformed = refl

  -- it is denied whatever its names are
  unknown : (v s : List ℕ) → outcome w n c now (named (λ m a. check m a v) s) ≡ denied (class ProtocolError)
  unfolding outcome named
  unknown v s = go (is_name (module_part s) && is_name (accessible_part s))
    where
      go : (b : Bool) → outcome w n c now (cond b (check (module_part s) (accessible_part s) v) malformed) ≡ denied (class ProtocolError)
      go true = rw h
      go false = refl

  same_line : (p : Parts) → outcome w n c now (request p) ≡ first_outcome w n c now (first_request p)
  unfolding first_request first_outcome
  same_line p = go (same p.action (bytes "check")) refl
    where
      go : (b : Bool) → same p.action (bytes "check") ≡ b → outcome w n c now (request p) ≡ first_outcome w n c now (cond b malformed (request p))
      go true e = ap (outcome w n c now) (check_asked p (same_is p.action (bytes "check") e)) ∙ unknown (or_null p.payload) p.specifier
      go false e = same_request (request p)

  pub first_edition_stays : (p : Parts) → AsInFirst w n c now p
  unfolding answer_parts parts_set
  first_edition_stays p = record { sets = ap settings_of (same_line p); answer = ap (conclude w n c now p) (same_line p) }
