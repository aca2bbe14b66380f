-- Laws of a table's edition: how its text begins, and where it stands. Assumes nothing.
use Rattle.std.specs.Prelude.{Option, Some, None, IfSome}
use Prim.Native.Nat.{ℕ}
use mathlib.Core.Path.{◌≡◌, ◌∙◌}
use mathlib.Core.Bool.{Bool, true, false}
use mathlib.Core.List.{List}
use Rattle.ascii.specs.Text.{bytes}
use Rattle.ascii.specs.Names.{is_text}
use Rattle.table.specs.Layout.{begins, Readable, table_of}
use Rattle.table.specs.Rules.{edition_good}
use Rattle.table.specs.Clauses.At.{bytes_of, Inside, text_if, HeadRead, EditionIs}
use Rattle.table.specs.declared.layout.Part.{Part}
use Rattle.table.specs.declared.layout.HeadAt.{HeadAt}
use Rattle.table.proofs.Whole.{readable_whole, unread, opened}

-- ## Whether an edition is good

module _ (xs : List ℕ) (t : Bool) (ht : t ≡ is_text xs) where
  pub text_begins : (r : Bool) → t ≡ true → r ≡ begins (bytes "ISSE,SECoP,") xs → r ≡ edition_good (Some xs)
  unfolding edition_good
  text_begins r e h = rw (← ht, e) h

  pub text_not : t ≡ false → t ≡ edition_good (Some xs)
  unfolding edition_good
  text_not e = e ∙ rw (← ht, e)

module _ (s : List ℕ) (edition : Option Part) where
  pub unedited_good : edition ≡ None → true ≡ edition_good (text_if s edition)
  unfolding edition_good
  unedited_good e = rw e

  pub edited_good : (p : Part) (r : Bool) → edition ≡ Some p → r ≡ edition_good (Some (bytes_of s p)) → r ≡ edition_good (text_if s edition)
  edited_good p r e h = rw e h

-- ## Where it stands

module _ (s : List ℕ) (r : Option HeadAt) (h : HeadRead s r) (e : Readable s) where
  pub edition_unread : r ≡ None → (table_of s).edition ≡ None
  edition_unread z = absurd (unread s r h (table_of s) (readable_whole s e) z)

  pub edition_read : (q : HeadAt) → r ≡ Some q → EditionIs s q.edition
  edition_read q z = go q.edition (opened s r h (table_of s) (readable_whole s e) q z).edition (rw z at h).edition
    where
      go : (p : Option Part) → (table_of s).edition ≡ text_if s p → IfSome p (Inside s) → EditionIs s p
      go None i w = i
      go (Some p) i w = record { is = i; inside = w }
