-- Laws of the number that a table is answered with. Assumes nothing.
use Rattle.std.specs.Prelude.{Option, Some, None}
use Prim.Native.Nat.{ℕ, zero, suc, ◌≤◌, ◌<◌}
use native.Mathlib.Omega.{arith}
use mathlib.Core.Path.{◌≡◌, refl, sym, ◌∙◌}
use mathlib.Core.Bool.{Bool, true, false, cond}
use mathlib.Core.List.{List, [], ◌∷◌}
use lib.ListN.{length}
use lib.Dec.{ltb}
use borrow.Author.Tests.{ltb-false, lt-ltb, le-ltb}
use Rattle.ascii.specs.Bytes.{is_some}
use Rattle.table.specs.Table.{Table}
use Rattle.table.specs.Layout.{read_table, Readable, or_empty, table_of}
use Rattle.table.specs.Rules.{faults_below6}
use Rattle.table.specs.Clauses.Judged.{number_below6}
use Rattle.report.specs.Report.{report}
use Rattle.report.specs.Judge.{first_fault, tree_number, number_of, table_number}
use Rattle.report.proofs.Faults.{first_fault_first, first_fault_both}
use Rattle.emit.specs.Clauses.Emitted.{capped}

-- the numbers in their order: those below 6 come first
tree_number_lem : (t : Table) → tree_number t ≡ first_fault (number_below6 (Some t) ∷ cond (ltb 32000 (length (report t))) 6 0 ∷ [])
unfolding tree_number number_below6
tree_number_lem t = sym (first_fault_both (faults_below6 t) (cond (ltb 32000 (length (report t))) 6 0 ∷ []))

tree_low : (t : Table) (n : ℕ) → number_below6 (Some t) ≡ n → (n ≡ 0 → ⊥) → tree_number t ≡ n
tree_low t n e z = tree_number_lem t ∙ rw e (first_fault_first n (cond (ltb 32000 (length (report t))) 6 0 ∷ []) z)

sixth : (b : Bool) → first_fault (0 ∷ cond b 6 0 ∷ []) ≡ cond b 6 0
unfolding first_fault
sixth true = refl
sixth false = refl

tree_high : (t : Table) → number_below6 (Some t) ≡ 0 → tree_number t ≡ cond (ltb 32000 (length (report t))) 6 0
tree_high t e = tree_number_lem t ∙ rw e (sixth (ltb 32000 (length (report t))))

-- ## Ways through the function

module _ (s : List ℕ) (n : ℕ) (hn : n ≡ number_below6 (read_table s)) where
  pub number_low : (n ≡ 0 → ⊥) → n ≡ table_number s
  unfolding table_number number_of number_below6
  number_low z = go (read_table s) hn
    where
      go : (o : Option Table) → n ≡ number_below6 o → n ≡ number_of o
      go None e = e
      go (Some t) e = sym (tree_low t n (sym e) z)

  module _ (z : n ≡ 0) where
    pub number_readable : Readable s
    unfolding number_below6
    number_readable = go (read_table s) (sym hn ∙ z)
      where
        go : (o : Option Table) → number_below6 o ≡ 0 → is_some o ≡ true
        go None e = absurd (omega (arith, e))
        go (Some t) e = refl

    module _ (r : ℕ) (hr : r ≡ capped (length (report (table_of s)))) where
      -- whatever the number is by the report's length is the table's
      by_length : (k : ℕ) → ((t : Table) → r ≡ capped (length (report t)) → k ≡ cond (ltb 32000 (length (report t))) 6 0) → k ≡ table_number s
      unfolding table_number number_of number_below6 table_of or_empty
      by_length k h = go (read_table s) (sym hn ∙ z) hr
        where
          go : (o : Option Table) → number_below6 o ≡ 0 → r ≡ capped (length (report (or_empty o))) → k ≡ number_of o
          go None e g = absurd (omega (arith, e))
          go (Some t) e g = h t g ∙ sym (tree_high t e)

      pub number_6 : 32000 < r → 6 ≡ table_number s
      number_6 w = by_length 6 (λ t e. sym (rw (lt-ltb 32000 (length (report t)) (omega arith))))

      pub number_0 : r ≤ 32000 → 0 ≡ table_number s
      number_0 w = by_length 0 (λ t e. sym (rw (le-ltb 32000 (length (report t)) (omega arith))))

-- ## Accepted tables

short_tree : (t : Table) → tree_number t ≡ 0 → length (report t) ≤ 32000
short_tree t e = go (number_below6 (Some t)) refl (ltb 32000 (length (report t))) refl
  where
    go : (n : ℕ) → number_below6 (Some t) ≡ n → (b : Bool) → ltb 32000 (length (report t)) ≡ b → length (report t) ≤ 32000
    go zero g true h = let y : tree_number t ≡ 6 = tree_high t g ∙ rw h in absurd (omega arith)
    go zero g false h = ltb-false 32000 (length (report t)) h
    go (suc n) g b h = let y = tree_low t (suc n) g (λ z. omega arith) in absurd (omega arith)

pub accepted_short : (s : List ℕ) → table_number s ≡ 0 → length (report (table_of s)) ≤ 32000
unfolding table_number number_of table_of or_empty
accepted_short s e = go (read_table s) e
  where
    go : (o : Option Table) → number_of o ≡ 0 → length (report (or_empty o)) ≤ 32000
    go None e = absurd (omega (arith, e))
    go (Some t) e = short_tree t e
