-- What a call answers by the first fault of three numbers: the one of what every call judges, and two of its own. One law for each way out.
-- Assumes nothing.
use Prim.Native.Nat.{ℕ, suc}
use native.Mathlib.Omega.{arith}
use mathlib.Core.List.{List, [], ◌∷◌}
use mathlib.Core.Logic.{◌≢◌}
use mathlib.Core.Path.{◌≡◌, refl, sym, subst, ◌∙◌}
use Rattle.table.specs.Layout.{table_of}
use Rattle.report.specs.Judge.{first_fault}
use Rattle.report.proofs.Faults.{first_fault_first}
use Rattle.plain.specs.Calls.{Call, call_number}
use Rattle.state.specs.declared.State.{State}
use Rattle.state.specs.View.{view}
use Rattle.state.specs.Fit.{is_unfit}
use Rattle.promise.specs.declared.Done.{Done}
use Rattle.promise.specs.Promise.{Kept}
use Rattle.promise.proofs.Answers.{refuses}
use Rattle.promise.specs.Clauses.Answer.{quiet_done}

-- an answer that uses 0 bytes and writes 0
abbrev pub Quiet : Done → ℕ → State → Type 0
Quiet r k s = r ≡ quiet_done k s

module _ (table : List ℕ) (s : State) (values outbox : List ℕ) (e : Call) where
  abbrev number : ℕ
  number = call_number table (is_unfit (table_of table) s values) (view table s values) e

  -- the call's number is the first fault of these three
  pub record Numbered (l a b : ℕ) : Type 0 where
    pub is : number ≡ first_fault (l ∷ a ∷ b ∷ [])

  refused : {r : Done} {k : ℕ} → number ≡ k → k ≢ 0 → Quiet r k s → Kept table e s values outbox r values outbox
  refused {r} {k} h z q = subst (λ (x : Done). Kept table e s values outbox x values outbox) (sym q) (refuses table s values e outbox k h z)

  module _ {l a b : ℕ} (n : Numbered l a b) {k : ℕ} (lent : k ≡ l) where
    pub refused_lent : {r : Done} → k ≢ 0 → Quiet r k s → Kept table e s values outbox r values outbox
    refused_lent z q = refused (n.is ∙ first_fault_first l (a ∷ b ∷ []) (λ y. z (lent ∙ y)) ∙ sym lent) z q

    module _ (ok : k ≡ 0) where
      later : first_fault (l ∷ a ∷ b ∷ []) ≡ first_fault (a ∷ b ∷ [])
      unfolding first_fault
      later = rw (sym lent ∙ ok) refl

      pub refused_first : {r : Done} {j : ℕ} → a ≡ suc j → Quiet r (suc j) s → Kept table e s values outbox r values outbox
      unfolding first_fault
      refused_first f q = refused (n.is ∙ later ∙ rw f refl) (λ z. absurd (omega arith)) q

      pub refused_second : {r : Done} {j : ℕ} → a ≡ 0 → b ≡ suc j → Quiet r (suc j) s → Kept table e s values outbox r values outbox
      unfolding first_fault
      refused_second f g q = refused (n.is ∙ later ∙ rw (f, g) refl) (λ z. absurd (omega arith)) q

      pub not_refused : a ≡ 0 → b ≡ 0 → number ≡ 0
      unfolding first_fault
      not_refused f g = n.is ∙ later ∙ rw (f, g) refl
