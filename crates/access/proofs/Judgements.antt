-- What a change and a check come to, by how their data is judged: the same law for both. Assumes nothing.
use Rattle.std.specs.Prelude.{Result, Ok, Err}
use Prim.Native.Nat.{ℕ}
use mathlib.Core.Path.{◌≡◌, subst, ◌∙◌}
use mathlib.Core.Bool.{true}
use mathlib.Core.List.{List}
use lib.ListN.{drop}
use Rattle.datainfo.specs.Layout.{datainfo_at}
use Rattle.fit.specs.Fit as Fit
use Rattle.fit.specs.Fit.{is_fit, severity, stored_form}
use Rattle.form.specs.Clauses.Formed.{FitsAt}
use Rattle.table.specs.declared.layout.ParameterAt.{ParameterAt}
use Rattle.table.specs.Table.{Parameter}
use Rattle.table.specs.Search.{Placed}
use Rattle.message.specs.Error.{class}
use Rattle.message.specs.Clauses.Said.{class_of}
use Rattle.message.specs.declared.say.Class.{Class}
use Rattle.plain.specs.Answer.{Outcome, denied, let_in}
use Rattle.access.specs.Clauses.Whole.{judging_whole}
use Rattle.access.specs.Clauses.Judged.{Lets, JudgesChange}
use Rattle.access.proofs.Finding.{ParameterKnown}

module _ (s m a xs : List ℕ) (k h : ℕ) (q : ParameterAt) (p : ParameterKnown s m a k h q) (v : Result Unit Class)
    (j : JudgesChange (datainfo_at (drop q.info s)) q.readonly xs v) where
  lets : Lets q.readonly (Fit.verdict p.it.it.datainfo xs) v
  lets = j.is p.info

  -- whatever is done with what is let in
  module _ (f : ℕ × Placed Parameter → List ℕ → Outcome) where
    pub judged_denied : (e : Class) → v ≡ Err e → judging_whole f xs (k, p.it) ≡ denied (class (class_of e))
    unfolding judging_whole
    judged_denied e z = rw p.readonly (subst (Lets q.readonly (Fit.verdict p.it.it.datainfo xs)) z lets _)

    pub judged_let_in : v ≡ Ok tt → judging_whole f xs (k, p.it) ≡ f (k, p.it) (stored_form p.it.it.datainfo xs)
    unfolding judging_whole let_in
    judged_let_in z = let i = subst (Lets q.readonly (Fit.verdict p.it.it.datainfo xs)) z lets in rw (p.readonly ∙ i.0, i.1)

  module _ (z : v ≡ Ok tt) where
    pub judged_fits : is_fit (Fit.verdict p.it.it.datainfo xs) ≡ true
    unfolding is_fit severity
    judged_fits = let i = subst (Lets q.readonly (Fit.verdict p.it.it.datainfo xs)) z lets in rw i.1

    pub judged_fitting : FitsAt s q.info xs
    judged_fitting =
        record {
          reads = record { within = p.within; datainfo = p.it.it.datainfo; left = p.left; is = p.info };
          fits = judged_fits;
        }
