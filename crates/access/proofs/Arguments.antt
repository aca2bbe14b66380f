-- A command's argument: the verdict on it, and whether one is declared. Assumes nothing.
use Rattle.std.specs.Prelude.{Option, Some, None, Result}
use Prim.Native.Nat.{ℕ}
use mathlib.Core.Path.{◌≡◌, refl, sym, ap, ◌∙◌}
use mathlib.Core.Bool.{Bool, true, false, false≢true}
use mathlib.Core.List.{List}
use Rattle.ascii.specs.Bytes.{◌>>=◌}
use Rattle.datainfo.specs.Datainfo.{Datainfo}
use Rattle.datainfo.specs.Layout.{datainfo_at}
use Rattle.fit.specs.Clauses.Verdict.{meaning, JudgesText}
use Rattle.table.specs.Layout.{argument_at}
use Rattle.table.proofs.Accessibles.{in_some}
use Rattle.table.proofs.Whole.{never}
use Rattle.plain.specs.Answer.{argument_verdict}
use Rattle.access.specs.Clauses.Argument.{JudgesArgument}
use Rattle.fit.specs.declared.Misfit.{Misfit}

-- ## The verdict

-- what `argument_at` makes of a datainfo
abbrev declared : Datainfo × List ℕ → Option (Option Datainfo × List ℕ)
declared p = Some (Some p.0, p.1)

module _ (xs text : List ℕ) (r : Result Unit Misfit) where
  pub judged : (b : Bool) → b ≡ true → JudgesText (datainfo_at xs) text r → JudgesArgument (argument_at b xs) text r
  unfolding argument_at argument_verdict
  judged false e h = absurd (false≢true e)
  judged true e h = record { is = λ {a} {x} i. go (datainfo_at xs) refl a x i }
    where
      go : (o : Option (Datainfo × List ℕ)) → datainfo_at xs ≡ o → (a : Option Datainfo) (x : List ℕ)
          → (o >>= declared) ≡ Some (a, x) → meaning r ≡ argument_verdict a text
      go None f a x i = absurd (never i)
      go (Some p) f a x i =
          let q : ◌≡◌ {A = Option Datainfo × List ℕ} (Some p.0, p.1) (a, x) = in_some i in
          h.is f ∙ ap (λ (y : Option Datainfo × List ℕ). argument_verdict y.0 text) q

  pub judged_null : (b : Bool) → b ≡ false → meaning r ≡ argument_verdict None text → JudgesArgument (argument_at b xs) text r
  unfolding argument_at
  judged_null true e h = absurd (false≢true (sym e))
  judged_null false e h =
      record {
        is = λ {a} {x} i.
            let q : ◌≡◌ {A = Option Datainfo × List ℕ} (None, xs) (a, x) = in_some i in
            h ∙ ap (λ (y : Option Datainfo × List ℕ). argument_verdict y.0 text) q;
      }

-- ## What is declared

-- no argument
pub none_declared : (b : Bool) (xs : List ℕ) → b ≡ false → {a : Option Datainfo} {x : List ℕ} → argument_at b xs ≡ Some (a, x) → a ≡ None
unfolding argument_at
none_declared true xs e i = absurd (false≢true (sym e))
none_declared false xs e {a} {x} i =
    let q : ◌≡◌ {A = Option Datainfo × List ℕ} (None, xs) (a, x) = in_some i in
    ap (λ (y : Option Datainfo × List ℕ). y.0) (sym q)

-- one, which is the datainfo that is read there
pub record Declared (xs : List ℕ) (a : Option Datainfo) (x : List ℕ) : Type 0 where
  pub datainfo : Datainfo
  pub is : a ≡ Some datainfo
  pub reads : datainfo_at xs ≡ Some (datainfo, x)

pub some_declared : (b : Bool) (xs : List ℕ) → b ≡ true → {a : Option Datainfo} {x : List ℕ} → argument_at b xs ≡ Some (a, x) → Declared xs a x
unfolding argument_at
some_declared false xs e i = absurd (false≢true e)
some_declared true xs e {a} {x} i = go (datainfo_at xs) refl i
  where
    go : (o : Option (Datainfo × List ℕ)) → datainfo_at xs ≡ o → (o >>= declared) ≡ Some (a, x) → Declared xs a x
    go None f i = absurd (never i)
    go (Some p) f i =
        let q : ◌≡◌ {A = Option Datainfo × List ℕ} (Some p.0, p.1) (a, x) = in_some i in
        record {
          datainfo = p.0;
          is = ap (λ (y : Option Datainfo × List ℕ). y.0) (sym q);
          reads = f ∙ ap (λ (y : List ℕ). Some (p.0, y)) (ap (λ (y : Option Datainfo × List ℕ). y.1) q);
        }
