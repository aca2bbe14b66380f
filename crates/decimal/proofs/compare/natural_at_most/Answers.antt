-- `decimal::compare::natural_at_most` meets its contract: where the upper halves differ, they decide. Assumes nothing.
use Rattle.std.specs.Ordering.{partial_le}
use Prim.Native.Nat.{suc, ◌^◌, ◌<◌}
use native.Mathlib.Omega.{arith}
use mathlib.Core.Path.{◌≡◌, refl, sym}
use mathlib.Core.Bool.{Bool, true, false}
use lib.Dec.{leb, eqb}
use borrow.Author.Tests.{le-leb, lt-leb, leb-true, leb-false, eqb-true, eqb-false}
use Rattle.decimal.specs.declared.compare.Natural.{Natural}
use Rattle.decimal.specs.contracts.compare.NaturalPartialOrd.TheImpl as Of
use Rattle.decimal.specs.Clauses.Exact.{value}
use Rattle.decimal.proofs.compare.natural_at_most.Goals as goal

by_halves : (a b : Natural) → a.low < 10 ^ 16 → b.low < 10 ^ 16 → partial_le Of.partial_cmp-value.it a b ≡ leb (value a) (value b)
by_halves a b la lb = go _ _ _ _ refl refl refl refl
  where
    go : (p q r s : Bool) → leb (suc a.high) b.high ≡ p → eqb a.high b.high ≡ q → leb (suc a.low) b.low ≡ r → eqb a.low b.low ≡ s
        → partial_le Of.partial_cmp-value.it a b ≡ leb (value a) (value b)
    go true q r s e f g h = let k = leb-true (suc a.high) b.high e in simp e (sym (le-leb (value a) (value b) (omega arith)))
    go false true true s e f g h = let j = eqb-true a.high b.high f in let k = leb-true (suc a.low) b.low g in simp (e, f, g) (sym (le-leb (value a) (value b) (omega arith)))
    go false true false true e f g h = let j = eqb-true a.high b.high f in let k = eqb-true a.low b.low h in simp (e, f, g, h) (sym (le-leb (value a) (value b) (omega arith)))
    go false true false false e f g h =
        let j = eqb-true a.high b.high f in let k = leb-false (suc a.low) b.low g in let l = eqb-false a.low b.low h in
        simp (e, f, g, h) (sym (lt-leb (value a) (value b) (omega arith)))
    go false false r s e f g h =
        let k = leb-false (suc a.high) b.high e in let l = eqb-false a.high b.high f in
        simp (e, f) (sym (lt-leb (value a) (value b) (omega arith)))

pub returns : goal.returns
returns c = rw c.le.ensures (by_halves c.args.a c.args.b c.requires.0 c.requires.1)
