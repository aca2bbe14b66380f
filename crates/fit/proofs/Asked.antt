-- What an Option was, from what `ok_or(WrongType)` made of it and which way the `?` after it took. Assumes nothing.
use Rattle.std.specs.Prelude.{Option, Some, None, Result, Ok, Err}
use Rattle.std.specs.Option.{ok_or, is_some}
use mathlib.Core.Bool.{Bool, true, false}
use mathlib.Core.Path.{◌≡◌, refl, sym, ◌∙◌}
use Rattle.fit.specs.declared.Misfit.{Misfit}
use Rattle.fit.specs.declared.Misfit.TheVariants.{WrongType}

pub was_none : {A : Type 0} {o : Option A} {r : Result A Misfit} {y : Misfit} → r ≡ ok_or o WrongType → r ≡ Err y → o ≡ None
was_none {A} {o} {r} {y} e h = go o (sym h ∙ e)
  where
    go : (o : Option A) → Err y ≡ ok_or o WrongType → o ≡ None
    go None e = refl
    go (Some a) e = cc

pub was_some : {A : Type 0} {o : Option A} {r : Result A Misfit} {a : A} → r ≡ ok_or o WrongType → r ≡ Ok a → o ≡ Some a
was_some {A} {o} {r} {a} e h = go o (sym h ∙ e)
  where
    go : (o : Option A) → Ok a ≡ ok_or o WrongType → o ≡ Some a
    go None e = cc
    go (Some a) e = cc

pub was_wrong : {A : Type 0} (o : Option A) {r : Result A Misfit} {y : Misfit} → r ≡ ok_or o WrongType → r ≡ Err y → y ≡ WrongType
was_wrong {A} o {r} {y} e h = go o (sym h ∙ e)
  where
    go : (o : Option A) → Err y ≡ ok_or o WrongType → y ≡ WrongType
    go None e = cc
    go (Some a) e = cc

-- ## What `is_some` tells

pub not_some : {A : Type 0} (o : Option A) (b : Bool) → b ≡ is_some o → b ≡ false → o ≡ None
not_some None b e h = refl
not_some (Some a) b e h = cc

pub some_at : {A S : Type 0} (o : Option A) (b : Bool) → b ≡ is_some o → b ≡ true → ((a : A) → o ≡ Some a → S) → S
some_at None b e h f = cc
some_at (Some a) b e h f = f a refl
