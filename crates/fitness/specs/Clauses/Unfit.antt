-- What the code that judges one setting answers. Assumes nothing.
use Rattle.std.specs.Prelude.{ℕ, Bool, List, ◌≡◌, Option, Some}
use Rattle.datainfo.specs.Datainfo.{Datainfo}
use Rattle.table.specs.Table.{Parameter}
use Rattle.state.specs.declared.Settings.{Settings}
use Rattle.state.specs.Fit.{setting_unfit}

-- r says whether the setting of the parameter of number k is unfit, where o reads its datainfo
pub record TellsUnfit (s : Settings) (values : List ℕ) (k : ℕ) (o : Option (Datainfo × List ℕ)) (r : Bool) : Type 0 where
  pub is : (p : Parameter) {x : List ℕ} → o ≡ Some (p.datainfo, x) → r ≡ setting_unfit s values k p
