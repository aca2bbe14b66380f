-- What is proved of the figures: what is kept, setting by setting, tells the line of all settings. Assumes nothing.
use Rattle.std.specs.Prelude.{true, List, [], ◌∷◌, ◌++◌, ◌≡◌, ℕ}
use Rattle.datainfo.specs.Datainfo.{Datainfo}
use Rattle.fit.specs.Fit.{is_stored}
use Rattle.figures.specs.Figures.{is_summed, figure_line}
use Rattle.figures.specs.Clauses.Tally.{no_settings, noted, mark_of, Tallies, tally_line}
use Rattle.figures.specs.declared.Tally.{Tally}

pub record FiguresAreExact : Type 0 where
  -- before the first setting, after one more to a text that fits and is in stored form, and at the end
  pub start : (d : Datainfo) → Tallies d [] no_settings
  pub more : (d : Datainfo) (vs : List (List ℕ)) (t : Tally) → Tallies d vs t → (v : List ℕ) → is_stored d v ≡ true
      → Tallies d (vs ++ (v ∷ [])) (noted t (mark_of d v))
  pub told : (m p : List ℕ) (d : Datainfo) (vs : List (List ℕ)) (t : Tally) → Tallies d vs t → tally_line m p (is_summed d) t ≡ figure_line m p d vs
