-- Settings, one after another: what the state and the values area stand for is set so too, and stays fit. Assumes nothing.
use Rattle.std.specs.Prelude.{Some, slice_get}
use Prim.Native.Nat.{ℕ, ◌≤◌, ◌<◌}
use native.Mathlib.Omega.{arith}
use mathlib.Core.Bool.{false}
use mathlib.Core.List.{List, [], ◌∷◌}
use mathlib.Core.Path.{◌≡◌, refl, ap, ◌∙◌}
use lib.ListN.{length, length-set}
use lib.Seq.{length-sets}
use Rattle.ascii.specs.Numbers.{latest}
use Rattle.form.proofs.Stored.{short_stored, some_stored}
use Rattle.table.specs.Table.{Parameter, Table}
use Rattle.table.specs.Layout.{table_of}
use Rattle.table.specs.Search.{Placed, parameters}
use Rattle.message.specs.Error.{fault_number}
use Rattle.message.specs.Reply.{Held, valued, failed}
use Rattle.plain.specs.Node.{Node, Setting, holding, with_value, with_settings}
use Rattle.sound.specs.Theorems.{HeldFits}
use Rattle.sound.proofs.Lists.{there_low}
use Rattle.state.specs.declared.State.{State}
use Rattle.state.specs.View.{place_of, view, with_stored, with_held, with_setting, area_with, settings_with, next_settings}
use Rattle.state.specs.Fit.{settings_unfit}
use Rattle.state.proofs.Settled.{Sized, stored_fit, failed_fit}
use Rattle.state.proofs.Views.{value_view, fault_view}

-- a setting of a parameter that is there, to a stored form that fits it or to an error, at a time within the limit
pub record Settable (w : Table) (x : Setting) : Type 0 where
  pub it : Placed Parameter
  pub there : slice_get (parameters w) x.parameter ≡ Some it
  pub fits : HeldFits it.it x.held
  pub in_time : x.time ≤ latest

abbrev pub AllSettable : Table → List Setting → Type 0
AllSettable w [] = Unit {0}
AllSettable w (x ∷ xs) = Settable w x × AllSettable w xs

-- what one setting leaves
record OneSet (table : List ℕ) (s : State) (values : List ℕ) (k : ℕ) (h : Held) (t : ℕ) : Type 0 where
  sized : Sized (with_setting s.settings k h t)
  room : length (with_held values k h) ≡ length values
  node : view table (next_settings s (with_setting s.settings k h t)) (with_held values k h) ≡ with_value (view table s values) k (holding h t)
  fit : settings_unfit (with_setting s.settings k h t) (with_held values k h) 0 (parameters (table_of table)) ≡ false

-- what settings leave
pub record AllSet (table : List ℕ) (s : State) (values : List ℕ) (xs : List Setting) : Type 0 where
  pub node : view table (next_settings s (settings_with s.settings xs)) (area_with values xs) ≡ with_settings (view table s values) xs
  pub fit : settings_unfit (settings_with s.settings xs) (area_with values xs) 0 (parameters (table_of table)) ≡ false

module _ (table : List ℕ) (few : length (parameters (table_of table)) ≤ 64) where
  abbrev ps : List (Placed Parameter)
  ps = parameters (table_of table)

  one_set : (s : State) (values : List ℕ) → Sized s.settings → 16384 ≤ length values → settings_unfit s.settings values 0 ps ≡ false
      → (k t : ℕ) (p : Placed Parameter) → slice_get ps k ≡ Some p → t ≤ latest → (h : Held) → HeldFits p.it h → OneSet table s values k h t
  unfolding with_setting with_held with_stored
  one_set s values z room fit k t p there tm (valued v) i =
      let low : k < 64 = omega (arith, there_low ps k p there) in
      let long = some_stored p.it.datainfo v i in
      let short = short_stored p.it.datainfo v i in
      record {
        sized =
            record {
              size = length-set s.settings.length k (length v) ∙ z.size;
              error = length-set s.settings.error k 0 ∙ z.error;
              time = length-set s.settings.time k t ∙ z.time;
            };
        room = length-sets values (place_of k) v;
        node = value_view table s z values room k low v long short t fit p there;
        fit = stored_fit s.settings z values room k low v long short t ps fit p there i tm;
      }
  one_set s values z room fit k t p there tm (failed f) i =
      let low : k < 64 = omega (arith, there_low ps k p there) in
      record {
        sized =
            record {
              size = z.size;
              error = length-set s.settings.error k (fault_number f) ∙ z.error;
              time = length-set s.settings.time k t ∙ z.time;
            };
        room = refl;
        node = fault_view table s z values k low f t fit p there;
        fit = failed_fit s.settings z values k low f t ps fit p there tm;
      }

  pub all_set : (xs : List Setting) (s : State) (values : List ℕ) → Sized s.settings → 16384 ≤ length values
      → settings_unfit s.settings values 0 ps ≡ false → AllSettable (table_of table) xs → AllSet table s values xs
  unfolding area_with settings_with
  all_set [] s values z room fit h = record { node = refl; fit = fit }
  all_set (x ∷ xs) s values z room fit h =
      let o = one_set s values z room fit x.parameter x.time h.0.it h.0.there h.0.in_time x.held h.0.fits in
      let next : State = next_settings s (with_setting s.settings x.parameter x.held x.time) in
      let r = all_set xs next (with_held values x.parameter x.held) o.sized (rw o.room room) o.fit h.1 in
      record { node = r.node ∙ ap (λ (n : Node). with_settings n xs) o.node; fit = r.fit }
