-- Laws of what follows from an outcome, one for each case. Assumes nothing.
use Rattle.std.specs.Prelude.{Option, Some, None}
use Prim.Native.Nat.{ℕ, ◌≤◌, ◌<◌}
use mathlib.Core.Path.{◌≡◌, sym, subst, ◌∙◌}
use mathlib.Core.List.{List}
use Rattle.ascii.specs.Text.{bytes}
use Rattle.message.specs.Error.{class, fault}
use Rattle.message.specs.Clauses.Said.{class_of, fault_as}
use Rattle.message.specs.declared.say.Class.{Class}
use Rattle.message.specs.declared.say.Fault.{Fault}
use Rattle.plain.specs.Answer.{busy}
use Rattle.state.specs.declared.Bare.{Bare}
use Rattle.state.specs.declared.Settings.{Settings}
use Rattle.state.specs.View.{with_length, with_setting, settings_with}
use Rattle.outcome.specs.Clauses.Outcome.{status_settings}
use Rattle.outcome.specs.declared.Outcome.{Outcome}
use Rattle.outcome.specs.declared.Outcome.TheVariants.{Denied, Unreadable, Sent, Active, Stored}
use Rattle.outcome.specs.declared.Answered.{Answered}
use Rattle.line.specs.Clauses.Concluded.{Deniable, StatusNumbered, Concludable, Denies, Passes, Switches, Sets, Concludes}

module _ (out action specifier : List ℕ) (came : Outcome) where
  pub may_deny : (e : Class) → came ≡ Denied e → Concludable out action specifier came → Deniable out action specifier
  may_deny e h k = subst (Concludable out action specifier) h k

  pub may_deny_read : (f : Fault) (since : ℕ) → came ≡ Unreadable f since → Concludable out action specifier came → Deniable out action specifier
  may_deny_read f since h k = subst (Concludable out action specifier) h k

  pub may_store : (f : Option (ℕ × ℕ)) (k size written : ℕ) → came ≡ Stored f k size written → Concludable out action specifier came
      → StatusNumbered f × ((k < 64) × (size ≤ 256))
  may_store f k size written h i = subst (Concludable out action specifier) h i

-- ## A status that is set first

module _ (f : Option (ℕ × ℕ)) where
  pub busy_low : (k h : ℕ) → f ≡ Some (k, h) → StatusNumbered f → k < 64
  busy_low k h e l = subst StatusNumbered e l

  pub no_settings_lem : (s : Settings) (t : ℕ) → f ≡ None → s ≡ settings_with s (status_settings f t)
  unfolding settings_with
  no_settings_lem s t e = rw e

  -- with the length of its text
  pub busy_settings_lem : (s : Settings) (t k h : ℕ) → f ≡ Some (k, h) → (r : Settings) → r ≡ with_length s k 22 t → r ≡ settings_with s (status_settings f t)
  unfolding settings_with with_setting busy bytes
  busy_settings_lem s t k h e r i = i ∙ rw e

-- ## What is concluded

module _ {before after : List ℕ} {s : Bare} {c t : ℕ} {r : Answered} (action specifier : List ℕ) (came : Outcome) where
  pub denies : {e : Class} → came ≡ Denied e → Denies before after s c t r action specifier (class (class_of e)) → Concludes before after s c t r action specifier came
  denies h d = subst (Concludes before after s c t r action specifier) (sym h) d

  pub denies_read : {f : Fault} {since : ℕ} → came ≡ Unreadable f since → Denies before after s c t r action specifier (fault (fault_as f) since)
      → Concludes before after s c t r action specifier came
  denies_read h d = subst (Concludes before after s c t r action specifier) (sym h) d

  pub passes : {written : ℕ} → came ≡ Sent written → Passes before after s c t r written → Concludes before after s c t r action specifier came
  passes h d = subst (Concludes before after s c t r action specifier) (sym h) d

  pub switches : {mask written : ℕ} → came ≡ Active mask written → Switches before after s c t r mask written → Concludes before after s c t r action specifier came
  switches h d = subst (Concludes before after s c t r action specifier) (sym h) d

  pub stores : {f : Option (ℕ × ℕ)} {k size written : ℕ} → came ≡ Stored f k size written → Sets before after s c t r f k size written
      → Concludes before after s c t r action specifier came
  stores h d = subst (Concludes before after s c t r action specifier) (sym h) d
