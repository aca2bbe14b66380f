-- Accepted tables with the same structure report judge alike. Assumes nothing.
use Rattle.std.specs.Prelude.{Option, Some, None}
use Prim.Native.Nat.{ℕ, suc}
use mathlib.Core.Bool.{Bool, true, false, cond, ◌&&◌}
use mathlib.Core.List.{List, [], ◌∷◌, ◌++◌, map, map-map, map-append}
use mathlib.Core.Path.{◌≡◌, refl, sym, ◌∙◌, ap, ap₂}
use Rattle.ascii.specs.Bytes.{same}
use Rattle.datainfo.specs.Datainfo.{Datainfo}
use Rattle.fit.specs.Fit.{fit, verdict, stored_form, change_verdict, change_form}
use Rattle.table.specs.Table.{Parameter, Command, Accessible, parameter, command, Module, Table}
use Rattle.table.specs.Search.{Placed, parameters_of, commands_of, placed_from, parameters, commands, first_from, first, find_parameter, find_command}
use Rattle.report.specs.Theorems.{enforced_datainfo, enforced_argument, enforced_parameter, enforced_command, enforced_accessible, enforced_module, enforced, parameter_says, argument_says, command_says, JudgeAlike, ReportsTellVerdicts}
use Rattle.report.proofs.Kept.{fit_kept, verdict_kept, stored_form_kept, change_kept, form_kept}
use Rattle.report.proofs.Told.{reports_tell}

-- ## What is found in an enforced table

parameters_enforced : (l : List Accessible) → parameters_of (map enforced_accessible l) ≡ map enforced_parameter (parameters_of l)
unfolding parameters_of enforced_accessible
parameters_enforced [] = refl
parameters_enforced (parameter p ∷ l) = ap (λ ps. enforced_parameter p ∷ ps) (parameters_enforced l)
parameters_enforced (command c ∷ l) = parameters_enforced l

commands_enforced : (l : List Accessible) → commands_of (map enforced_accessible l) ≡ map enforced_command (commands_of l)
unfolding commands_of enforced_accessible
commands_enforced [] = refl
commands_enforced (parameter p ∷ l) = commands_enforced l
commands_enforced (command c ∷ l) = ap (λ cs. enforced_command c ∷ cs) (commands_enforced l)

module _ {A : Type 0} (of : List Accessible → List A) (g : A → A) where
  -- with g done to what was placed
  abbrev within : Placed A → Placed A
  within p = record { home = p.home; module_name = p.module_name; it = g p.it }

  placed_enforced : ((l : List Accessible) → of (map enforced_accessible l) ≡ map g (of l)) → (n : ℕ) (ms : List Module)
      → placed_from of n (map enforced_module ms) ≡ map within (placed_from of n ms)
  unfolding placed_from enforced_module
  placed_enforced h n [] = refl
  placed_enforced h n (m ∷ ms) =
      let place : A → Placed A = λ a. record { home = n; module_name = m.name; it = a } in
      let these : map place (of (map enforced_accessible m.accessibles)) ≡ map within (map place (of m.accessibles)) =
      ap (map place) (h m.accessibles) ∙ map-map place g (of m.accessibles) ∙ sym (map-map within place (of m.accessibles)) in
      ap₂ (λ (x y : List (Placed A)). x ++ y) these (placed_enforced h (suc n) ms)
      ∙ sym (map-append within (map place (of m.accessibles)) (placed_from of (suc n) ms))

-- what was found, with g done to it
module _ {A : Type 0} (g : A → A) where
  done : Option (ℕ × A) → Option (ℕ × A)
  done None = None
  done (Some x) = Some (x.0, g x.1)

  -- the first that passes a test to which g makes no difference
  first_done : (p : A → Bool) → ((x : A) → p (g x) ≡ p x) → (n : ℕ) (l : List A) → first_from p n (map g l) ≡ done (first_from p n l)
  unfolding first_from done
  first_done p h n [] = refl
  first_done p h n (x ∷ l) = go (p x) refl (first_done p h (suc n) l)
    where
      go : (b : Bool) → p x ≡ b → first_from p (suc n) (map g l) ≡ done (first_from p (suc n) l)
          → cond (p (g x)) (Some (n, g x)) (first_from p (suc n) (map g l)) ≡ done (cond (p x) (Some (n, x)) (first_from p (suc n) l))
      go true e k = rw (h x, e)
      go false e k = rw (h x, e) k

abbrev bare_parameter : Placed Parameter → Placed Parameter
bare_parameter = within parameters_of enforced_parameter

abbrev bare_command : Placed Command → Placed Command
bare_command = within commands_of enforced_command

-- ## What is said of it

-- f says the same of a parameter's datainfo that is enforced
module _ {A : Type 0} (f : Datainfo → A) (h : (d : Datainfo) → f (enforced_datainfo true d) ≡ f d) where
  parameter_same : (o : Option (ℕ × Placed Parameter)) → parameter_says f (done bare_parameter o) ≡ parameter_says f o
  unfolding done parameter_says
  parameter_same None = refl
  parameter_same (Some x) = rw (h x.1.it.datainfo)

  parameter_says_lem : (m a : List ℕ) (t : Table) → parameter_says f (find_parameter (enforced t) m a) ≡ parameter_says f (find_parameter t m a)
  unfolding find_parameter first parameters enforced
  parameter_says_lem m a t =
      let p : Placed Parameter → Bool = λ x. same m x.module_name && same a x.it.name in
      ap (λ l. parameter_says f (first_from p 0 l)) (placed_enforced parameters_of enforced_parameter parameters_enforced 0 t.modules)
      ∙ ap (parameter_says f) (first_done bare_parameter p (λ x. refl) 0 (parameters t)) ∙ parameter_same (first_from p 0 (parameters t))

  parameter_alike : (m a : List ℕ) (t u : Table) → enforced t ≡ enforced u → parameter_says f (find_parameter t m a) ≡ parameter_says f (find_parameter u m a)
  parameter_alike m a t u e = sym (parameter_says_lem m a t) ∙ ap (λ w. parameter_says f (find_parameter w m a)) e ∙ parameter_says_lem m a u

-- and of an argument's
module _ {A : Type 0} (f : Datainfo → A) (h : (d : Datainfo) → f (enforced_datainfo false d) ≡ f d) where
  argument_same : (o : Option Datainfo) → argument_says f (enforced_argument o) ≡ argument_says f o
  unfolding argument_says enforced_argument
  argument_same None = refl
  argument_same (Some d) = rw (h d)

  command_same : (o : Option (ℕ × Placed Command)) → command_says f (done bare_command o) ≡ command_says f o
  unfolding done command_says
  command_same None = refl
  command_same (Some x) = rw (argument_same x.1.it.argument)

  command_says_lem : (m a : List ℕ) (t : Table) → command_says f (find_command (enforced t) m a) ≡ command_says f (find_command t m a)
  unfolding find_command first commands enforced
  command_says_lem m a t =
      let p : Placed Command → Bool = λ x. same m x.module_name && same a x.it.name in
      ap (λ l. command_says f (first_from p 0 l)) (placed_enforced commands_of enforced_command commands_enforced 0 t.modules)
      ∙ ap (command_says f) (first_done bare_command p (λ x. refl) 0 (commands t)) ∙ command_same (first_from p 0 (commands t))

  command_alike : (m a : List ℕ) (t u : Table) → enforced t ≡ enforced u → command_says f (find_command t m a) ≡ command_says f (find_command u m a)
  command_alike m a t u e = sym (command_says_lem m a t) ∙ ap (λ w. command_says f (find_command w m a)) e ∙ command_says_lem m a u

judge_alike : (t u : Table) → enforced t ≡ enforced u → JudgeAlike t u
judge_alike t u e = record {
  parameter_fit = λ m a v. parameter_alike (λ d. fit d v) (λ d. fit_kept true d v) m a t u e;
  command_fit = λ m a v. command_alike (λ d. fit d v) (λ d. fit_kept false d v) m a t u e;
  parameter_verdict = λ m a xs. parameter_alike (λ d. verdict d xs) (λ d. verdict_kept true d xs) m a t u e;
  parameter_stored = λ m a xs. parameter_alike (λ d. stored_form d xs) (λ d. stored_form_kept true d xs) m a t u e;
  parameter_change = λ m a xs shown. parameter_alike (λ d. change_verdict shown d xs) (λ d. change_kept shown d xs) m a t u e;
  parameter_form = λ m a xs shown. parameter_alike (λ d. change_form shown d xs) (λ d. form_kept shown d xs) m a t u e;
  command_verdict = λ m a xs. command_alike (λ d. verdict d xs) (λ d. verdict_kept false d xs) m a t u e;
  command_form = λ m a xs. command_alike (λ d. stored_form d xs) (λ d. stored_form_kept false d xs) m a t u e;
}

pub reports_tell_verdicts : ReportsTellVerdicts
reports_tell_verdicts t u e f r = judge_alike t u (reports_tell t u e f r)
