-- Laws of judging settings, one for each way through a function that judges. Assumes nothing.
use Rattle.std.specs.Prelude.{Option, Some, None}
use Prim.Native.Nat.{ℕ, suc, ◌+◌, ◌*◌, ◌-◌, ◌≤◌, ◌<◌}
use native.Mathlib.Numerals.{add-one}
use native.Mathlib.Omega.{arith}
use mathlib.Core.Bool.{Bool, true, false, not, ◌||◌, or-true, or-false}
use mathlib.Core.List.{List, []}
use mathlib.Core.Path.{◌≡◌, refl, sym, ap, ◌∙◌}
use lib.ListN.{length, get_or, take, drop}
use borrow.Author.Tests.{ne_eqb, lt-ltb, le-ltb}
use Rattle.ascii.specs.Bytes.{any}
use Rattle.ascii.specs.Numbers.{latest}
use Rattle.datainfo.specs.Datainfo.{Datainfo}
use Rattle.datainfo.specs.Layout.{datainfo_at, ReadableAt}
use Rattle.fit.specs.Clauses.Verdict.{TellsStored}
use Rattle.table.specs.Layout.{table_of}
use Rattle.table.specs.Search.{parameters_of, parameters}
use Rattle.table.specs.Clauses.At.{parameter_of}
use Rattle.table.specs.declared.layout.ParameterAt.{ParameterAt}
use Rattle.search.specs.declared.cursor.Cursor.{Cursor}
use Rattle.search.specs.Clauses.Left.{OnWay, FirstCursor, NextParameterIs}
use Rattle.search.proofs.Finds.{Counted, counted_parameters, number_end, number_is_lem, number_on}
use Rattle.report.specs.Judge.{table_number}
use Rattle.plain.specs.Node.{client_numbers}
use Rattle.sound.proofs.Accepted.{accepted}
use Rattle.state.specs.declared.Settings.{Settings}
use Rattle.state.specs.declared.State.{State}
use Rattle.state.specs.View.{stored_text}
use Rattle.state.specs.Fit.{setting_unfit, settings_unfit, client_unfit, is_unfit}
use Rattle.fitness.specs.Clauses.Unfit.{TellsUnfit}
use Rattle.fitness.proofs.Whole.{drop_there, past_64}

-- ## One setting

module _ (s : Settings) (values : List ℕ) (k : ℕ) (o : Option (Datainfo × List ℕ)) where
  pub too_long : 256 < get_or s.length k 0 → TellsUnfit s values k o true
  unfolding setting_unfit
  too_long h = record { is = λ p e. rw (lt-ltb 256 (get_or s.length k 0) h) }

  module _ (h : get_or s.length k 0 ≤ 256) where
    pub too_late : latest < get_or s.time k 0 → TellsUnfit s values k o true
    unfolding setting_unfit
    too_late l = record { is = λ p e. rw (le-ltb 256 (get_or s.length k 0) h, lt-ltb latest (get_or s.time k 0) l, or-true) }

    pub no_class_lem : 4 < get_or s.error k 0 → TellsUnfit s values k o true
    unfolding setting_unfit
    no_class_lem l = record { is = λ p e. rw (lt-ltb 4 (get_or s.error k 0) l, or-true) }

    module _ (l : get_or s.time k 0 ≤ latest) (c : get_or s.error k 0 ≤ 4) where
      pub never_set : get_or s.length k 0 ≡ 0 → TellsUnfit s values k o false
      unfolding setting_unfit
      never_set z = record { is = λ p e. rw (le-ltb latest (get_or s.time k 0) l, le-ltb 4 (get_or s.error k 0) c, z) }

      pub is_set : (get_or s.length k 0 ≡ 0 → ⊥) → (b : Bool)
          → TellsStored o (take ((256 * k + get_or s.length k 0) - 256 * k) (drop (256 * k) values)) b → TellsUnfit s values k o (not b)
      unfolding setting_unfit stored_text
      is_set z b t =
          let n : (256 * k + get_or s.length k 0) - 256 * k ≡ get_or s.length k 0 = omega arith in
          record {
            is = λ p e.
                rw (le-ltb 256 (get_or s.length k 0) h, le-ltb latest (get_or s.time k 0) l, le-ltb 4 (get_or s.error k 0) c, ne_eqb (get_or s.length k 0) 0 z, or-false, or-false)
                (rw n at (ap not (t.is e)));
          }

-- ## All settings

-- the first k settings are fit, and the cursor c is past their parameters
pub record Passed (table values : List ℕ) (s : Settings) (k : ℕ) (c : Cursor) : Type 0 where
  pub counted : Counted parameters_of parameters table k c
  pub is : settings_unfit s values 0 (parameters (table_of table)) ≡ settings_unfit s values k (drop k (parameters (table_of table)))

module _ (table values : List ℕ) (s : Settings) where
  pub passed_start : (c : Cursor) → FirstCursor table c → Passed table values s 0 c
  passed_start c f = record { counted = counted_parameters table c f; is = refl }

  module _ (k : ℕ) (c : Cursor) (h : Passed table values s k c) where
    pub passed_way : OnWay table c
    passed_way = h.counted.way

    none_left : drop k (parameters (table_of table)) ≡ [] → false ≡ settings_unfit s values 0 (parameters (table_of table))
    unfolding settings_unfit
    none_left e = sym (h.is ∙ ap (settings_unfit s values k) e)

    pub passed_all : table_number table ≡ 0 → 64 ≤ k → false ≡ settings_unfit s values 0 (parameters (table_of table))
    passed_all a l = none_left (past_64 table a k l)

    module _ (r : Option (ParameterAt × Cursor)) (hr : NextParameterIs table c r) where
      pub passed_end : r ≡ None → false ≡ settings_unfit s values 0 (parameters (table_of table))
      passed_end z = none_left (number_end table k k c h.counted r hr z)

      module _ (q : ParameterAt) (e : Cursor) (z : r ≡ Some (q, e)) where
        pub info_readable : ReadableAt table q.info 4
        info_readable = let x = (rw z at hr).held in record { within = x.info_within; datainfo = x.datainfo; left = x.left; is = x.info }

        module _ (b : Bool) (t : TellsUnfit s values k (datainfo_at (drop q.info table)) b) where
          step : settings_unfit s values 0 (parameters (table_of table)) ≡ b || settings_unfit s values (k + 1) (drop (k + 1) (parameters (table_of table)))
          unfolding settings_unfit parameter_of
          step =
              let n = number_is_lem table k k c h.counted r hr q e z refl in
              let p = parameter_of table q n.held.datainfo in
              let i = drop_there k (parameters (table_of table)) _ n.is in
              h.is ∙ ap (settings_unfit s values k) i
              ∙ ap (λ (d : Bool). d || settings_unfit s values (suc k) (drop (k + 1) (parameters (table_of table)))) (sym (t.is p n.held.info))
              ∙ ap (λ (j : ℕ). b || settings_unfit s values j (drop (k + 1) (parameters (table_of table)))) (sym (add-one k))

          pub one_unfit : b ≡ true → true ≡ settings_unfit s values 0 (parameters (table_of table))
          one_unfit y = sym (step ∙ rw y)

          pub passed_on : b ≡ false → Passed table values s (k + 1) e
          passed_on y = record { counted = number_on table k k c h.counted r hr q e z; is = step ∙ rw y }

-- ## A state

-- the code judges the clients first
module _ (table values : List ℕ) (s : State) (m : ℕ) (i : m ≡ length (table_of table).modules) (b : Bool) (h : b ≡ any (client_unfit m s.clients) client_numbers) where
  pub clients_make : b ≡ true → true ≡ is_unfit (table_of table) s values
  unfolding is_unfit
  clients_make e = rw (← i, ← h, e, or-true)

  pub settings_make : b ≡ false → (r : Bool) → r ≡ settings_unfit s.settings values 0 (parameters (table_of table)) → r ≡ is_unfit (table_of table) s values
  unfolding is_unfit
  settings_make e r j = rw (← i, ← h, e, or-false) j

pub few_counted : (table : List ℕ) → table_number table ≡ 0 → (m : ℕ) → m ≡ length (table_of table).modules → m ≤ 16
few_counted table a m e = let f = (accepted table a).few_modules in omega arith
