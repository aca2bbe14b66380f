-- The value that a parameter shows, one law for each way through the code. Assumes nothing.
use Rattle.std.specs.Prelude.{Option, Some, None, slice_get}
use Prim.Native.Nat.{ℕ, zero, suc, ◌*◌, ◌-◌, ◌≤◌, ◌<◌}
use native.Mathlib.Omega.{arith}
use borrow.Author.Tests.{ne_eqb, eqb-true, eqb-false}
use mathlib.Core.Bool.{Bool, true, false, cond, false≢true}
use mathlib.Core.List.{List, []}
use mathlib.Core.Logic.{◌≢◌}
use mathlib.Core.Path.{◌≡◌, refl, sym, subst, ◌∙◌}
use lib.Dec.{eqb}
use lib.ListN.{length, get_or, take, drop, length-drop}
use lib.Seq.{length-take-le}
use Rattle.table.specs.Layout.{table_of, Readable}
use Rattle.table.specs.Table.{Parameter}
use Rattle.table.specs.Search.{Placed, parameters}
use Rattle.table.specs.Clauses.At.{bytes_of, parameter_of}
use Rattle.table.specs.declared.layout.Part.{Part}
use Rattle.table.specs.declared.layout.ParameterAt.{ParameterAt}
use Rattle.ascii.specs.Bytes.{is_some}
use Rattle.message.specs.Error.{Fault, fault_of}
use Rattle.message.specs.Reply.{held_as}
use Rattle.report.specs.Judge.{first_fault}
use Rattle.search.specs.declared.cursor.Cursor.{Cursor}
use Rattle.search.specs.Clauses.Left.{placed}
use Rattle.search.specs.Clauses.Found.{ParameterNumbered, NumberedParameter}
use Rattle.state.specs.declared.Settings.{Settings}
use Rattle.state.specs.declared.State.{State}
use Rattle.state.specs.View.{stored_text, shown, value_at, view}
use Rattle.state.proofs.Settled as Settled
use Rattle.promise.specs.declared.Shown.{Shown}
use Rattle.promise.specs.Clauses.Lent.{lent_number}
use Rattle.promise.specs.Shown.{value_number, not_shown, part_of, error_of, shown_of, shown_at, value_shown, held_in, Shows}
use Rattle.promise.proofs.Numbers.{Good, good}
use Rattle.promise.proofs.Clients.{fit_parts}
use Rattle.node.specs.Clauses.Part.{part_shown, held_shown}
use Rattle.report.proofs.Faults.{first_fault_first, accepted_readable}
use Rattle.rack.proofs.Readings.{parameter_at_lem, none_past, none_found}

-- ## The part

-- the answers of the code
module _ (s : Settings) (k : ℕ) (initial : Part) where
  abbrev size : ℕ
  size = get_or s.length k 0

  pub part_initial : size ≡ 0
      → record { number = 0; stored = 0; error = 0; from = initial.from; size = initial.to - initial.from; time = get_or s.time k 0 } ≡ part_shown s k initial
  unfolding part_shown
  part_initial h = rw h refl

  pub part_stored : (size ≡ 0 → ⊥) → record { number = 0; stored = 1; error = 0; from = 256 * k; size = size; time = get_or s.time k 0 } ≡ part_shown s k initial
  unfolding part_shown
  part_stored h = rw (ne_eqb size 0 h) refl

  pub held_part : {r : Shown} → get_or s.error k 0 ≡ 0 → r ≡ part_shown s k initial → r ≡ held_shown s k initial
  unfolding held_shown
  held_part h q = rw h q

  pub held_error : (get_or s.error k 0 ≡ 0 → ⊥) → error_of s k ≡ held_shown s k initial
  unfolding held_shown
  held_error h = rw (ne_eqb (get_or s.error k 0) 0 h) refl

-- a class's number is one of four
class_known : (e : ℕ) → (e ≡ 0 → ⊥) → e ≤ 4 → is_some (fault_of e) ≡ true
unfolding fault_of
class_known zero n h = absurd (n refl)
class_known (suc zero) n h = refl
class_known (suc (suc zero)) n h = refl
class_known (suc (suc (suc zero))) n h = refl
class_known (suc (suc (suc (suc zero)))) n h = refl
class_known (suc (suc (suc (suc (suc e))))) n h = absurd (omega arith)

-- where one is known, a text is not looked at
fault_alone : (o : Option Fault) → is_some o ≡ true → (v x : List ℕ) → held_as o v ≡ held_as o x
fault_alone None h v x = absurd (false≢true h)
fault_alone (Some f) h v x = refl

-- ## The call

module _ (table values : List ℕ) (s : State) (k : ℕ) where
  abbrev Refuses : Shown → ℕ → Type 0
  Refuses r n = r ≡ not_shown n

  refused : {r : Shown} {n : ℕ} → n ≡ value_number table values s k → n ≢ 0 → Refuses r n → Shows table values s k r
  unfolding value_shown
  refused {r} {n} h z q =
      subst (Shows table values s k) (sym q)
      (record { is = rw (← h, ne_eqb n 0 z) refl; within = λ y. absurd (z y); held = λ y. absurd (z y); time = λ y. absurd (z y) })

  module _ (n : ℕ) (lent : n ≡ lent_number table values false [] s 0) where
    pub value_lent : {r : Shown} → n ≢ 0 → Refuses r n → Shows table values s k r
    unfolding value_number
    value_lent z q = refused (lent ∙ sym (first_fault_first (lent_number table values false [] s 0) _ (λ y. z (lent ∙ y)))) z q

    module _ (ok : n ≡ 0) where
      none_lent : lent_number table values false [] s 0 ≡ 0
      none_lent = sym lent ∙ ok

      abbrev known : Good table s values false [] 0
      known = good table s values false [] 0 none_lent

      pub value_table : Readable table
      value_table = accepted_readable table known.accepted

      no_parameter : {r : Shown} → slice_get (parameters (table_of table)) k ≡ None → Refuses r 14 → Shows table values s k r
      unfolding value_number first_fault
      no_parameter e q = refused (rw (none_lent, e) refl) (λ z. absurd (omega arith)) q

      pub value_past : {r : Shown} → 63 < k → Refuses r 14 → Shows table values s k r
      value_past h q = no_parameter (none_past table known.accepted k h) q

      module _ (p : Option (ParameterAt × Cursor)) (f : NumberedParameter table k p) where
        pub value_none : {r : Shown} → p ≡ None → Refuses r 14 → Shows table values s k r
        value_none e q = no_parameter (none_found table known.accepted k p f e) q

        module _ (at : ParameterAt) (c : Cursor) (e : p ≡ Some (at, c)) where
          found : ParameterNumbered table k at c
          found = parameter_at_lem table k p f at c e

          pub value_part : at.initial.from ≤ at.initial.to
          value_part = found.held.initial.order

          -- ### What the plain node shows

          abbrev it : Placed Parameter
          it = placed table c (parameter_of table at found.held.datainfo)

          there : slice_get (parameters (table_of table)) k ≡ Some it
          there = found.is

          is_number : 0 ≡ value_number table values s k
          unfolding value_number first_fault
          is_number = rw (none_lent, there) refl

          abbrev held : ℕ
          held = get_or s.settings.length k 0

          abbrev class : ℕ
          class = get_or s.settings.error k 0

          fit : Settled.Fit held (stored_text s.settings values k) (get_or s.settings.time k 0) class it
          fit =
              Settled.fit_parts s.settings values k it
              (Settled.each_fit s.settings values (parameters (table_of table)) (fit_parts (table_of table) s values known.fit).0 k it there)

          short : held ≤ 256
          short = fit.short

          initial_size : length (bytes_of table at.initial) ≡ at.initial.to - at.initial.from
          unfolding bytes_of
          initial_size = let within = found.held.initial.within in length-take-le _ _ (rw length-drop (omega arith))

          abbrev text_of : Bool → List ℕ
          text_of b = cond b (take (at.initial.to - at.initial.from) (drop at.initial.from table)) (take held (drop (256 * k) values))

          held_is : ((view table s values).values k).held ≡ held_as (fault_of class) (text_of (eqb held 0))
          unfolding view value_at shown stored_text parameter_of
          held_is = rw (there, initial_size) refl

          time_is : ((view table s values).values k).time ≡ get_or s.settings.time k 0
          unfolding view value_at
          time_is = rw there refl

          -- ### The part, where there is no error

          shows_initial : eqb class 0 ≡ true → eqb held 0 ≡ true
              → Shows table values s k (record { number = 0; stored = 0; error = 0; from = at.initial.from; size = at.initial.to - at.initial.from; time = get_or s.settings.time k 0 })
          unfolding held_in value_shown shown_at shown_of part_of parameter_of
          shows_initial i z =
              let order = found.held.initial.order in
              let within = found.held.initial.within in
              record {
                is = rw (← is_number, there, i, z, initial_size) refl;
                within = λ y. omega arith;
                held = λ y. sym (held_is ∙ rw (eqb-true class 0 i, z) refl);
                time = λ y. sym time_is;
              }

          shows_stored : k ≤ 63 → eqb class 0 ≡ true → eqb held 0 ≡ false
              → Shows table values s k (record { number = 0; stored = 1; error = 0; from = 256 * k; size = held; time = get_or s.settings.time k 0 })
          unfolding held_in value_shown shown_at shown_of part_of
          shows_stored low i z =
              let area = known.area in
              let few = short in
              record {
                is = rw (← is_number, there, i, z) refl;
                within = λ y. omega arith;
                held = λ y. sym (held_is ∙ rw (eqb-true class 0 i, z) refl);
                time = λ y. sym time_is;
              }

          -- ### The error

          shows_error : eqb class 0 ≡ false → Shows table values s k (error_of s.settings k)
          unfolding held_in value_shown shown_at shown_of
          shows_error i =
              record {
                is = rw (← is_number, there, i) refl;
                within = λ y. omega arith;
                held = λ y. fault_alone (fault_of class) (class_known class (eqb-false class 0 i) fit.class) _ (text_of (eqb held 0)) ∙ sym held_is;
                time = λ y. sym time_is;
              }

          part_is_shown : k ≤ 63 → eqb class 0 ≡ true → Shows table values s k (part_shown s.settings k at.initial)
          unfolding part_shown
          part_is_shown low i = go (eqb held 0) refl
            where
              go : (b : Bool) → eqb held 0 ≡ b
                  → Shows table values s k
                  (cond b (record { number = 0; stored = 0; error = 0; from = at.initial.from; size = at.initial.to - at.initial.from; time = get_or s.settings.time k 0 })
                  (record { number = 0; stored = 1; error = 0; from = 256 * k; size = held; time = get_or s.settings.time k 0 }))
              go true z = shows_initial i z
              go false z = shows_stored low i z

          is_shown : k ≤ 63 → Shows table values s k (held_shown s.settings k at.initial)
          unfolding held_shown
          is_shown low = go (eqb class 0) refl
            where
              go : (b : Bool) → eqb class 0 ≡ b → Shows table values s k (cond b (part_shown s.settings k at.initial) (error_of s.settings k))
              go true i = part_is_shown low i
              go false i = shows_error i

          pub value_found : {r : Shown} → k ≤ 63 → r ≡ held_shown s.settings k at.initial → Shows table values s k r
          value_found low q = subst (Shows table values s k) (sym q) (is_shown low)
