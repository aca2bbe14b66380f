-- Laws of what is located, one for each way through a function. Assumes nothing.
use Rattle.std.specs.Prelude.{Option, Some, None}
use Prim.Native.Nat.{ℕ, ◌+◌, ◌-◌, ◌<◌}
use native.Mathlib.Omega.{arith}
use mathlib.Core.Path.{◌≡◌, sym, ap, ◌∙◌}
use mathlib.Core.Bool.{true, ◌&&◌}
use mathlib.Core.List.{List}
use Rattle.ascii.specs.Bytes.{same, is_some}
use Rattle.ascii.proofs.Lists.{both, same_is}
use Rattle.table.specs.Table.{Accessible}
use Rattle.table.specs.Layout.{table_of}
use Rattle.table.specs.Rules.{accessible_name}
use Rattle.table.specs.Search.{Placed, find_module}
use Rattle.table.specs.Clauses.At.{bytes_of, parameter_of, command_of}
use Rattle.table.specs.declared.layout.ParameterAt.{ParameterAt}
use Rattle.table.specs.declared.layout.CommandAt.{CommandAt}
use Rattle.table.proofs.Search.{first_passes}
use Rattle.report.specs.Judge.{table_number}
use Rattle.table.specs.declared.layout.Accessible as O
use Rattle.search.specs.declared.locate.Located as L
use Rattle.search.specs.Clauses.Left.{placed}
use Rattle.search.specs.Clauses.Found.{FindsModule, ParameterLocated, CommandLocated, NothingLocated, Locates}
use Rattle.index.specs.Among.{as_one}
use Rattle.index.specs.Accessibles.{accessibles, is_named, find_accessible, sought, seek_steps, parameter_in, command_in}
use Rattle.index.proofs.Accepted.{answers_stand, parameter_meant, command_meant, parameters_are_accessibles, commands_are_accessibles}
use Rattle.seek.specs.declared.walk.Walk.{Walk}
use Rattle.seek.specs.declared.look.Sought.{Sought}
use Rattle.seek.specs.Clauses.Walk.{There, ParameterThere, CommandThere}
use Rattle.seek.specs.Clauses.Seek.{FoundIs, Finds, Answers, Counted, located_as}
use Rattle.seek.proofs.Accepted.{accepted_names}

-- ## Counts of what is found

some_there : (s : List ℕ) (k : ℕ) (one : O.Accessible) (v : Walk) → There s k one v → Counted (Some (one, v))
some_there s k (O.TheVariants.Parameter q) v t = (t.begun, t.one.some_passed)
some_there s k (O.TheVariants.Command q) v t = (t.begun, t.one.some_passed)

some_found : (s : List ℕ) (f : Option (O.Accessible × Walk)) (o : Option (ℕ × Placed Accessible)) → Finds s f o → Counted f
some_found s (Some (one, v)) o h = some_there s h.number one v h.there
some_found s None o h = tt

pub sought_some : (s lent m a : List ℕ) (r : Sought) → Answers s r (sought (table_of s) lent m a) → Counted r.found
sought_some s lent m a r h = some_found s r.found _ h.finds

module _ (f : Option (O.Accessible × Walk)) (h : Counted f) (one : O.Accessible) (v : Walk) (z : f ≡ Some (one, v)) where
  pub some_home : 0 < v.cursor.modules
  some_home = go one (rw z at h)
    where
      go : (a : O.Accessible) → Counted (Some (a, v)) → 0 < v.cursor.modules
      go (O.TheVariants.Parameter q) x = x.0
      go (O.TheVariants.Command q) x = x.0

  module _ (q : ParameterAt) (y : one ≡ O.TheVariants.Parameter q) where
    pub some_parameter : 0 < v.parameters
    some_parameter = let x : Counted (Some (one, v)) = rw z at h in (rw y at x).1

    pub as_parameter : L.TheVariants.Parameter (v.parameters - 1) (v.cursor.modules - 1) q ≡ located_as f
    as_parameter = rw (z, y)

  module _ (q : CommandAt) (y : one ≡ O.TheVariants.Command q) where
    pub some_command : 0 < v.commands
    some_command = let x : Counted (Some (one, v)) = rw z at h in (rw y at x).1

    pub as_command : L.TheVariants.Command (v.commands - 1) (v.cursor.modules - 1) q ≡ located_as f
    as_command = rw (z, y)

-- ## What is found is located

module _ (s m a : List ℕ) (g : table_number s ≡ 0) (home : is_some (find_module (table_of s) m) ≡ true) where
  nothing : find_accessible (table_of s) m a ≡ None → NothingLocated s m a
  unfolding as_one
  nothing e =
      record {
        home = home;
        parameter = parameters_are_accessibles (table_of s) m a (accepted_names s g) ∙ rw e;
        command = commands_are_accessibles (table_of s) m a (accepted_names s g) ∙ rw e;
      }

  module _ (k : ℕ) (v : Walk) (it : Accessible) (e : find_accessible (table_of s) m a ≡ Some (k, placed s v.cursor it)) where
    abbrev at_home : {A : Type 0} → List ℕ → A → Placed A
    at_home name y = record { home = v.cursor.modules - 1; module_name = name; it = y }

    named : (same m (bytes_of s v.cursor.name) && same a (accessible_name it)) ≡ true
    unfolding find_accessible
    named = first_passes (is_named m a) (accessibles (table_of s)) (k, placed s v.cursor it) e

    module_name_lem : m ≡ bytes_of s v.cursor.name
    module_name_lem = same_is m (bytes_of s v.cursor.name) (both (same m (bytes_of s v.cursor.name)) (same a (accessible_name it)) named).0

    parameter_located : (q : ParameterAt) → ParameterThere s q v it → ParameterLocated s m a (v.parameters - 1) (v.cursor.modules - 1) q
    unfolding as_one command_in accessible_name parameter_of
    parameter_located q t =
        record {
          home = home;
          parameter =
              record {
                held = t.held;
                is =
                    parameter_meant (table_of s) m a (accepted_names s g) (v.parameters - 1) _ t.number (rw t.is at named)
                    ∙ ap (λ (x : List ℕ). Some (v.parameters - 1, at_home x (parameter_of s q t.held.datainfo))) (sym module_name_lem);
              };
          command = commands_are_accessibles (table_of s) m a (accepted_names s g) ∙ rw (e, t.is);
        }

    command_located :
        (q : CommandAt) → There s k (O.TheVariants.Command q) v → CommandThere s q v it
        → CommandLocated s m a (v.commands - 1) (v.cursor.modules - 1) q
    unfolding as_one parameter_in accessible_name command_of
    command_located q w t =
        let n : v.commands - 1 + 1 ≡ v.commands = omega (arith, t.some_passed) in
        record {
          home = home;
          parameter = parameters_are_accessibles (table_of s) m a (accepted_names s g) ∙ rw (e, t.is);
          command =
              record {
                held = t.held;
                is =
                    command_meant (table_of s) m a (accepted_names s g) (v.commands - 1) _ t.number (rw t.is at named)
                    ∙ ap (λ (x : List ℕ). Some (v.commands - 1, at_home x (command_of s q t.held.argument))) (sym module_name_lem);
                next = v.cursor;
                way = w.passed.way;
                at = w.next;
                home = let b = w.begun in omega arith;
                left = rw n w.passed.of_commands;
              };
        }

  one_located :
      (one : O.Accessible) (v : Walk) → FoundIs s one v (find_accessible (table_of s) m a) → Locates s m a (located_as (Some (one, v)))
  one_located (O.TheVariants.Parameter q) v f = parameter_located f.number v f.there.it f.is q f.there.one
  one_located (O.TheVariants.Command q) v f = command_located f.number v f.there.it f.is q f.there f.there.one

  found_located : (f : Option (O.Accessible × Walk)) → Finds s f (find_accessible (table_of s) m a) → Locates s m a (located_as f)
  found_located (Some (one, v)) h = one_located one v h
  found_located None h = nothing h

-- ## One law for each way

module _ (s lent m a : List ℕ) (g : table_number s ≡ 0) (r : Option (ℕ × ℕ)) (f : FindsModule s m r) where
  pub no_module : r ≡ None → find_module (table_of s) m ≡ None
  no_module z = rw z at f

  pub no_steps : r ≡ None → 0 ≡ seek_steps (table_of s) lent m a
  unfolding seek_steps
  no_steps z = rw (no_module z)

  module _ {n i : ℕ} (z : r ≡ Some (n, i)) (w : Sought) (h : Answers s w (sought (table_of s) lent m a)) where
    has_module : is_some (find_module (table_of s) m) ≡ true
    has_module = ap is_some (rw z at f).is

    pub is_located : (l : L.Located) → l ≡ located_as w.found → Locates s m a l
    is_located l e =
        let x : Finds s w.found (find_accessible (table_of s) m a) = rw (answers_stand (table_of s) lent m a (accepted_names s g)) at h.finds in
        rw e (found_located s m a g has_module w.found x)

    pub in_steps : w.steps ≡ seek_steps (table_of s) lent m a
    unfolding seek_steps
    in_steps = rw has_module h.steps
