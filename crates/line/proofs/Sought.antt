-- Laws of what a line's names find, and of the errors that come first. Assumes nothing.
use Rattle.std.specs.Prelude.{Option, Some, None}
use Prim.Native.Nat.{ℕ}
use mathlib.Core.Path.{◌≡◌, refl, sym, subst, ◌∙◌}
use mathlib.Core.Bool.{Bool, true, false, not, false≢true}
use mathlib.Core.List.{List}
use lib.Dec.{eqb}
use borrow.Author.Tests.{not-true, not-false}
use lib.ListN.{length}
use Rattle.ascii.specs.Bytes.{is_some}
use Rattle.ascii.specs.Names.{is_name}
use Rattle.table.specs.Table.{Parameter, Command, Table}
use Rattle.table.specs.Layout.{table_of}
use Rattle.table.specs.Search.{Placed, find_module, find_parameter, find_command}
use Rattle.table.specs.Clauses.At.{EditionIs}
use Rattle.table.specs.declared.layout.Part.{Part}
use Rattle.table.specs.declared.layout.ParameterAt.{ParameterAt}
use Rattle.table.specs.declared.layout.CommandAt.{CommandAt}
use Rattle.report.specs.Judge.{table_number}
use Rattle.search.specs.Clauses.Found.{FindsModule, ParameterLocated, CommandLocated, NothingLocated, Locates}
use Rattle.search.specs.declared.locate.Located as L
use Rattle.table.proofs.Search.{module_there, module_named_lem}
use Rattle.message.specs.Error as Error
use Rattle.message.specs.Clauses.Parsed.{switch_request, verb_request}
use Rattle.message.specs.Clauses.Said.{class_of}
use Rattle.message.specs.declared.say.Class.{Class}
use Rattle.message.specs.declared.say.Class.TheVariants as K
use Rattle.message.specs.declared.line.Verb.{Verb}
use Rattle.message.specs.declared.line.Switch.{Switch}
use Rattle.message.specs.declared.line.Switch.TheVariants.{On, Off}
use Rattle.plain.specs.Node.{Node}
use Rattle.plain.specs.Answer.{Outcome, denied, found, activates, deactivates, in_scope, reads, changes, checks, does, at_parameter, at_command, outcome}
use Rattle.sound.proofs.Lists.{each_at, there_low}
use Rattle.sound.proofs.Accepted.{GoodModule, accepted}
use Rattle.state.specs.declared.State.{State}
use Rattle.state.specs.View.{view}
use Rattle.outcome.specs.Clauses.Outcome.{IsDenied, OutcomeIs, ComesTo, Comes, OfParameter, OfCommand}
use Rattle.outcome.specs.declared.Outcome as Code
use Rattle.switch.specs.Clauses.Scoped.{Scoped}
use Rattle.switch.proofs.Switches.{few}
use Rattle.line.specs.Clauses.Asked.{missing_of, is_built}

-- ## Names

-- what is not found is denied; what is found goes on
none_found : {A : Type 0} (e : Error.Class) (o : Option A) (f : A → Outcome) → o ≡ None → found e o f ≡ denied (Error.class e)
unfolding found
none_found e o f z = rw z

some_found : {A : Type 0} (e : Error.Class) (o : Option A) (f : A → Outcome) (x : A) → o ≡ Some x → found e o f ≡ f x
unfolding found
some_found e o f x z = rw z

past : {A : Type 0} (e : Error.Class) (o : Option A) (x : Outcome) → is_some o ≡ true → found e o (λ _. x) ≡ x
unfolding found
past e None x h = absurd (false≢true h)
past e (Some a) x h = refl

module _ (s m a : List ℕ) where
  -- an accessible of the names, of a kind, which f is asked of
  module _ {A : Type 0} (e : Error.Class) (o : Option A) (f : A → Outcome) (h : is_some (find_module (table_of s) m) ≡ true) where
    abbrev asked : Outcome
    asked = found Error.NoSuchModule (find_module (table_of s) m) λ x. found e o f

    lacking : o ≡ None → asked ≡ denied (Error.class e)
    lacking z = past Error.NoSuchModule (find_module (table_of s) m) (found e o f) h ∙ none_found e o f z

    there : (x : A) → o ≡ Some x → asked ≡ f x
    there x z = past Error.NoSuchModule (find_module (table_of s) m) (found e o f) h ∙ some_found e o f x z

  -- what a verb takes is not there
  abbrev Lacks : Verb → Type 0
  Lacks Verb.Read = find_parameter (table_of s) m a ≡ None
  Lacks Verb.Change = find_parameter (table_of s) m a ≡ None
  Lacks Verb.Execute = find_command (table_of s) m a ≡ None
  Lacks Verb.Check = find_parameter (table_of s) m a ≡ None

  -- the errors, in their order
  module _ (v : Verb) (xs : List ℕ) (n : Node) (c t : ℕ) (before values : List ℕ) where
    abbrev DeniedWith : Class → Type 0
    DeniedWith e = IsDenied (table_of s) n c t before before values values (outcome (table_of s) n c t (verb_request v xs m a)) (denied (Error.class (class_of e)))

    -- first of all, that the edition doesn't have the verb, by the answer r
    pub unbuilt : (r : Bool) → r ≡ is_built (table_of s) v → not r ≡ true → DeniedWith K.ProtocolError
    unfolding outcome
    unbuilt r e z = record { is = go v (sym e ∙ not-true r z); quiet = refl; area = refl }
      where
        go : (v : Verb) → is_built (table_of s) v ≡ false → outcome (table_of s) n c t (verb_request v xs m a) ≡ denied (Error.class Error.ProtocolError)
        go Verb.Read b = absurd (false≢true (sym b))
        go Verb.Change b = absurd (false≢true (sym b))
        go Verb.Execute b = absurd (false≢true (sym b))
        go Verb.Check b = rw b

    module _ (b : is_built (table_of s) v ≡ true) where
      pub homeless : find_module (table_of s) m ≡ None → DeniedWith K.NoSuchModule
      unfolding outcome
      homeless z = record { is = go v b; quiet = refl; area = refl }
        where
          go : (v : Verb) → is_built (table_of s) v ≡ true → outcome (table_of s) n c t (verb_request v xs m a) ≡ denied (Error.class Error.NoSuchModule)
          go Verb.Read b = none_found Error.NoSuchModule (find_module (table_of s) m) _ z
          go Verb.Change b = none_found Error.NoSuchModule (find_module (table_of s) m) _ z
          go Verb.Execute b = none_found Error.NoSuchModule (find_module (table_of s) m) _ z
          go Verb.Check b = rw b (none_found Error.NoSuchModule (find_module (table_of s) m) _ z)

      pub lacks : is_some (find_module (table_of s) m) ≡ true → Lacks v → DeniedWith (missing_of v)
      unfolding outcome
      lacks h z = record { is = go v b z; quiet = refl; area = refl }
        where
          go : (v : Verb) → is_built (table_of s) v ≡ true → Lacks v
              → outcome (table_of s) n c t (verb_request v xs m a) ≡ denied (Error.class (class_of (missing_of v)))
          go Verb.Read b z = lacking Error.NoSuchParameter (find_parameter (table_of s) m a) (reads (table_of s) n c t) h z
          go Verb.Change b z = lacking Error.NoSuchParameter (find_parameter (table_of s) m a) (changes (table_of s) n c t xs) h z
          go Verb.Execute b z = lacking Error.NoSuchCommand (find_command (table_of s) m a) (does (table_of s) n c t xs) h z
          go Verb.Check b z = rw b (lacking Error.NoSuchParameter (find_parameter (table_of s) m a) (checks (table_of s) n c t xs) h z)

      pub nothing : NothingLocated s m a → DeniedWith (missing_of v)
      nothing l = lacks l.home (go v)
        where
          go : (v : Verb) → Lacks v
          go Verb.Read = l.parameter
          go Verb.Change = l.parameter
          go Verb.Execute = l.command
          go Verb.Check = l.parameter

  -- what is located is what the request is about
  module _ (k h : ℕ) where
    pub parameter_comes : (q : ParameterAt) → ParameterLocated s m a k h q → (st : State) (values before : List ℕ) (c t : ℕ) (o : Code.Outcome)
        (stored after : List ℕ) (f : Table → Node → ℕ → ℕ → ℕ × Placed Parameter → Outcome) → OfParameter s st values before c t o stored after m a f
        → ComesTo s st values before c t o stored after (λ w n c t. at_parameter w n c t m a (f w n c t))
    parameter_comes q l st values before c t o stored after f y =
        subst (λ (x : Outcome). OutcomeIs (table_of s) (view s st values) c t before after values stored o x)
        (sym (there Error.NoSuchParameter (find_parameter (table_of s) m a) (f (table_of s) (view s st values) c t) l.home _ l.parameter.is))
        (y _ l.parameter.is)

    pub command_comes : (q : CommandAt) → CommandLocated s m a k h q → (before : List ℕ) (c t : ℕ) (o : Code.Outcome)
        (after : List ℕ) (f : Table → Node → ℕ → ℕ → ℕ × Placed Command → Outcome) → OfCommand s before c t o after m a f → (n : Node) (values : List ℕ)
        → OutcomeIs (table_of s) n c t before after values values o (at_command (table_of s) n c t m a (f (table_of s) n c t))
    command_comes q l before c t o after f y n values =
        subst (λ (x : Outcome). OutcomeIs (table_of s) n c t before after values values o x)
        (sym (there Error.NoSuchCommand (find_command (table_of s) m a) (f (table_of s) n c t) l.home _ l.command.is))
        (y n values _ l.command.is)

-- ## The edition

module _ (s : List ℕ) (r : Option Part) (h : EditionIs s r) where
  pub edited : (p : Part) → r ≡ Some p → true ≡ is_some (table_of s).edition
  edited p z = rw (subst (EditionIs s) z h).is

  pub unedited : r ≡ None → false ≡ is_some (table_of s).edition
  unedited z = rw (subst (EditionIs s) z h)

module _ (w : Table) (v : Verb) where
  pub built_check : (r : Bool) → v ≡ Verb.Check → r ≡ is_some w.edition → r ≡ is_built w v
  built_check r z e = rw z e

  pub built : (r : Bool) → r ≡ is_built w v → not r ≡ false → is_built w v ≡ true
  built r e z = sym e ∙ not-false r z

-- what is located where the edition has the verb
pub located_built : (s m a : List ℕ) (l : L.Located) (v : Verb) → (is_built (table_of s) v ≡ true → Locates s m a l)
    → (r : Bool) → r ≡ is_built (table_of s) v → not r ≡ false → Locates s m a l
located_built s m a l v h r e z = h (built (table_of s) v r e z)

-- what is located, by its kind
module _ (s m a : List ℕ) (l : L.Located) (h : Locates s m a l) where
  pub located_parameter : (k i : ℕ) (q : ParameterAt) → l ≡ L.TheVariants.Parameter k i q → ParameterLocated s m a k i q
  located_parameter k i q z = subst (Locates s m a) z h

  pub located_command : (k i : ℕ) (q : CommandAt) → l ≡ L.TheVariants.Command k i q → CommandLocated s m a k i q
  located_command k i q z = subst (Locates s m a) z h

  module _ (v : Verb) (b : is_built (table_of s) v ≡ true) (xs : List ℕ) (n : Node) (c t : ℕ) (before values : List ℕ) where
    pub located_nowhere : l ≡ L.TheVariants.NoModule → DeniedWith s m a v xs n c t before values K.NoSuchModule
    located_nowhere z = homeless s m a v xs n c t before values b (subst (Locates s m a) z h)

    pub located_nothing : l ≡ L.TheVariants.Nothing → (e : Class) → e ≡ missing_of v → DeniedWith s m a v xs n c t before values e
    located_nothing z e y = rw y (nothing s m a v xs n c t before values b (subst (Locates s m a) z h))

-- ## Modules

-- what is done with the modules of a scope
abbrev switches : Switch → Table → Node → ℕ → ℕ → (ℕ → Bool) → Option (List ℕ) → Outcome
switches On w n c t = activates w n c t
switches Off w n c t = deactivates w n c t

module _ (s m : List ℕ) (r : Option (ℕ × ℕ)) (g : FindsModule s m r) where
  pub no_module : r ≡ None → (v : Switch) (n : Node) (c t : ℕ) (before values : List ℕ)
      → IsDenied (table_of s) n c t before before values values (outcome (table_of s) n c t (switch_request v (Some m))) (denied (Error.class Error.NoSuchModule))
  unfolding outcome in_scope
  no_module z On n c t before values =
      record { is = none_found Error.NoSuchModule (find_module (table_of s) m) _ (subst (FindsModule s m) z g); quiet = refl; area = refl }
  no_module z Off n c t before values =
      record { is = none_found Error.NoSuchModule (find_module (table_of s) m) _ (subst (FindsModule s m) z g); quiet = refl; area = refl }

  module _ (i at : ℕ) (z : r ≡ Some (i, at)) where
    pub module_scoped : table_number s ≡ 0 → Scoped (length (table_of s).modules) i m
    module_scoped e =
        let f = subst (FindsModule s m) z g in
        let there = module_there (table_of s) m (i, f.it) f.is in
        record {
          low = there_low (table_of s).modules i f.it there;
          named =
              subst (λ (x : List ℕ). is_name x ≡ true) (module_named_lem (table_of s) m (i, f.it) f.is)
              (each_at GoodModule (table_of s).modules (accepted s e).all_modules i f.it there).0;
        }

    pub module_low : table_number s ≡ 0 → Scoped 16 i m
    module_low e = record { low = few s e i m (module_scoped e); named = (module_scoped e).named }

    module_is : (v : Switch) (n : Node) (c t : ℕ)
        → switches v (table_of s) n c t (λ j. eqb j i) (Some m) ≡ outcome (table_of s) n c t (switch_request v (Some m))
    unfolding outcome in_scope
    module_is On n c t = sym (some_found Error.NoSuchModule (find_module (table_of s) m) _ _ (subst (FindsModule s m) z g).is)
    module_is Off n c t = sym (some_found Error.NoSuchModule (find_module (table_of s) m) _ _ (subst (FindsModule s m) z g).is)

    pub module_comes : (v : Switch) (st : State) (values before : List ℕ) (c t : ℕ) (o : Code.Outcome) (stored after : List ℕ)
        → ComesTo s st values before c t o stored after (λ w n c t. switches v w n c t (λ j. eqb j i) (Some m))
        → Comes s st values before c t o stored after (switch_request v (Some m))
    module_comes v st values before c t o stored after y =
        subst (λ (x : Outcome). OutcomeIs (table_of s) (view s st values) c t before after values stored o x) (module_is v (view s st values) c t) y
