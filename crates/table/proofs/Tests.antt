-- Laws of what is asked of a table's records, one for each way through a function that asks it. Assumes nothing.
use Rattle.std.specs.Prelude.{Option, Some, None}
use Prim.Native.Nat.{ℕ}
use native.Mathlib.Omega.{arith}
use mathlib.Core.Path.{◌≡◌, refl, sym, ap, ◌∙◌}
use mathlib.Core.Bool.{Bool, true, false, not, ◌&&◌}
use mathlib.Core.List.{List}
use lib.ListN.{length, drop}
use borrow.Author.Tests.{not-true, not-false}
use Rattle.ascii.specs.Text.{bytes}
use Rattle.ascii.specs.Bytes.{◌>>=◌, all}
use Rattle.ascii.specs.Names.{is_text}
use Rattle.ascii.specs.Clauses.Reader.{Ends, rest}
use Rattle.datainfo.specs.Datainfo.{Datainfo}
use Rattle.datainfo.specs.Rules as Datainfo
use Rattle.datainfo.specs.Layout.{datainfo_in, datainfo_at, ReadableAt}
use Rattle.fit.specs.Fit.{is_stored}
use Rattle.table.specs.Table as Table
use Rattle.table.specs.Layout.{begins, argument_at, accessibles_at, module_at, modules_at}
use Rattle.table.specs.Rules.{if_any, accessible_names_good, rules_kept, initial_good}
use Rattle.table.specs.declared.layout.ParameterAt.{ParameterAt}
use Rattle.table.specs.declared.layout.CommandAt.{CommandAt}
use Rattle.table.specs.declared.layout.Accessible as A
use Rattle.table.specs.declared.judge.Test.{Test}
use Rattle.table.specs.declared.judge.Test.TheVariants.{Names, Rules, Initials}
use Rattle.table.specs.Clauses.At.{bytes_of, Inside, ArgumentReadable, accessible_begins, accessible_at, accessibles_from, parameter_of, command_of, AccessibleIs, modules_from}
use Rattle.table.specs.Clauses.Judged.{passed, text_passes, info_passes, value_passes, passes}
use Rattle.table.proofs.Accessibles.{in_some}
use Rattle.table.proofs.Enough.{before, accessibles_stop, accessibles_more, modules_stop, modules_more}

-- ## One accessible

module _ (test : Test) where
  pub text_names : (x : List ℕ) (r : Bool) → test ≡ Names → r ≡ is_text x → r ≡ text_passes test x
  unfolding text_passes
  text_names x r e h = rw e h

  pub text_rules : (x : List ℕ) → test ≡ Rules → true ≡ text_passes test x
  unfolding text_passes
  text_rules x e = rw e

  pub text_initials : (x : List ℕ) → test ≡ Initials → true ≡ text_passes test x
  unfolding text_passes
  text_initials x e = rw e

  pub info_names : (d : Datainfo) (r : Bool) → test ≡ Names → r ≡ Datainfo.names_good d → r ≡ info_passes test d
  unfolding info_passes
  info_names d r e h = rw e h

  pub info_rules : (d : Datainfo) (r : Bool) → test ≡ Rules → r ≡ Datainfo.rules_kept d → r ≡ info_passes test d
  unfolding info_passes
  info_rules d r e h = rw e h

  pub info_initials : (d : Datainfo) → test ≡ Initials → true ≡ info_passes test d
  unfolding info_passes
  info_initials d e = rw e

  pub value_names : (d : Datainfo) (x : List ℕ) → test ≡ Names → true ≡ value_passes test d x
  unfolding value_passes
  value_names d x e = rw e

  pub value_rules : (d : Datainfo) (x : List ℕ) → test ≡ Rules → true ≡ value_passes test d x
  unfolding value_passes
  value_rules d x e = rw e

  pub value_initials : (d : Datainfo) (x : List ℕ) (r : Bool) → test ≡ Initials → r ≡ is_stored d x → r ≡ value_passes test d x
  unfolding value_passes
  value_initials d x r e h = rw e h

-- a test that is asked only if the one before it passed
pub and_on : {t i v T I : Bool} → t ≡ T → t ≡ true → i ≡ I → v ≡ i → v ≡ (T && I)
and_on h e k z = z ∙ k ∙ rw (← h, e)

pub and_off : {t v T : Bool} (I : Bool) → t ≡ T → t ≡ false → v ≡ t → v ≡ (T && I)
and_off I h e z = z ∙ e ∙ rw (← h, e)

and-true : (b : Bool) → b ≡ (b && true)
and-true true = refl
and-true false = refl

passes_parameter : (test : Test) (p : Table.Parameter) → passes test (Table.parameter p) ≡ (text_passes test p.description && info_passes test p.datainfo && value_passes test p.datainfo p.initial)
unfolding passes text_passes info_passes value_passes accessible_names_good rules_kept initial_good
passes_parameter Names p = and-true _
passes_parameter Rules p = and-true _
passes_parameter Initials p = refl

passes_command : (test : Test) (c : Table.Command) → passes test (Table.command c) ≡ (text_passes test c.description && if_any (info_passes test) c.argument)
unfolding passes text_passes info_passes accessible_names_good rules_kept initial_good if_any
passes_command Names c = go c.argument
  where
    go : (a : Option Datainfo) → (is_text c.description && if_any Datainfo.names_good a) ≡ (is_text c.description && if_any (info_passes Names) a)
    go None = refl
    go (Some d) = refl
passes_command Rules c = go c.argument
  where
    go : (a : Option Datainfo) → if_any Datainfo.rules_kept a ≡ if_any (info_passes Rules) a
    go None = refl
    go (Some d) = refl
passes_command Initials c = go c.argument
  where
    go : (a : Option Datainfo) → true ≡ if_any (info_passes Initials) a
    go None = refl
    go (Some d) = refl

abbrev as_argument : Datainfo × List ℕ → Option Datainfo × List ℕ
as_argument p = (Some p.0, p.1)

module _ (s : List ℕ) (test : Test) (q : ParameterAt) (d : Datainfo) (v : Bool) (h : v ≡ (text_passes test (bytes_of s q.description) && info_passes test d)) where
  pub parameter_not : v ≡ false → v ≡ passes test (Table.parameter (parameter_of s q d))
  unfolding parameter_of
  parameter_not e = e ∙ rw (passes_parameter, ← h, e)

  pub parameter_all : (r : Bool) → v ≡ true → r ≡ value_passes test d (bytes_of s q.initial) → r ≡ passes test (Table.parameter (parameter_of s q d))
  unfolding parameter_of
  parameter_all r e k = rw (passes_parameter, ← h, e) k

module _ (s : List ℕ) (test : Test) (t : Bool) where
  module _ (q : CommandAt) (h : t ≡ text_passes test (bytes_of s q.description)) (a : Option Datainfo) (x : List ℕ) (g : argument_at q.argument (drop q.info s) ≡ Some (a, x)) where
    pub command_not : t ≡ false → t ≡ passes test (Table.command (command_of s q a))
    unfolding command_of
    command_not e = e ∙ rw (passes_command, ← h, e)

    pub command_without : t ≡ true → not q.argument ≡ true → not q.argument ≡ passes test (Table.command (command_of s q a))
    unfolding command_of argument_at if_any
    command_without e n =
        let i : ◌≡◌ {A = Option (Option Datainfo × List ℕ)} (Some (None, drop q.info s)) (Some (a, x)) = rw (not-true q.argument n) at g in
        let j : None ≡ a = ap (λ (y : Option Datainfo × List ℕ). y.0) (in_some i) in
        n ∙ rw (passes_command, ← h, e, ← j)

    pub command_with : (r : Bool) → t ≡ true → not q.argument ≡ false → ((d : Datainfo) (x : List ℕ) → datainfo_in 4 (drop q.info s) ≡ Some (d, x) → r ≡ info_passes test d) → r ≡ passes test (Table.command (command_of s q a))
    unfolding command_of argument_at if_any
    command_with r e n f = rw (passes_command, ← h, e) (go (datainfo_at (drop q.info s)) f (rw (not-false q.argument n) at g))
      where
        go : (o : Option (Datainfo × List ℕ)) → ((d : Datainfo) (x : List ℕ) → o ≡ Some (d, x) → r ≡ info_passes test d) → (o >>= λ p. Some (as_argument p)) ≡ Some (a, x) → r ≡ if_any (info_passes test) a
        go None f z = let y : ◌≡◌ {A = ℕ} 0 1 = cc in absurd (omega arith)
        go (Some p) f z = let y : Some p.0 ≡ a = ap (λ (y : Option Datainfo × List ℕ). y.0) (in_some z) in rw (← y) (f p.0 p.1 refl)

-- a declared argument is a datainfo
pub argument_readable : {s : List ℕ} {b : Bool} {at : ℕ} → ArgumentReadable s b at → b ≡ true → ReadableAt s at 4
unfolding argument_at
argument_readable {s} {b} {at} h e = go (datainfo_at (drop at s)) refl (rw e at h.is)
  where
    go : (o : Option (Datainfo × List ℕ)) → datainfo_at (drop at s) ≡ o → (o >>= λ p. Some (as_argument p)) ≡ Some (h.argument, h.left) → ReadableAt s at 4
    go None i z = let y : ◌≡◌ {A = ℕ} 0 1 = cc in absurd (omega arith)
    go (Some p) i z = record { within = h.within; datainfo = p.0; left = p.1; is = i }

module _ (s : List ℕ) (r : Option A.Accessible) (o : Option (Table.Accessible × List ℕ)) (h : AccessibleIs s r o) where
  module _ (q : ParameterAt) (e : r ≡ Some (A.TheVariants.Parameter q)) where
    pub parameter_text : Inside s q.description
    parameter_text = (rw e at h).description

    pub parameter_passes : (test : Test) (b : Bool) → ((d : Datainfo) (x : List ℕ) → datainfo_in 4 (drop q.info s) ≡ Some (d, x) → b ≡ passes test (Table.parameter (parameter_of s q d))) → b ≡ passed (passes test) o
    parameter_passes test b f = let x = rw e at h in rw x.is (f x.datainfo x.left x.info)

  module _ (q : CommandAt) (e : r ≡ Some (A.TheVariants.Command q)) where
    pub command_text : Inside s q.description
    command_text = (rw e at h).description

    pub command_passes : (test : Test) (b : Bool) → ((a : Option Datainfo) (x : List ℕ) → argument_at q.argument (drop q.info s) ≡ Some (a, x) → b ≡ passes test (Table.command (command_of s q a))) → b ≡ passed (passes test) o
    command_passes test b f = let x = rw e at h in rw x.is (f x.argument (drop q.next s) x.info)

  pub bad_passes : (test : Test) → r ≡ None → false ≡ passed (passes test) o
  bad_passes test e = rw (rw e at h)

-- ## All records that follow

pub and-false : (b : Bool) → (b && false) ≡ false
and-false true = refl
and-false false = refl

-- a record o, and those that follow it as f reads them
module _ {A : Type 0} (p : A → Bool) (f : List ℕ → Option (List A × List ℕ)) where
  pub all_before : (a : A) (o : Option (List A × List ℕ)) → passed (all p) (before a o) ≡ (p a && passed (all p) o)
  unfolding all
  all_before a None = sym (and-false (p a))
  all_before a (Some q) = refl

  all_bad : (o : Option (A × List ℕ)) → rest o ≡ None → false ≡ passed (all p) (o >>= λ a. before a.0 (f a.1))
  all_bad None h = refl
  all_bad (Some a) h = let z : ◌≡◌ {A = ℕ} 0 1 = cc in absurd (omega arith)

  all_fails : (o : Option (A × List ℕ)) (t : Bool) → t ≡ passed p o → not t ≡ true → false ≡ passed (all p) (o >>= λ a. before a.0 (f a.1))
  all_fails None t h n = refl
  all_fails (Some a) t h n = rw (all_before a.0 (f a.1), ← h, not-true t n)

  all_next : (o : Option (A × List ℕ)) (t : Bool) (r : List ℕ) → t ≡ passed p o → not t ≡ false → rest o ≡ Some r → passed (all p) (o >>= λ a. before a.0 (f a.1)) ≡ passed (all p) (f r)
  all_next None t r h n e = let z : ◌≡◌ {A = ℕ} 0 1 = cc in absurd (omega arith)
  all_next (Some a) t r h n e = let z : a.1 ≡ r = cc in rw (all_before a.0 (f a.1), ← h, not-false t n, z)

-- the accessibles from position i on
module _ (s : List ℕ) (p : Table.Accessible → Bool) (o : Bool) (i : ℕ) (e : o ≡ passed (all p) (accessibles_from s i)) (b : Bool) (hb : b ≡ accessible_begins (drop i s)) where
  pub accessibles_passed : b ≡ false → true ≡ o
  unfolding all
  accessibles_passed z = sym (e ∙ ap (passed (all p)) (accessibles_stop s i (sym hb ∙ z)))

  module _ (z : b ≡ true) (r : Option ℕ) (hr : Ends s r (rest (accessible_at (length s) (drop i s)))) where
    pub accessibles_unread : r ≡ None → false ≡ o
    accessibles_unread x = all_bad p (λ xs. accessibles_at (length s) (length xs) xs) (accessible_at (length s) (drop i s)) (rw x at hr) ∙ sym (e ∙ ap (passed (all p)) (accessibles_more s i (sym hb ∙ z)))

    pub accessibles_pass_on : (t : Bool) → t ≡ passed p (accessible_at (length s) (drop i s)) → not t ≡ false → (j : ℕ) → r ≡ Some j → o ≡ passed (all p) (accessibles_from s j)
    accessibles_pass_on t ht n j x = e ∙ ap (passed (all p)) (accessibles_more s i (sym hb ∙ z)) ∙ all_next p (λ xs. accessibles_at (length s) (length xs) xs) (accessible_at (length s) (drop i s)) t (drop j s) ht n (rw x at hr).0

  pub accessibles_failed : b ≡ true → (t : Bool) → t ≡ passed p (accessible_at (length s) (drop i s)) → not t ≡ true → false ≡ o
  accessibles_failed z t ht n = all_fails p (λ xs. accessibles_at (length s) (length xs) xs) (accessible_at (length s) (drop i s)) t ht n ∙ sym (e ∙ ap (passed (all p)) (accessibles_more s i (sym hb ∙ z)))

-- the modules from position i on
module _ (s : List ℕ) (p : Table.Module → Bool) (o : Bool) (i : ℕ) (e : o ≡ passed (all p) (modules_from s i)) (b : Bool) (hb : b ≡ begins (bytes "MO") (drop i s)) where
  pub modules_passed : b ≡ false → true ≡ o
  unfolding all
  modules_passed z = sym (e ∙ ap (passed (all p)) (modules_stop s i (sym hb ∙ z)))

  module _ (z : b ≡ true) (r : Option ℕ) (hr : Ends s r (rest (module_at (length s) (drop i s)))) where
    pub modules_unread : r ≡ None → false ≡ o
    modules_unread x = all_bad p (λ xs. modules_at (length s) (length xs) xs) (module_at (length s) (drop i s)) (rw x at hr) ∙ sym (e ∙ ap (passed (all p)) (modules_more s i (sym hb ∙ z)))

    pub modules_pass_on : (t : Bool) → t ≡ passed p (module_at (length s) (drop i s)) → not t ≡ false → (j : ℕ) → r ≡ Some j → o ≡ passed (all p) (modules_from s j)
    modules_pass_on t ht n j x = e ∙ ap (passed (all p)) (modules_more s i (sym hb ∙ z)) ∙ all_next p (λ xs. modules_at (length s) (length xs) xs) (module_at (length s) (drop i s)) t (drop j s) ht n (rw x at hr).0

  pub modules_failed : b ≡ true → (t : Bool) → t ≡ passed p (module_at (length s) (drop i s)) → not t ≡ true → false ≡ o
  modules_failed z t ht n = all_fails p (λ xs. modules_at (length s) (length xs) xs) (module_at (length s) (drop i s)) t ht n ∙ sym (e ∙ ap (passed (all p)) (modules_more s i (sym hb ∙ z)))
