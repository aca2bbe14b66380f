-- Parameters and commands that are found in an accepted table. Assumes nothing.
use Rattle.std.specs.Prelude.{Some, slice_get}
use Prim.Native.Nat.{ℕ, ◌-◌, ◌≤◌, ◌<◌}
use native.Mathlib.Omega.{arith}
use mathlib.Core.Path.{◌≡◌, refl, sym, subst, ◌∙◌}
use mathlib.Core.Bool.{true}
use mathlib.Core.List.{List}
use lib.ListN.{length, take, drop, length-drop}
use lib.Seq.{length-take-le}
use Rattle.ascii.specs.Names.{is_name}
use Rattle.datainfo.specs.Layout.{datainfo_at, ReadableAt}
use Rattle.form.specs.Theorems.{InTable}
use Rattle.table.specs.Table.{Parameter, Command}
use Rattle.table.specs.Layout.{argument_at, table_of}
use Rattle.table.specs.Search.{Placed, parameters, commands, find_parameter, find_command}
use Rattle.table.specs.Clauses.At.{bytes_of, Inside, ArgumentReadable, parameter_of, command_of}
use Rattle.table.specs.declared.layout.ParameterAt.{ParameterAt}
use Rattle.table.specs.declared.layout.CommandAt.{CommandAt}
use Rattle.table.proofs.Accessibles.{in_some}
use Rattle.table.proofs.Search.{parameter_there, parameter_named, command_there, command_named, parameter_home}
use Rattle.report.specs.Judge.{table_number}
use Rattle.search.specs.Clauses.Found.{ParameterFound, CommandFound}
use Rattle.sound.proofs.Lists.{each_at, there_low}
use Rattle.sound.proofs.Accepted.{GoodParameter, GoodCommand, accepted, datainfos_in_table}

-- ## Commands

-- command k of an accepted table, whose names are m and a, and of which q has the positions
pub record CommandKnown (s m a : List ℕ) (k : ℕ) (q : CommandAt) : Type 0 where
  pub it : Placed Command
  pub is : find_command (table_of s) m a ≡ Some (k, it)
  pub low : k < 64
  pub module_named : it.module_name ≡ m
  pub named : it.it.name ≡ a
  pub good_module : is_name m ≡ true
  pub good_name : is_name a ≡ true
  pub left : List ℕ
  pub argument : argument_at q.argument (drop q.info s) ≡ Some (it.it.argument, left)
  pub within : q.info ≤ length s

pub argument_known : {s m a : List ℕ} {k : ℕ} {q : CommandAt} → CommandKnown s m a k q → ArgumentReadable s q.argument q.info
argument_known p = record { within = p.within; argument = p.it.it.argument; left = p.left; is = p.argument }

-- what holds of it holds of whatever the names find
pub the_command : {s m a : List ℕ} {k : ℕ} {q : CommandAt} (p : CommandKnown s m a k q) (P : ℕ × Placed Command → Type 0)
    → P (k, p.it) → (x : ℕ × Placed Command) → find_command (table_of s) m a ≡ Some x → P x
the_command p P y x e = subst P (in_some (sym p.is ∙ e)) y

module _ (s : List ℕ) (e : table_number s ≡ 0) (m a : List ℕ) (k h : ℕ) (q : CommandAt) (g : CommandFound s m a k h q) where
  pub command_known : CommandKnown s m a k q
  unfolding command_of
  command_known =
      let it : Placed Command = record { home = h; module_name = m; it = command_of s q g.held.argument } in
      let is = g.is in
      let there = command_there (table_of s) m a (k, it) is in
      let named = command_named (table_of s) m a (k, it) is in
      let w = accepted s e in
      let few = w.few_commands in
      let names = each_at GoodCommand (commands (table_of s)) w.all_commands k it there in
      record {
        it = it;
        is = is;
        low = omega (arith, there_low (commands (table_of s)) k it there);
        module_named = refl;
        named = named.1;
        good_module = names.0;
        good_name = subst (λ (x : List ℕ). is_name x ≡ true) named.1 names.1;
        left = g.held.left;
        argument = g.held.info;
        within = g.held.info_within;
      }

-- ## Parameters

-- parameter k of an accepted table, of the module of number h, whose names are m and a, and of which q has the positions
pub record ParameterKnown (s m a : List ℕ) (k h : ℕ) (q : ParameterAt) : Type 0 where
  pub it : Placed Parameter
  pub is : find_parameter (table_of s) m a ≡ Some (k, it)
  pub there : slice_get (parameters (table_of s)) k ≡ Some it
  pub low : k < 64
  pub home : it.home ≡ h
  pub home_low : h < 16
  pub module_named : it.module_name ≡ m
  pub named : it.it.name ≡ a
  pub good_module : is_name m ≡ true
  pub good_name : is_name a ≡ true
  pub readonly : it.it.readonly ≡ q.readonly
  pub left : List ℕ
  pub info : datainfo_at (drop q.info s) ≡ Some (it.it.datainfo, left)
  pub in_table : InTable it.it.datainfo
  pub within : q.info ≤ length s
  pub inside : Inside s q.initial
  pub initial : take (length it.it.initial) (drop it.it.place s) ≡ bytes_of s q.initial

pub info_known : {s m a : List ℕ} {k h : ℕ} {q : ParameterAt} → ParameterKnown s m a k h q → ReadableAt s q.info 4
info_known p = record { within = p.within; datainfo = p.it.it.datainfo; left = p.left; is = p.info }

pub the_parameter : {s m a : List ℕ} {k h : ℕ} {q : ParameterAt} (p : ParameterKnown s m a k h q) (P : ℕ × Placed Parameter → Type 0)
    → P (k, p.it) → (x : ℕ × Placed Parameter) → find_parameter (table_of s) m a ≡ Some x → P x
the_parameter p P y x e = subst P (in_some (sym p.is ∙ e)) y

take_itself : (n : ℕ) (xs : List ℕ) → n ≤ length xs → take (length (take n xs)) xs ≡ take n xs
take_itself n xs h = let e : length (take n xs) ≡ n = length-take-le n xs h in rw e

module _ (s : List ℕ) (e : table_number s ≡ 0) (m a : List ℕ) (k h : ℕ) (q : ParameterAt) (g : ParameterFound s m a k h q) where
  pub parameter_known : ParameterKnown s m a k h q
  unfolding parameter_of bytes_of parameters
  parameter_known =
      let it : Placed Parameter = record { home = h; module_name = m; it = parameter_of s q g.held.datainfo } in
      let is = g.is in
      let there = parameter_there (table_of s) m a (k, it) is in
      let named = parameter_named (table_of s) m a (k, it) is in
      let w = accepted s e in
      let few = w.few in
      let few_modules = w.few_modules in
      let names = (each_at GoodParameter (parameters (table_of s)) w.all_parameters k it there).0 in
      let inside = g.held.initial in
      let order = inside.order in
      let within = inside.within in
      record {
        it = it;
        is = is;
        there = there;
        low = omega (arith, there_low (parameters (table_of s)) k it there);
        home = refl;
        home_low = omega (arith, parameter_home (table_of s) k it there);
        module_named = refl;
        named = named.1;
        good_module = names.0;
        good_name = subst (λ (x : List ℕ). is_name x ≡ true) named.1 names.1;
        readonly = refl;
        in_table = datainfos_in_table.of_parameters s e k it there;
        left = g.held.left;
        info = g.held.info;
        within = g.held.info_within;
        inside = inside;
        initial = take_itself (q.initial.to - q.initial.from) (drop q.initial.from s) (rw length-drop (omega arith));
      }
