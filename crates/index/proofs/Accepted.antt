-- The theorems about an index beside a table that is accepted. Assumes nothing.
use Rattle.std.specs.Prelude.{Option, Some, None, slice_get}
use Prim.Native.Nat.{ℕ, suc, ◌+◌, ◌≤◌}
use native.Mathlib.Omega.{arith}
use mathlib.Core.Path.{◌≡◌, refl, sym, ap, ap₂, ◌∙◌}
use mathlib.Core.Bool.{Bool, true, false, cond, ◌&&◌}
use mathlib.Core.List.{List, [], ◌∷◌, ◌++◌, map}
use lib.Dec.{leb, ltb}
use lib.ListN.{length, take, length-map, length-append}
use lib.Seq.{length-take-le, take_at}
use borrow.Author.Tests.{leb-true, ltb-false, le-ltb}
use Rattle.ascii.specs.Bytes.{same, is_some}
use Rattle.datainfo.specs.Rules.{is_between}
use Rattle.hash.specs.Hash.{start_place}
use Rattle.hash.proofs.Hashes.{start_low}
use Rattle.table.specs.Table.{Parameter, Command, Accessible, parameter, command, Module, Table}
use Rattle.table.specs.Rules.{accessible_name, accessible_count, counts_good, names_good}
use Rattle.table.specs.Search.{Placed, parameters_of, commands_of, placed_from, parameters, commands, first, find_module, find_parameter, find_command}
use Rattle.index.specs.Search.{walked, searched}
use Rattle.index.specs.Among.{with_if, only, as_one}
use Rattle.index.specs.Accessibles.{accessibles, is_named, find_accessible, start_of, index_of, sought, seek_steps}
use Rattle.index.specs.Accessibles.{parameter_in, command_in, placed_as, placed_one}
use Rattle.index.specs.Theorems.{Served}
use Rattle.index.specs.Accepted.{Quick}
use Rattle.index.proofs.Fills.{filled_length}
use Rattle.table.proofs.Accessibles.{in_some}
use Rattle.table.proofs.Whole.{never}
use Rattle.index.proofs.Searches.{first_meant, walked_first, searched_first, walked_few, searched_few, filled_served}
use Rattle.index.proofs.Among.{only_found, first_only}
use Rattle.ascii.proofs.Lists.{both}
use Rattle.index.proofs.Named.{place, named_is, accessibles_unique}

-- ## Parameters and commands among accessibles

module _ {A B : Type 0} (kind : A → Option B) where
  only_append : (xs ys : List A) → only kind (xs ++ ys) ≡ only kind xs ++ only kind ys
  unfolding only
  only_append [] ys = refl
  only_append (x ∷ xs) ys = rw (only_append xs ys) (go (kind x))
    where
      go : (o : Option B) → with_if kind o (only kind xs ++ only kind ys) ≡ with_if kind o (only kind xs) ++ only kind ys
      go None = refl
      go (Some y) = refl

module _ {A : Type 0} (one : Accessible → Option A) where
  only_placed : (n : ℕ) (m : Module) (l : List Accessible) → only (placed_one one) (map (place n m) l) ≡ map (place n m) (only one l)
  unfolding only
  only_placed n m [] = refl
  only_placed n m (x ∷ l) = rw (only_placed n m l) (go (one x))
    where
      go : (o : Option A) → with_if (placed_one one) (placed_as one (place n m x) o) (map (place n m) (only one l)) ≡ map (place n m) (with_if one o (only one l))
      go None = refl
      go (Some y) = refl

  placed_only :
      (of : List Accessible → List A) → ((l : List Accessible) → of l ≡ only one l) → (n : ℕ) (ms : List Module)
      → placed_from of n ms ≡ only (placed_one one) (placed_from (λ xs. xs) n ms)
  unfolding placed_from only
  placed_only of e n [] = refl
  placed_only of e n (m ∷ ms) =
      ap₂ ◌++◌ (ap (map (place n m)) (e m.accessibles) ∙ sym (only_placed n m m.accessibles)) (placed_only of e (suc n) ms)
      ∙ sym (only_append (placed_one one) (map (place n m) m.accessibles) (placed_from (λ xs. xs) (suc n) ms))

parameters_only : (l : List Accessible) → parameters_of l ≡ only parameter_in l
unfolding parameters_of only parameter_in
parameters_only [] = refl
parameters_only (parameter p ∷ l) = ap (λ (ps : List Parameter). p ∷ ps) (parameters_only l)
parameters_only (command c ∷ l) = parameters_only l

commands_only : (l : List Accessible) → commands_of l ≡ only command_in l
unfolding commands_of only command_in
commands_only [] = refl
commands_only (parameter p ∷ l) = commands_only l
commands_only (command c ∷ l) = ap (λ (cs : List Command). c ∷ cs) (commands_only l)

-- a parameter has the names of its accessible, and so has a command
module _ (m a : List ℕ) where
  abbrev is_parameter : Placed Parameter → Bool
  is_parameter y = same m y.module_name && same a y.it.name

  abbrev is_command : Placed Command → Bool
  is_command y = same m y.module_name && same a y.it.name

  parameter_alike : (x : Placed Accessible) (y : Placed Parameter) → placed_one parameter_in x ≡ Some y → is_parameter y ≡ is_named m a x
  unfolding parameter_in accessible_name
  parameter_alike x y e = go x.it refl e
    where
      go : (b : Accessible) → x.it ≡ b → placed_as parameter_in x (parameter_in b) ≡ Some y → is_parameter y ≡ is_named m a x
      go (parameter p) z e =
          let q = in_some e in
          ap is_parameter (sym q)
          ∙ ap (λ (b : Accessible). same m x.module_name && same a (accessible_name b)) (sym z)
      go (command c) z e = absurd (never e)

  command_alike : (x : Placed Accessible) (y : Placed Command) → placed_one command_in x ≡ Some y → is_command y ≡ is_named m a x
  unfolding command_in accessible_name
  command_alike x y e = go x.it refl e
    where
      go : (b : Accessible) → x.it ≡ b → placed_as command_in x (command_in b) ≡ Some y → is_command y ≡ is_named m a x
      go (parameter p) z e = absurd (never e)
      go (command c) z e =
          let q = in_some e in
          ap is_command (sym q)
          ∙ ap (λ (b : Accessible). same m x.module_name && same a (accessible_name b)) (sym z)

-- one that has the names is the one that is found
pub parameter_meant :
    (t : Table) (m a : List ℕ) → names_good t ≡ true → (n : ℕ) (x : Placed Parameter) → slice_get (parameters t) n ≡ Some x
    → is_parameter m a x ≡ true → find_parameter t m a ≡ Some (n, x)
unfolding find_parameter parameters accessibles
parameter_meant t m a h n x =
    let e = placed_only parameter_in parameters_of parameters_only 0 t.modules in
    rw e
    (only_found (placed_one parameter_in) (is_named m a) (is_parameter m a) (parameter_alike m a) (accessibles t)
    (accessibles_unique t m a h) n x)

pub command_meant :
    (t : Table) (m a : List ℕ) → names_good t ≡ true → (n : ℕ) (x : Placed Command) → slice_get (commands t) n ≡ Some x
    → is_command m a x ≡ true → find_command t m a ≡ Some (n, x)
unfolding find_command commands accessibles
command_meant t m a h n x =
    let e = placed_only command_in commands_of commands_only 0 t.modules in
    rw e
    (only_found (placed_one command_in) (is_named m a) (is_command m a) (command_alike m a) (accessibles t)
    (accessibles_unique t m a h) n x)

pub parameters_are_accessibles :
    (t : Table) (m a : List ℕ) → names_good t ≡ true
    → find_parameter t m a ≡ as_one (placed_one parameter_in) (accessibles t) (find_accessible t m a)
unfolding find_parameter find_accessible parameters accessibles
parameters_are_accessibles t m a h =
    ap (first (is_parameter m a)) (placed_only parameter_in parameters_of parameters_only 0 t.modules)
    ∙ first_only (placed_one parameter_in) (is_named m a) (is_parameter m a) (parameter_alike m a) (accessibles t)
    (accessibles_unique t m a h)

pub commands_are_accessibles :
    (t : Table) (m a : List ℕ) → names_good t ≡ true
    → find_command t m a ≡ as_one (placed_one command_in) (accessibles t) (find_accessible t m a)
unfolding find_command find_accessible commands accessibles
commands_are_accessibles t m a h =
    ap (first (is_command m a)) (placed_only command_in commands_of commands_only 0 t.modules)
    ∙ first_only (placed_one command_in) (is_named m a) (is_command m a) (command_alike m a) (accessibles t)
    (accessibles_unique t m a h)

-- ## A search with an index

placed_count : (n : ℕ) (ms : List Module) → length (placed_from (λ xs. xs) n ms) ≡ accessible_count ms
unfolding placed_from accessible_count
placed_count n [] = refl
placed_count n (m ∷ ms) =
    length-append (map (place n m) m.accessibles) (placed_from (λ xs. xs) (suc n) ms)
    ∙ ap₂ ◌+◌ (length-map m.accessibles (place n m)) (placed_count (suc n) ms)

pub accessibles_few : (t : Table) → counts_good t ≡ true → length (accessibles t) ≤ 64
unfolding counts_good accessibles
accessibles_few t h =
    let c = (both (is_between 1 16 (length t.modules)) (leb (accessible_count t.modules) 64) h).1 in
    omega (arith, placed_count 0 t.modules, leb-true (accessible_count t.modules) 64 c)

-- of what is lent the first 128 bytes count
module _ {P : Type 0} (lent : List ℕ) (none_lent : ltb (length lent) 128 ≡ true → P) (index : ltb (length lent) 128 ≡ false → P) where
  by_lent : P
  by_lent = go (ltb (length lent) 128) refl
    where
      go : (b : Bool) → ltb (length lent) 128 ≡ b → P
      go true e = none_lent e
      go false e = index e

module _ (t : Table) (lent m a : List ℕ) where
  sought_alone : ltb (length lent) 128 ≡ true → sought t lent m a ≡ walked (is_named m a) (accessibles t)
  unfolding sought
  sought_alone e = rw e

  sought_with : ltb (length lent) 128 ≡ false → sought t lent m a ≡ searched (is_named m a) (start_place m a) (take 128 lent) (accessibles t)
  unfolding sought
  sought_with e = rw e

  pub answers_stand : names_good t ≡ true → (sought t lent m a).found ≡ find_accessible t m a
  unfolding find_accessible
  answers_stand h =
      by_lent lent
      (λ e. rw (sought_alone e) (walked_first (is_named m a) (accessibles t)))
      (λ e. rw (sought_with e) (searched_first (is_named m a) (start_place m a) (take 128 lent) (accessibles t) (accessibles_unique t m a h)))

  steps_low : (n : ℕ) → (sought t lent m a).steps ≤ n → seek_steps t lent m a ≤ n
  unfolding seek_steps
  steps_low n h = go (is_some (find_module t m))
    where
      go : (b : Bool) → cond b (sought t lent m a).steps 0 ≤ n
      go true = h
      go false = omega arith

  pub sought_few : length (accessibles t) ≤ 64 → (sought t lent m a).steps ≤ 192
  sought_few l =
      by_lent lent
      (λ e. rw (sought_alone e) (omega (arith, walked_few (is_named m a) (accessibles t))))
      (λ e.
      rw (sought_with e)
      (omega (arith, searched_few (is_named m a) (start_place m a) (take 128 lent) (accessibles t), length-take-le 128 lent (ltb-false (length lent) 128 e))))

  pub steps_are_few : counts_good t ≡ true → seek_steps t lent m a ≤ 192
  steps_are_few h = steps_low 192 (sought_few (accessibles_few t h))

pub index_size : (t : Table) → length (index_of t) ≡ 128
unfolding index_of
index_size t = filled_length (map start_of (accessibles t))

-- the index of a table serves each of its accessibles
index_serves :
    (t : Table) (m a : List ℕ) (k : ℕ × Placed Accessible) → counts_good t ≡ true → names_good t ≡ true → find_accessible t m a ≡ Some k
    → Served (is_named m a) (accessibles t) (start_place m a) (index_of t) k
unfolding find_accessible index_of
index_serves t m a k h n e =
    let x = named_is m a k.1 (first_meant (is_named m a) (accessibles t) k e).passes in
    let start : start_of k.1 ≡ start_place m a = ap₂ start_place x.0 x.1 in
    rw start at
    (filled_served (is_named m a) start_of (accessibles t) (accessibles_unique t m a n) (omega (arith, accessibles_few t h))
    (λ x. start_low x.module_name (accessible_name x.it)) k e)

-- what is lent may be longer than the index
sought_index :
    (t : Table) (m a more : List ℕ) → sought t (index_of t ++ more) m a ≡ searched (is_named m a) (start_place m a) (index_of t) (accessibles t)
sought_index t m a more =
    sought_with t (index_of t ++ more) m a (le-ltb (length (index_of t ++ more)) 128 (omega (arith, length-append (index_of t) more, index_size t)))
    ∙ ap (λ (xs : List ℕ). searched (is_named m a) (start_place m a) xs (accessibles t)) (take_at (index_of t) more 128 (index_size t))

pub present_names_are_quick :
    (t : Table) (m a more : List ℕ) (k : ℕ × Placed Accessible) → counts_good t ≡ true → names_good t ≡ true
    → find_accessible t m a ≡ Some k → Quick t (index_of t ++ more) m a k
present_names_are_quick t m a more k h n e =
    let served = index_serves t m a k h n e in
    let is = sought_index t m a more in
    let low = accessibles_few t h in
    record {
      found = rw is served.found;
      unwalked = is ∙ served.unwalked;
      few = steps_low t (index_of t ++ more) m a 64 (rw is (omega (arith, served.few)));
    }
