-- Laws of searches for parameters and commands by name and by number. Assumes nothing.
use Rattle.std.specs.Prelude.{Option, Some, None, slice_get}
use Prim.Native.Nat.{ℕ, zero, suc, ◌+◌, ◌-◌, ◌≤◌}
use native.Mathlib.Numerals.{add-one}
use native.Mathlib.Omega.{arith}
use mathlib.Core.Path.{◌≡◌, refl, sym, ap, ◌∙◌}
use mathlib.Core.Bool.{Bool, true, false, cond, ◌&&◌}
use mathlib.Core.List.{List, [], ◌∷◌}
use lib.ListN.{drop}
use Rattle.ascii.specs.Bytes.{same}
use Rattle.ascii.proofs.Lists.{both, same_is}
use Rattle.table.specs.Table as Table
use Rattle.table.specs.Layout.{table_of}
use Rattle.table.specs.Search.{Placed, parameters_of, commands_of, parameters, commands, first_from, first, find_parameter, find_command}
use Rattle.table.specs.declared.layout.ParameterAt.{ParameterAt}
use Rattle.table.specs.declared.layout.CommandAt.{CommandAt}
use Rattle.table.specs.Clauses.At.{bytes_of, parameter_of, command_of}
use Rattle.table.proofs.Accessibles.{in_some}
use Rattle.table.proofs.Search.{is_named}
use Rattle.search.specs.declared.cursor.Cursor.{Cursor}
use Rattle.search.specs.Clauses.Left.{placed, left_from, OnWay, After, FirstIs, Ended, FirstCursor, NextParameterIs, NextCommandIs}
use Rattle.search.proofs.Lefts.{drop_next}
use Rattle.search.specs.Clauses.Found.{ParameterFound, CommandFound, ParameterNumbered}

-- ## Lists

module _ {A : Type 0} where
  pub drop_at : (n : ℕ) (l : List A) (x : A) (xs : List A) → drop n l ≡ x ∷ xs → slice_get l n ≡ Some x
  drop_at zero [] x xs e = let z : ◌≡◌ {A = ℕ} 0 1 = cc in absurd (omega arith)
  drop_at zero (y ∷ l) x xs e = cc
  drop_at (suc n) [] x xs e = let z : ◌≡◌ {A = ℕ} 0 1 = cc in absurd (omega arith)
  drop_at (suc n) (y ∷ l) x xs e = drop_at n l x xs e

  pub drop_past : (n : ℕ) (l : List A) (k : ℕ) → drop n l ≡ [] → n ≤ k → slice_get l k ≡ None
  drop_past n [] k e h = refl
  drop_past zero (y ∷ l) k e h = let z : ◌≡◌ {A = ℕ} 0 1 = cc in absurd (omega arith)
  drop_past (suc n) (y ∷ l) zero e h = absurd (omega arith)
  drop_past (suc n) (y ∷ l) (suc k) e h = drop_past n l k e (omega arith)

-- what is sought by two names
abbrev pub parameter_name : Table.Parameter → List ℕ
parameter_name p = p.name

abbrev pub command_name : Table.Command → List ℕ
command_name p = p.name

-- ## A count

module _ {A : Type 0} (of : List Table.Accessible → List A) (l : Table.Table → List (Placed A)) (s : List ℕ) where
  -- n of those of the table have been passed at c
  pub record Counted (n : ℕ) (c : Cursor) : Type 0 where
    pub way : OnWay s c
    pub few : n ≤ c.at
    pub left : left_from of s c ≡ Some (drop n (l (table_of s)))

  module _ (n : ℕ) (c : Cursor) (h : Counted n c) where
    pub counted_end : Ended of s c → drop n (l (table_of s)) ≡ []
    counted_end e = in_some (sym h.left ∙ e)

    module _ (e : Cursor) (a : A) (b : FirstIs of s c e a) where
      pub counted_at : drop n (l (table_of s)) ≡ placed s e a ∷ b.others
      counted_at = in_some (sym h.left ∙ b.is)

      pub counted_left : left_from of s e ≡ Some (drop (n + 1) (l (table_of s)))
      counted_left = b.left ∙ ap Some (sym (drop_next n (l (table_of s)) _ _ counted_at))

      pub counted_on : After s c e → Counted (n + 1) e
      counted_on x =
          let y = h.few in
          let z = x.later in
          record { way = x.way; few = omega arith; left = counted_left }

pub counted_parameters : (s : List ℕ) (c : Cursor) → FirstCursor s c → Counted parameters_of parameters s 0 c
counted_parameters s c f = record { way = f.way; few = omega arith; left = f.parameters }

pub counted_commands : (s : List ℕ) (c : Cursor) → FirstCursor s c → Counted commands_of commands s 0 c
counted_commands s c f = record { way = f.way; few = omega arith; left = f.commands }

-- ## A search by name

module _ {A : Type 0} (of : List Table.Accessible → List A) (l : Table.Table → List (Placed A)) (name : A → List ℕ) (s m a : List ℕ) where
  -- none of those that were passed has the names
  pub record Sought (n : ℕ) (c : Cursor) : Type 0 where
    pub counted : Counted of l s n c
    pub finds : first (is_named name m a) (l (table_of s)) ≡ first_from (is_named name m a) n (drop n (l (table_of s)))

  pub sought_start : (c : Cursor) → Counted of l s 0 c → Sought 0 c
  unfolding first
  sought_start c h = record { counted = h; finds = refl }

  module _ (n : ℕ) (c : Cursor) (h : Sought n c) where
    sought_end : Ended of s c → first (is_named name m a) (l (table_of s)) ≡ None
    unfolding first_from
    sought_end e = h.finds ∙ rw (counted_end of l s n c h.counted e)

    module _ (e : Cursor) (x : A) (b : FirstIs of s c e x) (d : Bool) (hd : d ≡ (same m (bytes_of s e.name) && same a (name x))) where
      -- the search from here on, by what the test says
      abbrev on : List (Placed A) → Bool → Option (ℕ × Placed A)
      on others d = cond d (Some (n, placed s e x)) (first_from (is_named name m a) (suc n) others)

      there : drop n (l (table_of s)) ≡ placed s e x ∷ b.others
      there = counted_at of l s n c h.counted e x b

      step : first (is_named name m a) (l (table_of s)) ≡ on (drop (n + 1) (l (table_of s))) d
      unfolding first_from
      step =
          h.finds ∙ ap (first_from (is_named name m a) n) there
          ∙ ap (on b.others) (sym hd)
          ∙ ap (λ o. on o d) (sym (drop_next n (l (table_of s)) _ _ there))

      sought_here : d ≡ true → first (is_named name m a) (l (table_of s)) ≡ Some (n, record { home = e.modules - 1; module_name = m; it = x })
      sought_here z =
          let y = both (same m (bytes_of s e.name)) (same a (name x)) (sym hd ∙ z) in
          step ∙ rw (z, same_is m (bytes_of s e.name) y.0)

      sought_on : d ≡ false → After s c e → Sought (n + 1) e
      sought_on z v =
          record {
            counted = counted_on of l s n c h.counted e x b v;
            finds = step ∙ rw (z, ← (add-one n));
          }

-- ## One law for each way through a search

module _ (m a x y : List ℕ) (b : Bool) (h : b ≡ same m x) where
  pub named_not : b ≡ false → b ≡ (same m x && same a y)
  named_not e = e ∙ rw (← h, e)

  pub named_so : (d : Bool) → b ≡ true → d ≡ same a y → d ≡ (same m x && same a y)
  named_so d e g = rw (← h, e) g

abbrev pub SoughtParameter : List ℕ → List ℕ → List ℕ → ℕ → Cursor → Type 0
SoughtParameter s m a n c = Sought parameters_of parameters parameter_name s m a n c

abbrev pub SoughtCommand : List ℕ → List ℕ → List ℕ → ℕ → Cursor → Type 0
SoughtCommand s m a n c = Sought commands_of commands command_name s m a n c

module _ (s m a : List ℕ) (n : ℕ) (c : Cursor) (h : SoughtParameter s m a n c) (r : Option (ParameterAt × Cursor)) (hr : NextParameterIs s c r) where
  pub parameter_missing : r ≡ None → find_parameter (table_of s) m a ≡ None
  unfolding find_parameter
  parameter_missing z = sought_end parameters_of parameters parameter_name s m a n c h (rw z at hr)

  module _ (q : ParameterAt) (e : Cursor) (z : r ≡ Some (q, e)) (d : Bool) (hd : d ≡ (same m (bytes_of s e.name) && same a (bytes_of s q.name))) where
    pub parameter_is : d ≡ true → ParameterFound s m a n (e.modules - 1) q
    unfolding find_parameter parameter_of
    parameter_is y = let x = rw z at hr in record { held = x.held; is = sought_here parameters_of parameters parameter_name s m a n c h e _ x.first d hd y }

    pub parameter_on : d ≡ false → SoughtParameter s m a (n + 1) e
    unfolding parameter_of
    parameter_on y = let x = rw z at hr in sought_on parameters_of parameters parameter_name s m a n c h e _ x.first d hd y x.after

module _ (s m a : List ℕ) (n : ℕ) (c : Cursor) (h : SoughtCommand s m a n c) (r : Option (CommandAt × Cursor)) (hr : NextCommandIs s c r) where
  pub command_missing : r ≡ None → find_command (table_of s) m a ≡ None
  unfolding find_command
  command_missing z = sought_end commands_of commands command_name s m a n c h (rw z at hr)

  module _ (q : CommandAt) (e : Cursor) (z : r ≡ Some (q, e)) (d : Bool) (hd : d ≡ (same m (bytes_of s e.name) && same a (bytes_of s q.name))) where
    pub command_is : d ≡ true → CommandFound s m a n (e.modules - 1) q
    unfolding find_command command_of
    command_is y =
        let x = rw z at hr in
        record {
          held = x.held;
          is = sought_here commands_of commands command_name s m a n c h e _ x.first d hd y;
          next = e;
          way = x.after.way;
          at = x.next;
          home = let b = x.after.begun in omega arith;
          left = counted_left commands_of commands s n c h.counted e _ x.first;
        }

    pub command_on : d ≡ false → SoughtCommand s m a (n + 1) e
    unfolding command_of
    command_on y = let x = rw z at hr in sought_on commands_of commands command_name s m a n c h e _ x.first d hd y x.after

-- ## One law for each way through a search by number

module _ (s : List ℕ) (k n : ℕ) (c : Cursor) (h : Counted parameters_of parameters s n c) (r : Option (ParameterAt × Cursor)) (hr : NextParameterIs s c r) where
  pub number_end : r ≡ None → drop n (parameters (table_of s)) ≡ []
  number_end z = counted_end parameters_of parameters s n c h (rw z at hr)

  pub number_missing : r ≡ None → n ≤ k → slice_get (parameters (table_of s)) k ≡ None
  number_missing z l = drop_past n (parameters (table_of s)) k (number_end z) l

  module _ (q : ParameterAt) (e : Cursor) (z : r ≡ Some (q, e)) where
    pub number_is_lem : n ≡ k → ParameterNumbered s k q e
    number_is_lem y = let x = rw z at hr in
        rw (← y)
        (record {
          fits = x.after.way.fits;
          begun = x.after.begun;
          home = x.after.way.home x.after.begun;
          next = x.next;
          held = x.held;
          is = drop_at n (parameters (table_of s)) _ _ (counted_at parameters_of parameters s n c h e _ x.first);
          left = counted_left parameters_of parameters s n c h e _ x.first;
        })

    pub number_on : Counted parameters_of parameters s (n + 1) e
    number_on = let x = rw z at hr in counted_on parameters_of parameters s n c h e _ x.first x.after
