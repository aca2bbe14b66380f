-- Laws of walks over the parameters, or over the commands, that are left at a cursor. Assumes nothing.
use Rattle.std.specs.Prelude.{Option, Some, None}
use Prim.Native.Nat.{ℕ, suc, ◌-◌, ◌≤◌, ◌<◌}
use native.Mathlib.Omega.{arith}
use mathlib.Core.Path.{◌≡◌, refl, sym, ap, ◌∙◌}
use mathlib.Core.List.{List, [], ◌∷◌, ◌++◌, map, append_assoc}
use lib.ListN.{length}
use Rattle.ascii.specs.Bytes.{◌>>=◌}
use Rattle.table.specs.Table as Table
use Rattle.table.specs.Layout.{modules_at}
use Rattle.table.specs.Search.{Placed, placed_from, parameters_of, commands_of}
use Rattle.table.specs.declared.layout.ParameterAt.{ParameterAt}
use Rattle.table.specs.declared.layout.CommandAt.{CommandAt}
use Rattle.table.specs.Clauses.At.{bytes_of, parameter_of, command_of}
use Rattle.search.specs.declared.cursor.Cursor.{Cursor}
use Rattle.search.specs.declared.cursor.Record as R
use Rattle.search.specs.Clauses.Left.{accessibles_left, placed, left_from, accessibles_of, OnWay, After, FirstIs, Goes, Ended, ParameterFirst, CommandFirst, RecordIs}
use Rattle.search.proofs.Lefts.{with_modules, with_rest, left_as}

-- ## Some of the accessibles

-- a choice that takes each accessible by itself
pub record Picks {A : Type 0} (of : List Table.Accessible → List A) : Type 0 where
  pub nil : of [] ≡ []
  pub cons : (a : Table.Accessible) (xs : List Table.Accessible) → of (a ∷ xs) ≡ of (a ∷ []) ++ of xs

pub picks_parameters : Picks parameters_of
unfolding parameters_of
picks_parameters = record { nil = refl; cons = go }
  where
    go : (a : Table.Accessible) (xs : List Table.Accessible) → parameters_of (a ∷ xs) ≡ parameters_of (a ∷ []) ++ parameters_of xs
    go (Table.parameter p) xs = refl
    go (Table.command p) xs = refl

pub picks_commands : Picks commands_of
unfolding commands_of
picks_commands = record { nil = refl; cons = go }
  where
    go : (a : Table.Accessible) (xs : List Table.Accessible) → commands_of (a ∷ xs) ≡ commands_of (a ∷ []) ++ commands_of xs
    go (Table.parameter p) xs = refl
    go (Table.command p) xs = refl

pub picks_accessibles : Picks accessibles_of
picks_accessibles = record { nil = refl; cons = λ a xs. refl }

map-append : {A B : Type 0} (f : A → B) (x y : List A) → map f (x ++ y) ≡ map f x ++ map f y
map-append f [] y = refl
map-append f (a ∷ x) y = ap (λ l. f a ∷ l) (map-append f x y)

-- an accessible of the module of number n and name m
abbrev at_home : {A : Type 0} → ℕ → List ℕ → A → Placed A
at_home n m a = record { home = n; module_name = m; it = a }

-- those that are picked, each in the module of its accessible
unfoldable pick : {A : Type 0} → (List Table.Accessible → List A) → List (Placed Table.Accessible) → List (Placed A)
pick of [] = []
pick of (p ∷ ps) = map (at_home p.home p.module_name) (of (p.it ∷ [])) ++ pick of ps

module _ {A : Type 0} (of : List Table.Accessible → List A) (k : Picks of) where
  pick_append : (x y : List (Placed Table.Accessible)) → pick of (x ++ y) ≡ pick of x ++ pick of y
  unfolding pick
  pick_append [] y = refl
  pick_append (p ∷ x) y = rw (pick_append x y) (sym (append_assoc (map (at_home p.home p.module_name) (of (p.it ∷ []))) (pick of x) (pick of y)))

  pick_one : (n : ℕ) (m : List ℕ) (xs : List Table.Accessible) → pick of (map (at_home n m) xs) ≡ map (at_home n m) (of xs)
  unfolding pick
  pick_one n m [] = rw k.nil
  pick_one n m (a ∷ xs) = rw (pick_one n m xs, k.cons a xs) (sym (map-append (at_home n m) (of (a ∷ [])) (of xs)))

  pick_placed : (n : ℕ) (ms : List Table.Module) → pick of (placed_from accessibles_of n ms) ≡ placed_from of n ms
  unfolding pick placed_from
  pick_placed n [] = refl
  pick_placed n (m ∷ ms) = pick_append (map (at_home n m.name) m.accessibles) (placed_from accessibles_of (suc n) ms) ∙ rw (pick_one n m.name m.accessibles, pick_placed (suc n) ms)

  pick_left : (s : List ℕ) (c : Cursor) → left_from of s c ≡ (left_from accessibles_of s c >>= λ l. Some (pick of l))
  pick_left s c = left_as of s c ∙ go (accessibles_left s c) ∙ ap (λ o. o >>= λ l. Some (pick of l)) (sym (left_as accessibles_of s c))
    where
      second : (xs : List Table.Accessible) (o : Option (List Table.Module × List ℕ)) → with_modules of s c xs o ≡ (with_modules accessibles_of s c xs o >>= λ l. Some (pick of l))
      second xs None = refl
      second xs (Some y) = ap Some (sym (pick_append (map (placed s c) xs) (placed_from accessibles_of c.modules y.0) ∙ rw (pick_one (c.modules - 1) (bytes_of s c.name) xs, pick_placed c.modules y.0)))

      go : (o : Option (List Table.Accessible × List ℕ)) → with_rest of s c o ≡ (with_rest accessibles_of s c o >>= λ l. Some (pick of l))
      go None = refl
      go (Some x) = second x.0 (modules_at (length s) (length x.1) x.1)

  pick_there : (s : List ℕ) (c : Cursor) (x : List (Placed Table.Accessible)) → left_from accessibles_of s c ≡ Some x → left_from of s c ≡ Some (pick of x)
  pick_there s c x z = pick_left s c ∙ rw z

  module _ (s : List ℕ) (c : Cursor) where
    pub picks_end : Ended accessibles_of s c → Ended of s c
    unfolding pick
    picks_end z = pick_there s c [] z

    module _ (e : Cursor) where
      pub picks_on : Goes accessibles_of s c e → Goes of s c e
      picks_on g = pick_left s e ∙ ap (λ o. o >>= λ l. Some (pick of l)) g ∙ sym (pick_left s c)

      module _ (x : Table.Accessible) (b : FirstIs accessibles_of s c e x) where
        pub picks_past : of (x ∷ []) ≡ [] → Goes of s c e
        unfolding pick
        picks_past z = pick_there s e b.others b.left ∙ sym (pick_there s c _ b.is ∙ rw z)

        pub picks_first : (a : A) → of (x ∷ []) ≡ a ∷ [] → FirstIs of s c e a
        unfolding pick
        picks_first a z = record { others = pick of b.others; is = pick_there s c _ b.is ∙ rw z; left = pick_there s e b.others b.left }

-- ## A walk

-- a walk that began at i has come to c, and nothing was passed by
pub record Walked {A : Type 0} (of : List Table.Accessible → List A) (s : List ℕ) (i c : Cursor) : Type 0 where
  pub way : OnWay s c
  pub since : i.at ≤ c.at
  pub goes : Goes of s i c

walk_on : {A : Type 0} (of : List Table.Accessible → List A) (s : List ℕ) (i c e : Cursor) → Walked of s i c → After s c e → Goes of s c e → Walked of s i e
walk_on of s i c e w a g =
    let x = w.since in
    let y = a.later in
    record { way = a.way; since = omega arith; goes = g ∙ w.goes }

-- what is first at c is first at i, from where the walk came to c
walk_first : {A : Type 0} (of : List Table.Accessible → List A) (s : List ℕ) (i c e : Cursor) (a : A) → Walked of s i c → FirstIs of s c e a → FirstIs of s i e a
walk_first of s i c e a w f = record { others = f.others; is = sym w.goes ∙ f.is; left = f.left }

walk_after : {A : Type 0} (of : List Table.Accessible → List A) (s : List ℕ) (i c e : Cursor) → Walked of s i c → After s c e → After s i e
walk_after of s i c e w a =
    let x = w.since in
    let y = a.later in
    record { way = a.way; later = omega arith; begun = a.begun }

pub walk_less : (s : List ℕ) (c e : Cursor) → After s c e → length s - e.at < length s - c.at
walk_less s c e a = let x = a.later in let y = a.way.fits.within in omega arith

module _ (s : List ℕ) (c : Cursor) (r : R.Record) (h : RecordIs s c r) where
  pub module_less : (e : Cursor) → r ≡ R.TheVariants.Module e → length s - e.at < length s - c.at
  module_less e z = walk_less s c e (rw z at h).after

  module _ (i : Cursor) where
    module _ (w : Walked accessibles_of s i c) where
      pub one_parameter : (q : ParameterAt) (e : Cursor) → r ≡ R.TheVariants.Parameter q e → ParameterFirst accessibles_of Table.parameter s i q e
      one_parameter q e z =
          let x = rw z at h in
          record {
            after = walk_after accessibles_of s i c e w x.after;
            next = x.next;
            held = x.held;
            first = walk_first accessibles_of s i c e _ w x.first;
          }

      pub one_command : (q : CommandAt) (e : Cursor) → r ≡ R.TheVariants.Command q e → CommandFirst accessibles_of Table.command s i q e
      one_command q e z =
          let x = rw z at h in
          record {
            after = walk_after accessibles_of s i c e w x.after;
            next = x.next;
            held = x.held;
            first = walk_first accessibles_of s i c e _ w x.first;
          }

    module _ (w : Walked parameters_of s i c) where
      pub parameter_found : (q : ParameterAt) (e : Cursor) → r ≡ R.TheVariants.Parameter q e → ParameterFirst parameters_of (λ p. p) s i q e
      unfolding parameters_of
      parameter_found q e z =
          let x = rw z at h in
          record {
            after = walk_after parameters_of s i c e w x.after;
            next = x.next;
            held = x.held;
            first = walk_first parameters_of s i c e _ w (picks_first parameters_of picks_parameters s c e _ x.first (parameter_of s q x.held.datainfo) refl);
          }

      pub past_command : (q : CommandAt) (e : Cursor) → r ≡ R.TheVariants.Command q e → Walked parameters_of s i e
      unfolding parameters_of
      past_command q e z = let x = rw z at h in walk_on parameters_of s i c e w x.after (picks_past parameters_of picks_parameters s c e _ x.first refl)

    module _ (w : Walked commands_of s i c) where
      pub command_found : (q : CommandAt) (e : Cursor) → r ≡ R.TheVariants.Command q e → CommandFirst commands_of (λ p. p) s i q e
      unfolding commands_of
      command_found q e z =
          let x = rw z at h in
          record {
            after = walk_after commands_of s i c e w x.after;
            next = x.next;
            held = x.held;
            first = walk_first commands_of s i c e _ w (picks_first commands_of picks_commands s c e _ x.first (command_of s q x.held.argument) refl);
          }

      pub past_parameter : (q : ParameterAt) (e : Cursor) → r ≡ R.TheVariants.Parameter q e → Walked commands_of s i e
      unfolding commands_of
      past_parameter q e z = let x = rw z at h in walk_on commands_of s i c e w x.after (picks_past commands_of picks_commands s c e _ x.first refl)

    module _ {A : Type 0} (of : List Table.Accessible → List A) (k : Picks of) (w : Walked of s i c) where
      pub into_module : (e : Cursor) → r ≡ R.TheVariants.Module e → Walked of s i e
      into_module e z = let x = rw z at h in walk_on of s i c e w x.after (picks_on of k s c e x.goes)

      pub walk_end : r ≡ R.TheVariants.End → Ended of s i
      walk_end z = sym w.goes ∙ picks_end of k s c (rw z at h)
