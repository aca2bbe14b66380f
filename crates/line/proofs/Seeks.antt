-- Laws of the search that a request needs. Assumes nothing.
use Rattle.std.specs.Prelude.{Option, Some, None}
use Prim.Native.Nat.{ℕ}
use native.Mathlib.Omega.{arith}
use mathlib.Core.Bool.{Bool, true, false, not, false≢true}
use mathlib.Core.List.{List}
use mathlib.Core.Path.{◌≡◌, refl, sym, ap, ◌∙◌}
use borrow.Author.Tests.{not-true, not-false}
use Rattle.std.proofs.lemmas.Option.{same_Some}
use Rattle.table.specs.Layout.{table_of}
use Rattle.search.specs.Clauses.Found.{Locates}
use Rattle.search.specs.declared.locate.Located as L
use Rattle.seek.specs.declared.locate.Placed.{Placed}
use Rattle.index.specs.Accessibles.{seek_steps}
use Rattle.message.specs.Line.{whole, content, parts_of}
use Rattle.message.specs.Request.{request}
use Rattle.message.specs.Clauses.Parsed.{part, Within, Inside, Parted, Asks, verb_request}
use Rattle.message.specs.declared.line.Part.{Part}
use Rattle.message.specs.declared.line.Request.{Request}
use Rattle.message.specs.declared.line.Request.TheVariants as Q
use Rattle.message.specs.declared.line.Switch.TheVariants.{On, Off}
use Rattle.message.specs.declared.line.Verb.{Verb}
use Rattle.message.proofs.Requests.{requested}
use Rattle.plain.specs.Answer.{request_steps}
use Rattle.line.specs.Clauses.Asked.{is_built}
use Rattle.line.specs.Clauses.Names.{names_of, LocatedAt, SoughtFor}

abbrev unsought : Placed
unsought = record { located = L.TheVariants.NoModule; steps = 0 }

named_not : {v : Verb} {m a : Part} → ◌≡◌ {A = Option (Verb × Part × Part)} (Some (v, m, a)) None → ⊥
named_not e = let z : ◌≡◌ {A = ℕ} 0 1 = cc in omega arith

not_named : {v : Verb} {m a : Part} → ◌≡◌ {A = Option (Verb × Part × Part)} None (Some (v, m, a)) → ⊥
not_named e = named_not (sym e)

same_names : {u v : Verb} {k m b a : Part} → ◌≡◌ {A = Option (Verb × Part × Part)} (Some (u, k, b)) (Some (v, m, a)) → (u ≡ v) × (k ≡ m) × (b ≡ a)
same_names {u} {v} {k} {m} {b} {a} e = let p = same_Some {A = Verb × Part × Part} (u, k, b) (v, m, a) e in
    (ap (λ (q : Verb × Part × Part). q.0) p, ap (λ (q : Verb × Part × Part). q.1) p, ap (λ (q : Verb × Part × Part). q.2) p)

pub named_at : (asked : Request) (v : Verb) (m a : Part) → asked ≡ Q.Named v m a → Some (v, m, a) ≡ names_of asked
named_at asked v m a e = rw e

module _ (s index line : List ℕ) where
  pub found_located : (asked : Request) (r : Placed) → SoughtFor s index line asked r → LocatedAt s line (names_of asked) r.located
  found_located asked r h = h.located

  -- a request that is about no accessible
  pub seeks_nothing : (asked : Request) → names_of asked ≡ None → SoughtFor s index line asked unsought
  unfolding request_steps
  seeks_nothing Q.Identify e = record { located = tt; steps = λ p d. refl }
  seeks_nothing Q.Describe e = record { located = tt; steps = λ p d. refl }
  seeks_nothing Q.Ping e = record { located = tt; steps = λ p d. refl }
  seeks_nothing (Q.All On) e = record { located = tt; steps = λ p d. refl }
  seeks_nothing (Q.All Off) e = record { located = tt; steps = λ p d. refl }
  seeks_nothing (Q.Scoped On m) e = record { located = tt; steps = λ p d. refl }
  seeks_nothing (Q.Scoped Off m) e = record { located = tt; steps = λ p d. refl }
  seeks_nothing (Q.Named v m a) e = absurd (named_not e)
  seeks_nothing Q.Count e = record { located = tt; steps = λ p d. refl }
  seeks_nothing Q.Malformed e = record { located = tt; steps = λ p d. refl }

  -- of a verb that the edition has the same search, whatever it does then; of another none
  verb_steps : (v : Verb) → is_built (table_of s) v ≡ true → (x m a : List ℕ)
      → request_steps (table_of s) index (verb_request v x m a) ≡ seek_steps (table_of s) index m a
  unfolding request_steps
  verb_steps Verb.Read b x m a = refl
  verb_steps Verb.Change b x m a = refl
  verb_steps Verb.Execute b x m a = refl
  verb_steps Verb.Check b x m a = rw b

  verb_idle : (v : Verb) → is_built (table_of s) v ≡ false → (x m a : List ℕ) → request_steps (table_of s) index (verb_request v x m a) ≡ 0
  unfolding request_steps
  verb_idle Verb.Read b x m a = absurd (false≢true (sym b))
  verb_idle Verb.Change b x m a = absurd (false≢true (sym b))
  verb_idle Verb.Execute b x m a = absurd (false≢true (sym b))
  verb_idle Verb.Check b x m a = rw b

  module _ (v : Verb) (m a : Part) where
    pub names_in : (asked : Request) → Inside line asked → names_of asked ≡ Some (v, m, a) → Within line m × Within line a
    names_in Q.Identify h e = absurd (not_named e)
    names_in Q.Describe h e = absurd (not_named e)
    names_in Q.Ping h e = absurd (not_named e)
    names_in (Q.All v) h e = absurd (not_named e)
    names_in (Q.Scoped v k) h e = absurd (not_named e)
    names_in (Q.Named u k b) h e =
        let p : k ≡ m = (same_names e).1 in
        let q : b ≡ a = (same_names e).2 in
        (rw p at h.0, rw q at h.1)
    names_in Q.Count h e = absurd (not_named e)
    names_in Q.Malformed h e = absurd (not_named e)

    pub module_in : (asked : Request) → Inside line asked → (r : Option (Verb × Part × Part)) → r ≡ names_of asked → r ≡ Some (v, m, a) → Within line m
    module_in asked h r e z = (names_in asked h (sym e ∙ z)).0

    pub name_in_lem : (asked : Request) → Inside line asked → (r : Option (Verb × Part × Part)) → r ≡ names_of asked → r ≡ Some (v, m, a) → Within line a
    name_in_lem asked h r e z = (names_in asked h (sym e ∙ z)).1

    seeks_names :
        is_built (table_of s) v ≡ true → (asked : Request) → names_of asked ≡ Some (v, m, a) → (r : Placed) → Locates s (part line m) (part line a) r.located
        → r.steps ≡ seek_steps (table_of s) index (part line m) (part line a) → SoughtFor s index line asked r
    seeks_names g Q.Identify e r x y = absurd (not_named e)
    seeks_names g Q.Describe e r x y = absurd (not_named e)
    seeks_names g Q.Ping e r x y = absurd (not_named e)
    seeks_names g (Q.All v) e r x y = absurd (not_named e)
    seeks_names g (Q.Scoped v k) e r x y = absurd (not_named e)
    seeks_names g (Q.Named u k b) e r x y =
        let o : u ≡ v = (same_names e).0 in
        let p : m ≡ k = sym (same_names e).1 in
        let q : a ≡ b = sym (same_names e).2 in
        let f : is_built (table_of s) u ≡ true = rw o g in
        record {
          located = λ _. rw (p, q) at x;
          steps = λ specifier payload. y ∙ rw (p, q) (sym (verb_steps u f _ (part line k) (part line b)));
        }
    seeks_names g Q.Count e r x y = absurd (not_named e)
    seeks_names g Q.Malformed e r x y = absurd (not_named e)

    -- a verb that the edition doesn't have
    seeks_idle : is_built (table_of s) v ≡ false → (asked : Request) → names_of asked ≡ Some (v, m, a) → SoughtFor s index line asked unsought
    seeks_idle g Q.Identify e = absurd (not_named e)
    seeks_idle g Q.Describe e = absurd (not_named e)
    seeks_idle g Q.Ping e = absurd (not_named e)
    seeks_idle g (Q.All u) e = absurd (not_named e)
    seeks_idle g (Q.Scoped u k) e = absurd (not_named e)
    seeks_idle g (Q.Named u k b) e =
        let o : u ≡ v = (same_names e).0 in
        let f : is_built (table_of s) u ≡ false = rw o g in
        record {
          located = λ h. absurd (false≢true (sym f ∙ h));
          steps = λ specifier payload. sym (verb_idle u f _ (part line k) (part line b));
        }
    seeks_idle g Q.Count e = absurd (not_named e)
    seeks_idle g Q.Malformed e = absurd (not_named e)

    -- as the code has them
    pub seeks_unbuilt :
        (r : Bool) → r ≡ is_built (table_of s) v → not r ≡ true → (asked : Request) (n : Option (Verb × Part × Part)) → n ≡ names_of asked → n ≡ Some (v, m, a)
        → SoughtFor s index line asked unsought
    seeks_unbuilt r b f asked n e z = seeks_idle (sym b ∙ not-true r f) asked (sym e ∙ z)

    pub seeks_found :
        (b : Bool) → b ≡ is_built (table_of s) v → not b ≡ false
        → (asked : Request) (n : Option (Verb × Part × Part)) → n ≡ names_of asked → n ≡ Some (v, m, a) → (xs ys : List ℕ) → xs ≡ part line m → ys ≡ part line a
        → (r : Placed) → Locates s xs ys r.located × (r.steps ≡ seek_steps (table_of s) index xs ys) → SoughtFor s index line asked r
    seeks_found b f g asked n e z xs ys p q r h =
        let x = rw (p, q) at h.0 in
        let y = rw (p, q) at h.1 in
        seeks_names (sym f ∙ not-false b g) asked (sym e ∙ z) r x y

  -- what the names of a verb locate
  pub named_located :
      (asked : Request) (l : L.Located) → LocatedAt s line (names_of asked) l → (v : Verb) (m a : Part) → asked ≡ Q.Named v m a
      → (xs ys : List ℕ) → xs ≡ part line m → ys ≡ part line a → is_built (table_of s) v ≡ true → Locates s xs ys l
  named_located asked l h v m a e xs ys p q b =
      let f : is_built (table_of s) v ≡ true → Locates s (part line m) (part line a) l = rw e at h in
      rw (p, q) (f b)

  pub seeks_none : (asked : Request) (n : Option (Verb × Part × Part)) → n ≡ names_of asked → n ≡ None → SoughtFor s index line asked unsought
  seeks_none asked n e z = seeks_nothing asked (sym e ∙ z)

  -- the steps of the whole line
  pub line_steps_lem :
      (a p d : Part) → Parted line a p d → (asked : Request) → Asks line a p asked → (r : Placed) → SoughtFor s index line asked r
      → r.steps ≡ request_steps (table_of s) index (request (parts_of (content (whole line))))
  line_steps_lem a p d h asked k r x = x.steps (part line p) (part line d) ∙ ap (request_steps (table_of s) index) (requested line a p d asked h k)
