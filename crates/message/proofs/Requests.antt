-- Laws of a line's parts and of what they ask for, one for each way through a function. Assumes nothing.
use Rattle.std.specs.Prelude.{Some, None}
use Prim.Native.Nat.{ℕ, ◌-◌}
use native.Mathlib.Omega.{arith}
use native.Mathlib.Nat.{sub-zero}
use borrow.Author.Tests.{eq-eqb, ne_eqb}
use mathlib.Core.Path.{◌≡◌, refl, sym, ap, ◌∙◌}
use mathlib.Core.Bool.{Bool, true, false, cond, ◌&&◌}
use mathlib.Core.List.{List, []}
use lib.ListN.{length, take, length-drop}
use lib.Seq.{length-take-le}
use Rattle.ascii.specs.Text.{bytes}
use Rattle.ascii.specs.Bytes.{same}
use Rattle.ascii.specs.Names.{is_name}
use Rattle.message.specs.Line.{Parts, before_space, after_space, parts_of, content, whole}
use Rattle.message.specs.Request as R
use Rattle.message.specs.Request.{module_part, accessible_part, scoped, named, or_null, request}
use Rattle.message.specs.Clauses.Parsed.{part, Within, UpTo, before, from_stop, after, Cuts, Parted, action_of, meaning, AsksScoped, AsksNamed, Asks, parts, switch_request, verb_request}
use Rattle.message.specs.declared.line.Part.{Part}
use Rattle.message.specs.declared.line.Cut.{Cut}
use Rattle.message.specs.declared.line.Switch.{Switch}
use Rattle.message.specs.declared.line.Switch.TheVariants.{On, Off}
use Rattle.message.specs.declared.line.Verb.{Verb}
use Rattle.message.specs.declared.line.Action.{Action}
use Rattle.message.specs.declared.line.Action.TheVariants.{Identify, Describe, Ping, Scoped, Named, Count, Unknown}
use Rattle.message.specs.declared.line.Request.{Request}
use Rattle.message.specs.declared.line.Request.TheVariants as Q

-- ## The parts of a line

module _ (xs : List ℕ) (end : ℕ) (e : UpTo xs end (content (whole xs))) where
  pub no_content : end ≡ 0 → content (whole xs) ≡ []
  no_content z = sym e.is ∙ ap (λ (k : ℕ). take k xs) z

  pub parted : (end ≡ 0 → ⊥) → (r : Cut) → Cuts xs (record { from = 0; to = end }) 32 r → Parted xs r.first r.second r.rest
  unfolding parts_of before_space after_space before after from_stop
  parted z r k =
      let w : take (end - 0) xs ≡ content (whole xs) = ap (λ (n : ℕ). take n xs) (sub-zero end) ∙ e.is in
      let n : end ≡ length (content (whole xs)) = sym (length-take-le end xs e.within) ∙ ap length e.is in
      record {
        some = rw (← e.is, length-take-le end xs e.within) (omega arith);
        action_is = k.first ∙ rw w;
        specifier_is = k.second ∙ rw w;
        payload_is = k.rest ∙ rw w;
        action_in = k.first_in;
        specifier_in = k.second_in;
        payload_in = k.rest_in;
        action_at = k.first_at;
        specifier_at = rw w at (k.second_at ∙ n);
        payload_at = rw w at (k.rest_at ∙ n);
      }

-- ## Words, which the code tries in turn

module _ (xs : List ℕ) {t : Bool} (e : t ≡ same xs (bytes "*IDN?")) where
  pub is_identify : t ≡ true → Identify ≡ action_of xs
  unfolding action_of
  is_identify h = simp (sym e ∙ h)

  module _ (n : t ≡ false) {t2 : Bool} (e2 : t2 ≡ same xs (bytes "describe")) where
    pub is_describe : t2 ≡ true → Describe ≡ action_of xs
    unfolding action_of
    is_describe h = simp (sym e ∙ n, sym e2 ∙ h)

    module _ (n2 : t2 ≡ false) {t3 : Bool} (e3 : t3 ≡ same xs (bytes "ping")) where
      pub is_ping : t3 ≡ true → Ping ≡ action_of xs
      unfolding action_of
      is_ping h = simp (sym e ∙ n, sym e2 ∙ n2, sym e3 ∙ h)

      module _ (n3 : t3 ≡ false) {t4 : Bool} (e4 : t4 ≡ same xs (bytes "activate")) where
        pub is_activate : t4 ≡ true → Scoped On ≡ action_of xs
        unfolding action_of
        is_activate h = simp (sym e ∙ n, sym e2 ∙ n2, sym e3 ∙ n3, sym e4 ∙ h)

        module _ (n4 : t4 ≡ false) {t5 : Bool} (e5 : t5 ≡ same xs (bytes "deactivate")) where
          pub is_deactivate : t5 ≡ true → Scoped Off ≡ action_of xs
          unfolding action_of
          is_deactivate h = simp (sym e ∙ n, sym e2 ∙ n2, sym e3 ∙ n3, sym e4 ∙ n4, sym e5 ∙ h)

          module _ (n5 : t5 ≡ false) {t6 : Bool} (e6 : t6 ≡ same xs (bytes "read")) where
            pub is_read : t6 ≡ true → Named Verb.Read ≡ action_of xs
            unfolding action_of
            is_read h = simp (sym e ∙ n, sym e2 ∙ n2, sym e3 ∙ n3, sym e4 ∙ n4, sym e5 ∙ n5, sym e6 ∙ h)

            module _ (n6 : t6 ≡ false) {t7 : Bool} (e7 : t7 ≡ same xs (bytes "change")) where
              pub is_change : t7 ≡ true → Named Verb.Change ≡ action_of xs
              unfolding action_of
              is_change h = simp (sym e ∙ n, sym e2 ∙ n2, sym e3 ∙ n3, sym e4 ∙ n4, sym e5 ∙ n5, sym e6 ∙ n6, sym e7 ∙ h)

              module _ (n7 : t7 ≡ false) {t8 : Bool} (e8 : t8 ≡ same xs (bytes "do")) where
                pub is_do : t8 ≡ true → Named Verb.Execute ≡ action_of xs
                unfolding action_of
                is_do h = simp (sym e ∙ n, sym e2 ∙ n2, sym e3 ∙ n3, sym e4 ∙ n4, sym e5 ∙ n5, sym e6 ∙ n6, sym e7 ∙ n7, sym e8 ∙ h)

                module _ (n8 : t8 ≡ false) {t9 : Bool} (e9 : t9 ≡ same xs (bytes "check")) where
                  pub is_check : t9 ≡ true → Named Verb.Check ≡ action_of xs
                  unfolding action_of
                  is_check h =
                      simp (sym e ∙ n, sym e2 ∙ n2, sym e3 ∙ n3, sym e4 ∙ n4, sym e5 ∙ n5, sym e6 ∙ n6, sym e7 ∙ n7, sym e8 ∙ n8, sym e9 ∙ h)

                  module _ (n9 : t9 ≡ false) {t10 : Bool} (e10 : t10 ≡ same xs (bytes "_count")) where
                    pub is_count : t10 ≡ true → Count ≡ action_of xs
                    unfolding action_of
                    is_count h =
                        simp (sym e ∙ n, sym e2 ∙ n2, sym e3 ∙ n3, sym e4 ∙ n4, sym e5 ∙ n5, sym e6 ∙ n6, sym e7 ∙ n7, sym e8 ∙ n8, sym e9 ∙ n9, sym e10 ∙ h)

                    pub is_unknown : t10 ≡ false → Unknown ≡ action_of xs
                    unfolding action_of
                    is_unknown h =
                        simp (sym e ∙ n, sym e2 ∙ n2, sym e3 ∙ n3, sym e4 ∙ n4, sym e5 ∙ n5, sym e6 ∙ n6, sym e7 ∙ n7, sym e8 ∙ n8, sym e9 ∙ n9, sym e10 ∙ h)

-- what a word asks for
pub asked : Action → Parts → R.Request
asked Identify p = R.identify
asked Describe p = R.describe
asked Ping p = R.ping p.specifier
asked (Scoped w) p = scoped (switch_request w) p.specifier
asked (Named v) p = named (verb_request v (or_null p.payload)) p.specifier
asked Count p = R.count
asked Unknown p = R.malformed

asked_cond : (b : Bool) (x y : Action) (p : Parts) → asked (cond b x y) p ≡ cond b (asked x p) (asked y p)
asked_cond true x y p = refl
asked_cond false x y p = refl

request_asked : (p : Parts) → request p ≡ asked (action_of p.action) p
unfolding request action_of asked
request_asked p = sym (simp asked_cond)

module _ (xs : List ℕ) (a s : Part) (w : Action) (e : w ≡ action_of (part xs a)) where
  asks : (x : List ℕ) → asked w (parts xs a s x) ≡ request (parts xs a s x)
  asks x = ap (λ (v : Action). asked v (parts xs a s x)) e ∙ sym (request_asked (parts xs a s x))

  pub asks_identify : w ≡ Identify → Asks xs a s Q.Identify
  unfolding asked
  asks_identify h = record { is = λ x. ap (λ (v : Action). asked v (parts xs a s x)) (sym h) ∙ asks x; inside = tt; begin = tt }

  pub asks_describe : w ≡ Describe → Asks xs a s Q.Describe
  unfolding asked
  asks_describe h = record { is = λ x. ap (λ (v : Action). asked v (parts xs a s x)) (sym h) ∙ asks x; inside = tt; begin = tt }

  pub asks_ping : w ≡ Ping → Asks xs a s Q.Ping
  unfolding asked
  asks_ping h = record { is = λ x. ap (λ (v : Action). asked v (parts xs a s x)) (sym h) ∙ asks x; inside = tt; begin = tt }

  pub asks_count : w ≡ Count → Asks xs a s Q.Count
  unfolding asked
  asks_count h = record { is = λ x. ap (λ (v : Action). asked v (parts xs a s x)) (sym h) ∙ asks x; inside = tt; begin = tt }

  pub asks_nothing : w ≡ Unknown → Asks xs a s Q.Malformed
  unfolding asked
  asks_nothing h = record { is = λ x. ap (λ (v : Action). asked v (parts xs a s x)) (sym h) ∙ asks x; inside = tt; begin = tt }

  pub asks_scoped :
      (v : Switch) (r : Request) → w ≡ Scoped v → AsksScoped xs s v r
      → Asks xs a s r
  unfolding asked
  asks_scoped v r h k = record { is = λ x. k.is x ∙ ap (λ (v : Action). asked v (parts xs a s x)) (sym h) ∙ asks x; inside = k.inside; begin = k.begin }

  pub asks_named :
      (v : Verb) (r : Request) → w ≡ Named v → AsksNamed xs s v r
      → Asks xs a s r
  unfolding asked
  asks_named v r h k = record { is = λ x. k.is x ∙ ap (λ (v : Action). asked v (parts xs a s x)) (sym h) ∙ asks x; inside = k.inside; begin = k.begin }

-- ## Modules: all, or a name

module _ (xs : List ℕ) (p : Part) (w : Within xs p) where
  part_length : length (part xs p) ≡ p.to - p.from
  part_length =
      let o = w.ordered in
      let i = w.within in
      length-take-le _ _ (rw length-drop (omega arith))

  module _ (v : Switch) where
    all_modules_lem : p.from ≡ p.to → scoped (switch_request v) (part xs p) ≡ switch_request v None
    unfolding scoped
    all_modules_lem e =
        let z : length (part xs p) ≡ 0 = part_length ∙ (omega arith) in
        rw (eq-eqb _ _ z)

    pub asks_all : p.from ≡ p.to → AsksScoped xs p v (Q.All v)
    asks_all e = record { is = λ x. sym (all_modules_lem e); inside = tt; begin = tt }

    module _ (n : p.from ≡ p.to → ⊥) (r : Cut) (k : Cuts xs p 58 r) {t : Bool} (d : t ≡ is_name (part xs r.first)) where
      one_module_lem : scoped (switch_request v) (part xs p) ≡ cond t (switch_request v (Some (part xs r.first))) R.malformed
      unfolding scoped module_part before
      one_module_lem =
          let o = w.ordered in
          let z : length (part xs p) ≡ 0 → ⊥ = λ e. n (let l = sym part_length ∙ e in omega arith) in
          rw (ne_eqb _ _ z, ← k.first, d)

      pub bad_module : t ≡ false → AsksScoped xs p v Q.Malformed
      bad_module h = record { is = λ x. sym (one_module_lem ∙ rw h); inside = tt; begin = tt }

      pub asks_module : t ≡ true → AsksScoped xs p v (Q.Scoped v r.first)
      asks_module h = record { is = λ x. sym (one_module_lem ∙ rw h); inside = k.first_in; begin = k.first_at }

-- ## Accessibles

module _ (xs : List ℕ) (p : Part) (v : Verb) (r : Cut) (k : Cuts xs p 58 r) {t : Bool} (d : t ≡ is_name (part xs r.first)) where
  both : (x : List ℕ)
      → named (verb_request v (or_null x)) (part xs p)
      ≡ cond (is_name (part xs r.first) && is_name (part xs r.second)) (verb_request v (or_null x) (part xs r.first) (part xs r.second)) R.malformed
  unfolding named module_part accessible_part before after from_stop
  both x = rw (← k.first, ← k.second)

  pub first_bad : t ≡ false → AsksNamed xs p v Q.Malformed
  first_bad h = record { is = λ x. sym (both x ∙ rw (sym d ∙ h)); inside = tt; begin = tt }

  module _ (h : t ≡ true) {u : Bool} (f : u ≡ is_name (part xs r.second)) where
    pub second_bad : u ≡ false → AsksNamed xs p v Q.Malformed
    second_bad g = record { is = λ x. sym (both x ∙ rw (sym d ∙ h, sym f ∙ g)); inside = tt; begin = tt }

    pub asks_accessible : u ≡ true → AsksNamed xs p v (Q.Named v r.first r.second)
    asks_accessible g =
        record {
          is = λ x. sym (both x ∙ rw (sym d ∙ h, sym f ∙ g));
          inside = (k.first_in, k.second_in);
          begin = record { module_at = k.first_at; accessible_at = k.second_at };
        }

-- ## A whole line

-- what the code finds in a line's parts is what the definitions find in the line's content
pub requested :
    (xs : List ℕ) (a s p : Part) (r : Request) → Parted xs a s p → Asks xs a s r
    → meaning xs (part xs s) (part xs p) r ≡ request (parts_of (content (whole xs)))
requested xs a s p r h k = k.is (part xs p) ∙ ap request (rw (h.action_is, h.specifier_is, h.payload_is))
