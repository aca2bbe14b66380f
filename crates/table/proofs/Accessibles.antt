-- Laws of parameters and commands, one for each way through a function that reads one. Assumes nothing.
use Rattle.std.specs.Prelude.{Option, Some, None}
use Prim.Native.Nat.{ℕ, ◌-◌, ◌≤◌}
use native.Mathlib.Omega.{arith}
use mathlib.Core.Path.{◌≡◌, refl, sym, ap, ◌∙◌}
use mathlib.Core.Bool.{Bool, true, false}
use mathlib.Core.List.{List, [], ◌∷◌}
use lib.ListN.{length, drop, length-drop}
use Rattle.ascii.specs.Text.{bytes}
use Rattle.ascii.specs.Bytes.{◌>>=◌, after, part}
use Rattle.ascii.specs.Numbers.{unsigned}
use Rattle.ascii.specs.Clauses.Reader.{Ends, rest}
use Rattle.ascii.proofs.Follows.{rest_map}
use Rattle.datainfo.specs.Layout.{counted, datainfo_in, datainfo_at}
use Rattle.table.specs.Table as Table
use Rattle.table.specs.Layout.{begins, flag, argument_at, parameter_at, command_at}
use Rattle.table.specs.declared.layout.Part.{Part}
use Rattle.table.specs.declared.layout.Accessible as A
use Rattle.table.specs.Clauses.At.{Sized, texts_at, TextsAt, FlagIs, accessible_begins, accessible_at, parameter_of, ParameterIs, command_of, CommandIs, AccessibleIs}

-- ## Readers that go on after a record's beginning

then_none : {A B C : Type 0} (o : Option A) (f : A → Option B) (g : A → B → Option C) → (o >>= f) ≡ None → (o >>= λ a. f a >>= g a) ≡ None
then_none None f g h = refl
then_none (Some a) f g h = simp h

-- what goes on after a mark and two texts
module _ {B : Type 0} (f : List ℕ → List ℕ → List ℕ → Option B) where
  abbrev pub goes_on : (List ℕ × List ℕ) × List ℕ → Option B
  goes_on t = f t.0.0 t.0.1 t.1

  abbrev two : List ℕ → List ℕ × List ℕ → (List ℕ × List ℕ) × List ℕ
  two n d = ((n, d.0), d.1)

  pub texts_then : (m xs : List ℕ) → (after m xs >>= λ a. counted a >>= λ n. counted n.1 >>= λ d. f n.0 d.0 d.1) ≡ (texts_at m xs >>= goes_on)
  unfolding texts_at
  texts_then m xs = go (after m xs)
    where
      second : (n : List ℕ) (o : Option (List ℕ × List ℕ)) → (o >>= λ d. f n d.0 d.1) ≡ ((o >>= λ d. Some (two n d)) >>= goes_on)
      second n None = refl
      second n (Some d) = refl

      first : (o : Option (List ℕ × List ℕ)) → (o >>= λ n. counted n.1 >>= λ d. f n.0 d.0 d.1) ≡ ((o >>= λ n. counted n.1 >>= λ d. Some (two n.0 d)) >>= goes_on)
      first None = refl
      first (Some n) = second n.0 (counted n.1)

      go : (o : Option (List ℕ)) → (o >>= λ a. counted a >>= λ n. counted n.1 >>= λ d. f n.0 d.0 d.1) ≡ ((o >>= λ a. counted a >>= λ n. counted n.1 >>= λ d. Some (two n.0 d)) >>= goes_on)
      go None = refl
      go (Some a) = first (counted a)

pub in_some : {A : Type 0} {p q : A} → Some p ≡ Some q → p ≡ q
in_some e = cc

-- what a reader read that left r
pub record Got {A : Type 0} (o : Option (A × List ℕ)) (r : List ℕ) : Type 0 where
  pub it : A
  pub is : o ≡ Some (it, r)

pub got : {A : Type 0} (o : Option (A × List ℕ)) (r : List ℕ) → rest o ≡ Some r → Got o r
got None r e = let z : ◌≡◌ {A = ℕ} 0 1 = cc in absurd (omega arith)
got (Some p) r e = let z : p.1 ≡ r = cc in record { it = p.0; is = ap (λ (l : List ℕ). Some (p.0, l)) z }

pub rest_none : {A C : Type 0} (o : Option (A × List ℕ)) (g : A × List ℕ → Option C) → rest o ≡ None → (o >>= g) ≡ None
rest_none None g h = refl
rest_none (Some i) g h = let z : ◌≡◌ {A = ℕ} 0 1 = cc in absurd (omega arith)

-- ## Parameters

-- what follows a parameter's texts
abbrev after_texts : ℕ → List ℕ → List ℕ → List ℕ → Option (Table.Accessible × List ℕ)
after_texts n name text c =
    flag c >>= λ f. datainfo_at f.1 >>= λ i. unsigned 2 i.1 >>= λ u. part u.0 u.1 >>= λ v.
    Some (Table.parameter (record { name = name; description = text; readonly = f.0; datainfo = i.0; initial = v.0; place = n - length u.1 }), v.1)

parameter_as : (n : ℕ) (xs : List ℕ) → parameter_at n xs ≡ (texts_at (80 ∷ 65 ∷ []) xs >>= goes_on (after_texts n))
unfolding parameter_at bytes
parameter_as n xs = texts_then (after_texts n) (80 ∷ 65 ∷ []) xs

module _ (s : List ℕ) (at : ℕ) (t : Option (Part × Part)) (ht : TextsAt s t (texts_at (80 ∷ 65 ∷ []) (drop at s))) where
  pub parameter_untold : t ≡ None → parameter_at (length s) (drop at s) ≡ None
  parameter_untold e = simp (parameter_as, rw e at ht)

  module _ (p q : Part) (et : t ≡ Some (p, q)) where
    module _ (f : Option (Bool × ℕ)) (hf : FlagIs s f (flag (drop q.to s))) where
      pub parameter_flagless : f ≡ None → parameter_at (length s) (drop at s) ≡ None
      parameter_flagless e = simp (parameter_as, (rw et at ht).is, rw e at hf)

      module _ (b : Bool) (info₀ : ℕ) (ef : f ≡ Some (b, info₀)) where
        module _ (d : Option ℕ) (hd : Ends s d (rest (datainfo_in 4 (drop info₀ s)))) where
          pub parameter_typeless : d ≡ None → parameter_at (length s) (drop at s) ≡ None
          parameter_typeless e = simp (parameter_as, (rw et at ht).is, (rw ef at hf).0) (rest_none (datainfo_at (drop info₀ s)) _ (rw e at hd))

          module _ (e : ℕ) (ed : d ≡ Some e) (v : Option Part) (hv : Sized s e 2 v) where
            info : Got (datainfo_at (drop info₀ s)) (drop e s)
            info = got _ _ (rw ed at hd).0

            pub parameter_valueless : v ≡ None → parameter_at (length s) (drop at s) ≡ None
            parameter_valueless z =
                simp (parameter_as, (rw et at ht).is, (rw ef at hf).0, info.is)
                (then_none (unsigned 2 (drop e s)) _ _ (rw z at hv))

            pub parameter_good : (i : Part) → v ≡ Some i → ParameterIs s (record { name = p; description = q; readonly = b; info = info₀; initial = i; next = i.to }) (parameter_at (length s) (drop at s))
            unfolding parameter_of
            parameter_good i z =
                let x = rw z at hv in
                let w = x.inside.within in
                let o = x.inside.order in
                let l : length s - length (drop i.from s) ≡ i.from = rw length-drop (omega arith) in
                record {
                  datainfo = info.it;
                  left = drop e s;
                  is = simp (parameter_as, (rw et at ht).is, (rw ef at hf).0, info.is, x.size, x.held, l);
                  info = info.is;
                  name = (rw et at ht).name;
                  description = (rw et at ht).description;
                  initial = x.inside;
                  info_within = (rw ef at hf).1;
                  next_within = w;
                  between = (rw et at ht).between;
                  flagged = (rw ef at hf).0;
                  size = x.size;
                  end = refl;
                }

-- ## Commands

module _ (s : List ℕ) (at : ℕ) (has : Bool) where
  pub argument_none : has ≡ false → at ≤ length s → Ends s (Some at) (rest (argument_at has (drop at s)))
  unfolding argument_at
  argument_none e w = rw e (refl, w)

  pub argument_some : has ≡ true → (r : Option ℕ) → Ends s r (rest (datainfo_in 4 (drop at s))) → Ends s r (rest (argument_at has (drop at s)))
  unfolding argument_at
  argument_some e r h = rw e (rw (rest_map (datainfo_at (drop at s)) (λ p. Some p.0)) h)

-- what follows a command's texts
abbrev after_name : List ℕ → List ℕ → List ℕ → Option (Table.Accessible × List ℕ)
after_name name text c =
    flag c >>= λ f. argument_at f.0 f.1 >>= λ a.
    Some (Table.command (record { name = name; description = text; argument = a.0 }), a.1)

command_as : (xs : List ℕ) → command_at xs ≡ (texts_at (67 ∷ 77 ∷ []) xs >>= goes_on after_name)
unfolding command_at bytes
command_as xs = texts_then after_name (67 ∷ 77 ∷ []) xs

module _ (s : List ℕ) (at : ℕ) (t : Option (Part × Part)) (ht : TextsAt s t (texts_at (67 ∷ 77 ∷ []) (drop at s))) where
  pub command_untold : t ≡ None → command_at (drop at s) ≡ None
  command_untold e = simp (command_as, rw e at ht)

  module _ (p q : Part) (et : t ≡ Some (p, q)) (f : Option (Bool × ℕ)) (hf : FlagIs s f (flag (drop q.to s))) where
    pub command_flagless : f ≡ None → command_at (drop at s) ≡ None
    command_flagless e = simp (command_as, (rw et at ht).is, rw e at hf)

    module _ (b : Bool) (info₀ : ℕ) (ef : f ≡ Some (b, info₀)) (d : Option ℕ) (hd : Ends s d (rest (argument_at b (drop info₀ s)))) where
      pub command_typeless : d ≡ None → command_at (drop at s) ≡ None
      command_typeless e = simp (command_as, (rw et at ht).is, (rw ef at hf).0) (rest_none (argument_at b (drop info₀ s)) _ (rw e at hd))

      pub command_good : (e : ℕ) → d ≡ Some e → CommandIs s (record { name = p; description = q; argument = b; info = info₀; next = e }) (command_at (drop at s))
      unfolding command_of
      command_good e ed =
          let i = got (argument_at b (drop info₀ s)) (drop e s) (rw ed at hd).0 in
          record {
            argument = i.it;
            is = simp (command_as, (rw et at ht).is, (rw ef at hf).0, i.is);
            info = i.is;
            name = (rw et at ht).name;
            description = (rw et at ht).description;
            info_within = (rw ef at hf).1;
            next_within = (rw ed at hd).1;
            between = (rw et at ht).between;
            flagged = (rw ef at hf).0;
          }

-- ## Either

module _ (s : List ℕ) (at : ℕ) (b : Bool) (hb : b ≡ begins (80 ∷ 65 ∷ []) (drop at s)) where
  pub accessible_parameter : (r : Option A.Accessible) → b ≡ true → AccessibleIs s r (parameter_at (length s) (drop at s)) → AccessibleIs s r (accessible_at (length s) (drop at s))
  unfolding accessible_at bytes
  accessible_parameter r e h = simp (sym hb ∙ e) h

  pub accessible_command : (r : Option A.Accessible) → b ≡ false → AccessibleIs s r (command_at (drop at s)) → AccessibleIs s r (accessible_at (length s) (drop at s))
  unfolding accessible_at bytes
  accessible_command r e h = simp (sym hb ∙ e) h

  pub begins_parameter : b ≡ true → true ≡ accessible_begins (drop at s)
  unfolding bytes
  begins_parameter e = simp (sym hb ∙ e)

  pub begins_command : b ≡ false → (c : Bool) → c ≡ begins (67 ∷ 77 ∷ []) (drop at s) → c ≡ accessible_begins (drop at s)
  unfolding bytes
  begins_command e c hc = simp (sym hb ∙ e) hc
