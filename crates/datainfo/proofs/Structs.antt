-- The members of a struct that was read, whether they have flags or not. Assumes nothing.
use Rattle.std.specs.Prelude.{Option, Some, None}
use Prim.Native.Nat.{ℕ, zero, suc, ◌-◌, ◌≤◌, ◌<◌}
use native.Mathlib.Numerals.{sub-one}
use native.Mathlib.Omega.{arith}
use mathlib.Core.Path.{◌≡◌, refl, sym, ap, ◌∙◌}
use mathlib.Core.Bool.{Bool, true, false, cond}
use mathlib.Core.List.{List, [], ◌∷◌}
use lib.ListN.{drop}
use lib.Dec.{leb, eqb}
use Rattle.ascii.specs.Bytes.{◌>>=◌, head, all}
use Rattle.ascii.specs.Numbers.{unsigned}
use Rattle.ascii.specs.Clauses.Reader.{Ends, rest}
use Rattle.ascii.proofs.Lists.{both}
use Rattle.datainfo.specs.Datainfo.{Datainfo, struct, partial, no_fields, Parts, field_names}
use Rattle.datainfo.specs.Layout.{counted, flag, flagged, entry, joined, fields, struct_at, partial_at, datainfo_in}
use Rattle.datainfo.specs.Clauses.Members.{after_field, members_at}
use Rattle.datainfo.specs.Clauses.Obeyed.{name_in}
use Rattle.datainfo.proofs.Ends.{one_byte, no_byte}
use Rattle.std.proofs.lemmas.Option.{same_Some}

nothing_read : {A S : Type 0} {a : A} → None ≡ Some a → S
nothing_read e = absurd (let z : ◌≡◌ {A = ℕ} 0 1 = cc in omega arith)

-- what is made of what was read
abbrev made_of : {A B : Type 0} → (A → B) → Option (A × List ℕ) → Option (B × List ℕ)
made_of {A} {B} f o = ◌>>=◌ {B = B × List ℕ} o (λ q. Some (f q.0, q.1))

module _ (f : List ℕ → Option (Datainfo × List ℕ)) where
  -- members that are made into a datainfo
  made : {S : Type 0} (k : ℕ) (mk : Parts → Datainfo) (xs : List ℕ) {o : Datainfo} {x : List ℕ}
      → (unsigned 1 xs >>= λ p. made_of mk (fields f k p.0 p.1)) ≡ Some (o, x)
      → ((m : Parts) → members_at f k xs ≡ Some (m, x) → o ≡ mk m → S) → S
  unfolding members_at
  made {S} k mk xs {o} {x} e g = go (unsigned 1 xs) e g
    where
      one : (w : Option (Parts × List ℕ)) → made_of mk w ≡ Some (o, x) → ((m : Parts) → w ≡ Some (m, x) → o ≡ mk m → S) → S
      one None e g = nothing_read e
      one (Some q) e g =
          let z = same_Some _ _ e in
          g q.0 (ap (λ y. Some (q.0, y)) (ap (λ (p : Datainfo × List ℕ). p.1) z)) (sym (ap (λ (p : Datainfo × List ℕ). p.0) z))

      go : (w : Option (ℕ × List ℕ)) → (w >>= λ p. made_of mk (fields f k p.0 p.1)) ≡ Some (o, x)
          → ((m : Parts) → (w >>= λ p. fields f k p.0 p.1) ≡ Some (m, x) → o ≡ mk m → S) → S
      go None e g = nothing_read e
      go (Some p) e g = one (fields f k p.0 p.1) e g

  pub struct_members : {S : Type 0} (xs : List ℕ) {o : Datainfo} {x : List ℕ} → struct_at f xs ≡ Some (o, x)
      → ((m : Parts) → members_at f 8 xs ≡ Some (m, x) → o ≡ struct m.1 → S) → S
  unfolding struct_at
  struct_members xs e g = made 8 (λ m. struct m.1) xs e g

  pub partial_members : {S : Type 0} (xs : List ℕ) {o : Datainfo} {x : List ℕ} → partial_at f xs ≡ Some (o, x)
      → ((m : Parts) → members_at f 11 xs ≡ Some (m, x) → o ≡ partial m.0 m.1 → S) → S
  unfolding partial_at
  partial_members xs e g = made 11 (λ m. partial m.0 m.1) xs e g

  module _ (k : ℕ) where
    pub fields_none : (n : ℕ) (xs : List ℕ) {m : Parts} {x : List ℕ} → n ≤ 0 → fields f k n xs ≡ Some (m, x) → m ≡ ([], no_fields)
    unfolding fields
    fields_none n xs h e = let z : n ≡ 0 = omega arith in sym (ap (λ (p : Parts × List ℕ). p.0) (same_Some _ _ (rw z at e)))

    -- the first of them
    pub fields_some : {S : Type 0} (n : ℕ) (xs : List ℕ) {m : Parts} {x : List ℕ} → 0 < n → fields f k n xs ≡ Some (m, x)
        → ((a : Bool × List ℕ) (r : List ℕ) (d : Datainfo) (y : List ℕ) (gs : Parts) → entry k xs ≡ Some (a, r) → f r ≡ Some (d, y)
        → fields f k (n - 1) y ≡ Some (gs, x) → m ≡ joined a d gs → S) → S
    unfolding fields
    fields_some zero xs h e g = absurd (omega arith)
    fields_some {S} (suc n) xs {m} {x} h e g = go (entry k xs) e (λ a r d y gs i j l. g a r d y gs i j (rw (sub-one (suc n)) l))
      where
        three : (a : Bool × List ℕ) (d : Datainfo) (w : Option (Parts × List ℕ)) → made_of (joined a d) w ≡ Some (m, x)
            → ((gs : Parts) → w ≡ Some (gs, x) → m ≡ joined a d gs → S) → S
        three a d None e g = nothing_read e
        three a d (Some q) e g =
            let z = same_Some _ _ e in
            g q.0 (ap (λ y. Some (q.0, y)) (ap (λ (p : Parts × List ℕ). p.1) z)) (sym (ap (λ (p : Parts × List ℕ). p.0) z))

        two : (a : Bool × List ℕ) (w : Option (Datainfo × List ℕ))
            → (w >>= λ p. made_of (joined a p.0) (fields f k n p.1)) ≡ Some (m, x)
            → ((d : Datainfo) (y : List ℕ) (gs : Parts) → w ≡ Some (d, y) → fields f k n y ≡ Some (gs, x) → m ≡ joined a d gs → S) → S
        two a None e g = nothing_read e
        two a (Some p) e g = three a p.0 (fields f k n p.1) e (λ gs l z. g p.0 p.1 gs refl l z)

        go : (w : Option ((Bool × List ℕ) × List ℕ))
            → (w >>= λ e. f e.1 >>= λ p. made_of (joined e.0 p.0) (fields f k n p.1)) ≡ Some (m, x)
            → ((a : Bool × List ℕ) (r : List ℕ) (d : Datainfo) (y : List ℕ) (gs : Parts) → w ≡ Some (a, r) → f r ≡ Some (d, y) → fields f k n y ≡ Some (gs, x)
            → m ≡ joined a d gs → S) → S
        go None e g = nothing_read e
        go (Some a) e g = two a.0 (f a.1) e (λ d y gs j l z. g a.0 a.1 d y gs refl j l z)

    -- past it
    pub past_field : (xs : List ℕ) {a : Bool × List ℕ} {r y : List ℕ} {d : Datainfo} → entry k xs ≡ Some (a, r) → f r ≡ Some (d, y)
        → after_field f k xs ≡ Some y
    unfolding after_field
    past_field xs a b = rw (a, b)

-- a name that is there is the one that was read
pub name_read : (k : ℕ) (xs t : List ℕ) → t ≡ name_in k xs → {a : Bool × List ℕ} {r : List ℕ} → entry k xs ≡ Some (a, r) → t ≡ a.1
unfolding name_in
name_read k xs t e f = e ∙ rw f

module _ (s : List ℕ) (at l k : ℕ) (q : Option ℕ) (h : Ends s q (rest (entry k (drop at s)))) where
  pub field_nameless : q ≡ None → after_field (datainfo_in l) k (drop at s) ≡ None
  unfolding after_field
  field_nameless e = simp (rw e at h)

  pub field_past : (i : ℕ) (r : Option ℕ) → q ≡ Some i → Ends s r (rest (datainfo_in l (drop i s))) → Ends s r (after_field (datainfo_in l) k (drop at s))
  unfolding after_field
  field_past i r e g = simp (rw e at h).0 g

-- the flag of a member of type 11 is the byte in front of it
flag_first : (xs : List ℕ) (p : Bool × List ℕ) → flag xs ≡ Some p → p.0 ≡ eqb (head xs) 1
unfolding flag head
flag_first [] p e = nothing_read (sym (rw (no_byte [] 0 (omega arith))) ∙ e)
flag_first (x ∷ xs) p e = go (leb x 1) (rw (one_byte (x ∷ xs) 0 (omega arith)) at e)
  where
    go : (b : Bool) → cond {A = Option (Bool × List ℕ)} b (Some (eqb x 1, xs)) None ≡ Some p → p.0 ≡ eqb x 1
    go true e = sym (ap (λ (w : Bool × List ℕ). w.0) (same_Some _ _ e))
    go false e = nothing_read e

pub entry_flag : (xs : List ℕ) {a : Bool × List ℕ} {y : List ℕ} → entry 11 xs ≡ Some (a, y) → a.0 ≡ eqb (head xs) 1
unfolding entry flagged
entry_flag xs {a} {y} e = go (flag xs) refl e
  where
    inner : (o : Bool) (w : Option (List ℕ × List ℕ)) → ◌>>=◌ {B = (Bool × List ℕ) × List ℕ} w (λ q. Some ((o, q.0), q.1)) ≡ Some (a, y) → a.0 ≡ o
    inner o None e = nothing_read e
    inner o (Some q) e = sym (ap (λ (w : (Bool × List ℕ) × List ℕ). w.0.0) (same_Some _ _ e))

    go : (w : Option (Bool × List ℕ)) → flag xs ≡ w
        → ◌>>=◌ {B = (Bool × List ℕ) × List ℕ} w (λ p. counted p.1 >>= λ q. Some ((p.0, q.0), q.1)) ≡ Some (a, y) → a.0 ≡ eqb (head xs) 1
    go None f e = nothing_read e
    go (Some p) f e = inner p.0 (counted p.1) e ∙ flag_first xs p f

-- what holds of all names holds of the optional ones
pub optional_all : (f : List ℕ → Option (Datainfo × List ℕ)) (k : ℕ) (p : List ℕ → Bool) (n : ℕ) (xs : List ℕ) (m : Parts) (x : List ℕ)
    → fields f k n xs ≡ Some (m, x) → all p (field_names m.1) ≡ true → all p m.0 ≡ true
unfolding all field_names joined
optional_all f k p zero xs m x e h = rw (fields_none f k zero xs (omega arith) e)
optional_all f k p (suc n) xs m x e h = fields_some f k (suc n) xs (omega arith) e λ a r d y gs i j o w.
    let b = both (p a.1) (all p (field_names gs.1)) (rw w at h) in
    rw w (go a.0 gs a.1 b.0 (optional_all f k p n y gs x (rw (sub-one (suc n)) at o) b.1))
  where
    go : (o : Bool) (gs : Parts) (name : List ℕ) → p name ≡ true → all p gs.0 ≡ true → all p (cond o (name ∷ gs.0) gs.0) ≡ true
    go true gs name h g = rw (h, g)
    go false gs name h g = g
