-- Laws of what was read and is written: what it comes to where something could be read. Assumes nothing.
use Rattle.std.specs.Prelude.{Option, Some, None}
use Prim.Native.Nat.{ℕ}
use native.Mathlib.Omega.{arith}
use mathlib.Core.Path.{◌≡◌, refl, sym, ap, ◌∙◌}
use mathlib.Core.Bool.{Bool}
use mathlib.Core.List.{List, [], ◌++◌}
use Rattle.ascii.specs.Bytes.{◌>>=◌}
use Rattle.ascii.specs.Clauses.Reader.{rest}
use Rattle.emit.specs.Clauses.Emitted.{Emits, comma, told, Says}
use Rattle.emit.proofs.Pieces.{both}

pub never : {A : Type 0} {t : A} → None ≡ Some t → ⊥
never e = let z : ◌≡◌ {A = ℕ} 0 1 = cc in omega arith

-- nothing can be read
pub says_nothing : {o : Option (List ℕ × List ℕ)} {d e : List ℕ} {at r : ℕ} → o ≡ None → Says o d at e r
says_nothing z = record { is = λ q. absurd (never (sym z ∙ q)) }

abbrev text_of : Option (List ℕ × List ℕ) → List ℕ
text_of None = []
text_of (Some p) = p.0

-- a text is written that is what was read
pub says_text : {o : Option (List ℕ × List ℕ)} {d e text left : List ℕ} {at r : ℕ} → o ≡ Some (text, left) → Emits d at text e r → Says o d at e r
says_text {o} {d} {e} {text} {at} {r} z x = record { is = go }
  where
    go : {u v : List ℕ} → o ≡ Some (u, v) → Emits d at u e r
    go {u} q = let y : text ≡ u = ap text_of (sym z ∙ q) in rw (← y) x

-- what is read is written, with other texts before and after it
module _ {A B : Type 0} (f : A → List ℕ) (m : A → B) (g : B → List ℕ) {d h : List ℕ} {at r : ℕ} where
  pub mapped : (o : Option (A × List ℕ)) {e e' : List ℕ} {p q : ℕ} → ((a : A) → Emits e p (f a) e' q → Emits d at (g (m a)) h r) → Says (told f o) e p e' q → Says (told g (o >>= λ y. Some (m y.0, y.1))) d at h r
  mapped None k y = says_nothing refl
  mapped (Some a) k y = says_text refl (k a.0 (y.is refl))

-- another text of the same
pub retold : {A : Type 0} (f g : A → List ℕ) (o : Option (A × List ℕ)) {d e e' h : List ℕ} {at p q r : ℕ} → ((a : A) → Emits e p (f a) e' q → Emits d at (g a) h r) → Says (told f o) e p e' q → Says (told g o) d at h r
retold f g None k y = says_nothing refl
retold f g (Some a) k y = says_text refl (k a.0 (y.is refl))

pub told_same : {A : Type 0} (f g : A → List ℕ) → ((a : A) → f a ≡ g a) → (o : Option (A × List ℕ)) → told f o ≡ told g o
told_same f g h None = refl
told_same f g h (Some a) = rw (h a.0)

pub rest_told : {A : Type 0} (f : A → List ℕ) (o : Option (A × List ℕ)) → rest (told f o) ≡ rest o
rest_told f None = refl
rest_told f (Some p) = refl

-- where the text o' is written at one place, the text o is written at another
pub record Leads (o : Option (List ℕ × List ℕ)) (d : List ℕ) (at : ℕ) (o' : Option (List ℕ × List ℕ)) (d' : List ℕ) (at' : ℕ) : Type 0 where
  pub says : {e : List ℕ} {r : ℕ} → Says o' d' at' e r → Says o d at e r

-- ## Lists with commas between their parts

-- one part of a list, which o reads, and the others, which f reads
module _ (first : Bool) (o : Option (List ℕ × List ℕ)) (f : List ℕ → Option (List ℕ × List ℕ)) where
  abbrev parts : Option (List ℕ × List ℕ)
  parts = o >>= λ p. told (λ t. comma first ++ p.0 ++ t) (f p.1)

  pub parts_none : rest o ≡ None → parts ≡ None
  parts_none h = go o h
    where
      go : (o : Option (List ℕ × List ℕ)) → rest o ≡ None → (o >>= λ p. told (λ t. comma first ++ p.0 ++ t) (f p.1)) ≡ None
      go None h = refl
      go (Some p) h = absurd (never (sym h))

  pub parts_more : {left : List ℕ} → rest o ≡ Some left → {d d1 d2 : List ℕ} {p p1 p2 : ℕ} → Emits d p (comma first) d1 p1 → Says o d1 p1 d2 p2 → Leads parts d p (f left) d2 p2
  parts_more {left} h {d} {d1} {d2} {p} {p1} {p2} x y = record { says = λ z. go o h y z }
    where
      last : (m : List ℕ) {e : List ℕ} {r : ℕ} → Emits d1 p1 m d2 p2 → (q : Option (List ℕ × List ℕ)) → Says q d2 p2 e r → Says (told (λ t. comma first ++ m ++ t) q) d p e r
      last m w None z = says_nothing refl
      last m w (Some q) z = says_text refl (both (both x w) (z.is refl))

      go : {e : List ℕ} {r : ℕ} → (o : Option (List ℕ × List ℕ)) → rest o ≡ Some left → Says o d1 p1 d2 p2 → Says (f left) d2 p2 e r → Says (o >>= λ p. told (λ t. comma first ++ p.0 ++ t) (f p.1)) d p e r
      go None h y z = absurd (never h)
      go (Some a) h y z = let w : a.1 ≡ left = cc in rw w (last a.0 (y.is refl) (f left) z)
