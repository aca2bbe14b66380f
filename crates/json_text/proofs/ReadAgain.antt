-- The bytes that a reader of a number or of a string took, it takes again whatever follows them. Assumes nothing.
use Rattle.std.specs.Prelude.{Option, Some, None}
use Prim.Native.Nat.{ℕ, zero, suc, ◌-◌, ◌<◌}
use native.Mathlib.Omega.{arith}
use mathlib.Core.Path.{◌≡◌, refl, sym, ◌∙◌, ap}
use mathlib.Core.Bool.{Bool, true, false, cond, ◌||◌}
use mathlib.Core.List.{List, [], ◌∷◌, ◌++◌, append_assoc}
use lib.ListN.{length, length-append}
use lib.Dec.{eqb}
use lib.Seq.{take_at}
use borrow.Author.Tests.{eqb-true}
use Rattle.ascii.specs.Bytes.{◌>>=◌, head, tail, drop_while, is_in, is_digit, is_printable}
use Rattle.decimal.specs.Token.{digits, minus, int, frac, sign, is_e, exp, number}
use Rattle.json_text.specs.Json.{is_hex, is_escape, hex, hex4, escape, char, chars, up_to, inside}

-- P holds of what was read, if anything was
pub data Of {A : Type 0} (P : A → Type 0) : Option A → Type 0 where
  failed : Of P None
  gave : {a : A} → P a → Of P (Some a)

pub of_cond : {A : Type 0} {P : A → Type 0} (b : Bool) {x y : Option A} → Of P x → Of P y → Of P (cond b x y)
of_cond true p q = p
of_cond false p q = q

-- the same, with what the test gave
pub of_case : {A : Type 0} {P : A → Type 0} (b : Bool) {x y : Option A} → (b ≡ true → Of P x) → (b ≡ false → Of P y) → Of P (cond b x y)
of_case true p q = p refl
of_case false p q = q refl

pub of_bind : {A B : Type 0} {P : A → Type 0} {Q : B → Type 0} {o : Option A} {g : A → Option B}
    → Of P o → ((a : A) → P a → Of Q (g a)) → Of Q (o >>= g)
of_bind failed h = failed
of_bind (gave {a = a} p) h = h a p

pub of_some : {A : Type 0} {P : A → Type 0} {a : A} → Of P (Some a) → P a
of_some (gave p) = p

pub of_map : {A : Type 0} {P Q : A → Type 0} {o : Option A} → Of P o → ((a : A) → P a → Q a) → Of Q o
of_map failed h = failed
of_map (gave {a = a} p) h = gave (h a p)

-- f read the bytes t, and reads them in front of every rest that is In; t and the rest together are Out
pub record Follows (f : List ℕ → Option (List ℕ)) (In Out : List ℕ → Type 0) (xs r : List ℕ) : Type 0 where
  pub t : List ℕ
  pub is : xs ≡ t ++ r
  pub again : (rest : List ℕ) → In rest → f (t ++ rest) ≡ Some rest
  pub out : (rest : List ℕ) → In rest → Out (t ++ rest)

-- whatever follows
abbrev pub Any : List ℕ → Type 0
Any xs = Unit

-- whatever f reads, it reads again
abbrev pub Keeps : (List ℕ → Option (List ℕ)) → (List ℕ → Type 0) → (List ℕ → Type 0) → Type 0
Keeps f In Out = (xs : List ℕ) → Of (Follows f In Out xs) (f xs)

-- the same, of a reader that takes a byte at least
abbrev pub Takes : (List ℕ → Option (List ℕ)) → (List ℕ → Type 0) → Type 0
Takes f In = (f [] ≡ None) × ((x : ℕ) → Keeps (λ z. f (x ∷ z)) In Any)

module _ {In Out : List ℕ → Type 0} where
  -- nothing was there to read
  nothing : (f : List ℕ → Option (List ℕ)) → ((rest : List ℕ) → In rest → f rest ≡ Some rest)
      → ((rest : List ℕ) → In rest → Out rest) → (xs : List ℕ) → Of (Follows f In Out xs) (Some xs)
  nothing f h g xs = gave (record { t = []; is = refl; again = h; out = g })

  keeps_cond : (b : Bool) {f g : List ℕ → Option (List ℕ)} → Keeps f In Out → Keeps g In Out
      → Keeps (λ z. cond b (f z) (g z)) In Out
  keeps_cond true h k = h
  keeps_cond false h k = k

  keeps_bind : {Mid : List ℕ → Type 0} {f g : List ℕ → Option (List ℕ)} → Keeps f Mid Out → Keeps g In Mid
      → Keeps (λ z. f z >>= g) In Out
  keeps_bind h k xs = of_bind (h xs) λ y p. of_map (k y) λ r q. record {
    t = p.t ++ q.t;
    is = p.is ∙ ap (λ z. p.t ++ z) q.is ∙ sym (append_assoc p.t q.t r);
    again = λ rest i. rw (append_assoc, p.again (q.t ++ rest) (q.out rest i)) (q.again rest i);
    out = λ rest i. rw append_assoc (p.out (q.t ++ rest) (q.out rest i));
  }

-- past a byte, nothing more is looked at
byte : {In : List ℕ → Type 0} → Keeps Some In Any
byte = nothing Some (λ rest i. refl) (λ rest i. tt)

module _ {f : List ℕ → Option (List ℕ)} {In : List ℕ → Type 0} where
  pub takes_keeps : Takes f In → Keeps f In Any
  takes_keeps h [] = rw h.0 failed
  takes_keeps h (x ∷ xs) = of_map (h.1 x xs) λ r p.
      record { t = x ∷ p.t; is = ap (λ z. x ∷ z) p.is; again = p.again; out = λ rest i. tt }

-- ## Numbers

abbrev NoDigit : List ℕ → Type 0
NoDigit xs = is_digit (head xs) ≡ false

abbrev NoFraction : List ℕ → Type 0
NoFraction xs = NoDigit xs × (eqb (head xs) 46 ≡ false)

-- what may follow a value in compact text
pub record Stop (xs : List ℕ) : Type 0 where
  pub digit : is_digit (head xs) ≡ false
  pub dot : eqb (head xs) 46 ≡ false
  pub e : is_e (head xs) ≡ false
  pub space : eqb (head xs) 32 ≡ false

pub stop_end : Stop []
unfolding head is_in
stop_end = record { digit = refl; dot = refl; e = refl; space = refl }

pub stop_comma : (xs : List ℕ) → Stop (44 ∷ xs)
unfolding head is_in
stop_comma xs = record { digit = refl; dot = refl; e = refl; space = refl }

pub stop_bracket : (xs : List ℕ) → Stop (93 ∷ xs)
unfolding head is_in
stop_bracket xs = record { digit = refl; dot = refl; e = refl; space = refl }

pub stop_brace : (xs : List ℕ) → Stop (125 ∷ xs)
unfolding head is_in
stop_brace xs = record { digit = refl; dot = refl; e = refl; space = refl }

-- nothing is dropped where the first byte stays
pub stays : (p : ℕ → Bool) (xs : List ℕ) → p (head xs) ≡ false → drop_while p xs ≡ xs
unfolding drop_while head
stays p [] e = refl
stays p (x ∷ xs) e = rw e

-- past the digits
abbrev past : List ℕ → Option (List ℕ)
past xs = Some (drop_while is_digit xs)

past_keeps : Keeps past NoDigit Any
unfolding drop_while
past_keeps [] = nothing past (λ rest i. rw (stays is_digit rest i)) (λ rest i. tt) []
past_keeps (x ∷ xs) = go (is_digit x) refl (past_keeps xs)
  where
    go : (b : Bool) → is_digit x ≡ b → Of (Follows past NoDigit Any xs) (past xs)
        → Of (Follows past NoDigit Any (x ∷ xs)) (Some (cond b (drop_while is_digit xs) (x ∷ xs)))
    go true e h = of_map h λ r p.
        record { t = x ∷ p.t; is = ap (λ z. x ∷ z) p.is; again = λ rest i. rw e (p.again rest i); out = λ rest i. tt }
    go false e h = nothing past (λ rest i. rw (stays is_digit rest i)) (λ rest i. tt) (x ∷ xs)

digits_takes : Takes digits NoDigit
unfolding digits drop_while head is_in
digits_takes = (refl, λ x. go x (is_digit x))
  where
    go : (x : ℕ) (b : Bool) → Keeps (λ z. cond b (Some (cond b (drop_while is_digit z) (x ∷ z))) None) NoDigit Any
    go x true = past_keeps
    go x false = λ xs. failed

digits_keeps : Keeps digits NoDigit Any
digits_keeps = takes_keeps digits_takes

int_takes : Takes int NoDigit
unfolding int digits head tail is_in
int_takes = (refl, λ x. keeps_cond (eqb x 48) byte (digits_takes.1 x))

frac_keeps : Keeps frac NoFraction NoDigit
unfolding frac head tail is_in
frac_keeps [] = nothing frac (λ rest i. rw i.1) (λ rest i. i.0) []
frac_keeps (x ∷ xs) = go (eqb x 46) refl
  where
    go : (b : Bool) → eqb x 46 ≡ b → Of (Follows frac NoFraction NoDigit (x ∷ xs)) (cond b (digits xs) (Some (x ∷ xs)))
    go true e = of_map (digits_keeps xs) λ r p. record {
      t = x ∷ p.t;
      is = ap (λ z. x ∷ z) p.is;
      again = λ rest i. rw e (p.again rest i.0);
      out = λ rest i. rw (eqb-true x 46 e);
    }
    go false e = nothing frac (λ rest i. rw i.1) (λ rest i. i.0) (x ∷ xs)

signed_keeps : Keeps (λ z. digits (sign z)) NoDigit Any
unfolding sign minus head tail digits is_in
signed_keeps = takes_keeps (refl, λ x. go x (eqb x 43) (eqb x 45))
  where
    go : (x : ℕ) (a b : Bool) → Keeps (λ z. digits (cond a z (cond b z (x ∷ z)))) NoDigit Any
    go x true b = digits_keeps
    go x false true = digits_keeps
    go x false false = digits_takes.1 x

e_starts : (x : ℕ) → is_e x ≡ true → (is_digit x ≡ false) × (eqb x 46 ≡ false)
unfolding is_in
e_starts x = go (eqb x 101) refl (eqb x 69) refl
  where
    go : (a : Bool) → eqb x 101 ≡ a → (b : Bool) → eqb x 69 ≡ b → (a || b) ≡ true
        → (is_digit x ≡ false) × (eqb x 46 ≡ false)
    go true e b f h = rw (eqb-true x 101 e) (refl, refl)
    go false e true f h = rw (eqb-true x 69 f) (refl, refl)
    go false e false f h = (cc, cc)

exp_keeps : Keeps exp Stop NoFraction
unfolding exp head tail
exp_keeps [] = nothing exp (λ rest i. rw i.e) (λ rest i. (i.digit, i.dot)) []
exp_keeps (x ∷ xs) = go (is_e x) refl
  where
    go : (b : Bool) → is_e x ≡ b → Of (Follows exp Stop NoFraction (x ∷ xs)) (cond b (digits (sign xs)) (Some (x ∷ xs)))
    go true e = of_map (signed_keeps xs) λ r p. record {
      t = x ∷ p.t;
      is = ap (λ z. x ∷ z) p.is;
      again = λ rest i. rw e (p.again rest i.digit);
      out = λ rest i. e_starts x e;
    }
    go false e = nothing exp (λ rest i. rw i.e) (λ rest i. (i.digit, i.dot)) (x ∷ xs)

int_frac_exp : (f : List ℕ → Option (List ℕ)) → Keeps f NoDigit Any → Keeps (λ z. f z >>= frac >>= exp) Stop Any
int_frac_exp f h = keeps_bind {f = λ z. f z >>= frac} (keeps_bind {f = f} h frac_keeps) exp_keeps

pub number_takes : Takes number Stop
unfolding number minus int digits head tail is_in
number_takes = (refl, λ x. go x (eqb x 45))
  where
    go : (x : ℕ) (b : Bool) → Keeps (λ z. int (cond b z (x ∷ z)) >>= frac >>= exp) Stop Any
    go x true = int_frac_exp int (takes_keeps int_takes)
    go x false = int_frac_exp (λ z. int (x ∷ z)) (int_takes.1 x)

pub up_to_is : (t r : List ℕ) → up_to (t ++ r) r ≡ t
unfolding up_to
up_to_is t r = take_at t r (length (t ++ r) - length r) (simp length-append (omega arith))

-- ## Strings

hex_takes : Takes hex Any
unfolding hex is_hex head tail is_in
hex_takes = (refl, λ x. keeps_cond (is_hex x) byte (λ xs. failed))

hex4_takes : Takes hex4 Any
unfolding hex4 hex is_hex head is_in
hex4_takes = let k = takes_keeps hex_takes in (refl, λ x. keeps_bind (keeps_bind (keeps_bind (hex_takes.1 x) k) k) k)

escape_takes : Takes escape Any
unfolding escape is_escape head tail
escape_takes = (
  refl,
  λ x. keeps_cond (eqb x 117) (takes_keeps hex4_takes)
      (keeps_cond (is_escape x) byte (λ xs. failed)),
)

char_takes : Takes char Any
unfolding char head tail is_in
char_takes = (
  refl,
  λ x. keeps_cond (eqb x 92) (takes_keeps escape_takes)
      (keeps_cond (is_printable x) byte (λ xs. failed)),
)

-- the bytes s up to the quote are read, with more turns than there are bytes
pub record Quoted (xs r : List ℕ) : Type 0 where
  pub s : List ℕ
  pub is : xs ≡ s ++ 34 ∷ r
  pub again : (n : ℕ) (rest : List ℕ) → length s < n → chars n (s ++ 34 ∷ rest) ≡ Some rest

pub chars_quoted : (n : ℕ) (xs : List ℕ) → Of (Quoted xs) (chars n xs)
unfolding chars char head tail is_in
chars_quoted zero xs = failed
chars_quoted (suc n) [] = failed
chars_quoted (suc n) (x ∷ xs) = go (eqb x 34) refl (chars_quoted n)
  where
    go : (b : Bool) → eqb x 34 ≡ b → ((ys : List ℕ) → Of (Quoted ys) (chars n ys))
        → Of (Quoted (x ∷ xs)) (cond b (Some xs) (char (x ∷ xs) >>= chars n))
    go true e h = gave {a = xs} (record { s = []; is = ap (λ b. b ∷ xs) (eqb-true x 34 e); again = first })
      where
        first : (n : ℕ) (rest : List ℕ) → 0 < n → chars n (34 ∷ rest) ≡ Some rest
        first zero rest h = absurd (omega arith)
        first (suc n) rest h = refl
    go false e h = of_bind (char_takes.1 x xs) λ y p. of_map (h y) λ r q. record {
      s = x ∷ p.t ++ q.s;
      is = ap (λ z. x ∷ z) (p.is ∙ ap (λ z. p.t ++ z) q.is ∙ sym (append_assoc p.t q.s (34 ∷ r)));
      again = more p q;
    }
      where
        more : {y r : List ℕ} (p : Follows (λ z. char (x ∷ z)) Any Any xs y) (q : Quoted y r) (n : ℕ) (rest : List ℕ)
            → suc (length (p.t ++ q.s)) < n → chars n (x ∷ (p.t ++ q.s) ++ 34 ∷ rest) ≡ Some rest
        more p q zero rest h = absurd (omega arith)
        more p q (suc n) rest h =
            rw (append_assoc, e, p.again (q.s ++ 34 ∷ rest) tt) (q.again n rest (omega (arith, length-append p.t q.s)))

pub inside_is : (s r : List ℕ) → inside (s ++ 34 ∷ r) r ≡ s
unfolding inside
inside_is s r = take_at s (34 ∷ r) (length (s ++ 34 ∷ r) - suc (length r)) (simp length-append (omega arith))
