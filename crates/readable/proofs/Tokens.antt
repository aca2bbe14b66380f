-- Texts are the bytes between two quotes, and the numbers that the node writes are tokens of JSON. Assumes nothing.
use Rattle.std.specs.Prelude.{Some}
use Prim.Native.Nat.{ℕ, zero, suc, ◌/◌, ◌%◌, ◌<◌}
use native.Mathlib.Omega.{arith}
use mathlib.Core.Bool.{Bool, true, false, not, ◌&&◌}
use mathlib.Core.List.{List, [], ◌∷◌, ◌++◌, append_assoc}
use mathlib.Core.Path.{◌≡◌, refl}
use lib.Dec.{eqb}
use lib.IntN.{ℤ, pos, negsuc}
use lib.ListN.{length, length-append}
use borrow.Author.Tests.{ne_eqb, not-true}
use Rattle.ascii.specs.Text.{bytes}
use Rattle.ascii.specs.Bytes.{head, tail, all, drop_while, is_in, is_digit, is_printable}
use Rattle.ascii.specs.Names.{is_text_byte, is_text}
use Rattle.ascii.specs.Numbers.{digit, decimal, integer, seconds}
use Rattle.ascii.proofs.Lists.{both, all_parts, dropped, dropped_at, differs}
use Rattle.ascii.proofs.Digits.{digit_is_digit, decimal_digits}
use Rattle.decimal.specs.Token.{digits, minus, int, frac, sign, exp, number}
use Rattle.decimal.proofs.Written.{integer_token}
use Rattle.json_text.specs.Json.{char, chars, string_end}
use Rattle.json_text.specs.Readable.{IsToken, IsRaw}
use Rattle.json_text.proofs.ReadAgain.{number_takes}
use Rattle.report.specs.Report.{decimal_text}

-- ## Texts

text_chars : (s : List ℕ) (n : ℕ) → all is_text_byte s ≡ true → length s < n → chars n (s ++ 34 ∷ []) ≡ Some []
unfolding chars char head tail is_text_byte
text_chars s zero h l = absurd (omega arith)
text_chars [] (suc n) h l = refl
text_chars (b ∷ s) (suc n) h l =
    let p = all_parts is_text_byte b s h in
    let q = both (is_printable b && not (eqb b 34)) (not (eqb b 92)) p.0 in
    let r = both (is_printable b) (not (eqb b 34)) q.0 in
    rw (not-true (eqb b 34) r.1, not-true (eqb b 92) q.1, r.0) (text_chars s n p.1 (omega arith))

pub text_raw : (s : List ℕ) → is_text s ≡ true → IsRaw s
unfolding string_end is_text
text_raw s h = text_chars s (length (s ++ 34 ∷ [])) h (simp length-append (omega arith))

-- ## Whole numbers, in front of a byte that is no digit

-- digits that are a token are not none, and no zero is in front of others
digits_all : (xs : List ℕ) → all is_digit xs ≡ true → IsToken xs → digits xs ≡ Some []
unfolding digits head
digits_all [] h e = let z : ◌≡◌ {A = ℕ} 0 1 = cc number_takes.0 in absurd (omega arith)
digits_all (b ∷ bs) h e = rw ((all_parts is_digit b bs h).0, dropped is_digit (b ∷ bs) h)

no_minus : (xs : List ℕ) → all is_digit xs ≡ true → IsToken xs → (r : List ℕ) → minus (xs ++ r) ≡ xs ++ r
unfolding minus head is_in
no_minus [] h e r = let z : ◌≡◌ {A = ℕ} 0 1 = cc number_takes.0 in absurd (omega arith)
no_minus (b ∷ bs) h e r = rw (differs is_digit 45 refl b (all_parts is_digit b bs h).0)

no_sign : (xs : List ℕ) → all is_digit xs ≡ true → IsToken xs → sign xs ≡ xs
unfolding sign minus head is_in
no_sign [] h e = let z : ◌≡◌ {A = ℕ} 0 1 = cc number_takes.0 in absurd (omega arith)
no_sign (b ∷ bs) h e =
    let d = (all_parts is_digit b bs h).0 in
    rw (differs is_digit 43 refl b d, differs is_digit 45 refl b d)

zero_alone : (b : ℕ) (bs : List ℕ) → is_digit b ≡ true → all is_digit bs ≡ true → eqb b 48 ≡ true → IsToken (b ∷ bs) → (r : List ℕ)
    → int (b ∷ bs ++ r) ≡ Some r
unfolding int head tail number minus frac exp is_in
zero_alone b [] d h q e r = rw q
zero_alone b (c ∷ cs) d h q e r =
    let i = (all_parts is_digit c cs h).0 in
    let k = rw (differs is_digit 45 refl b d, q, differs is_digit 46 refl c i, differs is_digit 101 refl c i, differs is_digit 69 refl c i) at e in
    let z : ◌≡◌ {A = ℕ} 0 1 = cc in
    absurd (omega arith)

int_front : (xs : List ℕ) → all is_digit xs ≡ true → IsToken xs → (x : ℕ) (r : List ℕ) → is_digit x ≡ false → int (xs ++ x ∷ r) ≡ Some (x ∷ r)
unfolding int digits head
int_front [] h e x r f = let z : ◌≡◌ {A = ℕ} 0 1 = cc number_takes.0 in absurd (omega arith)
int_front (b ∷ bs) h e x r f = go (eqb b 48) refl
  where
    go : (t : Bool) → eqb b 48 ≡ t → int (b ∷ bs ++ x ∷ r) ≡ Some (x ∷ r)
    go true q = let p = all_parts is_digit b bs h in zero_alone b bs p.0 p.1 q e (x ∷ r)
    go false q = rw (q, (all_parts is_digit b bs h).0, dropped_at is_digit (b ∷ bs) x r h f)

pub natural_token : (n : ℕ) → IsToken (decimal n)
unfolding integer
natural_token n = integer_token (pos n)

-- the digits of n, with a sign or without
natural_front : (n x : ℕ) (r : List ℕ) → is_digit x ≡ false → int (decimal n ++ x ∷ r) ≡ Some (x ∷ r)
natural_front n x r f = int_front (decimal n) (decimal_digits n) (natural_token n) x r f

natural_plain : (n : ℕ) (r : List ℕ) → minus (decimal n ++ r) ≡ decimal n ++ r
natural_plain n r = no_minus (decimal n) (decimal_digits n) (natural_token n) r

integer_front : (m : ℤ) (x : ℕ) (r : List ℕ) → is_digit x ≡ false → int (minus (integer m ++ x ∷ r)) ≡ Some (x ∷ r)
unfolding integer bytes minus head tail
integer_front (pos n) x r f = rw (natural_plain n (x ∷ r)) (natural_front n x r f)
integer_front (negsuc n) x r f = natural_front (suc n) x r f

-- ## Decimals

signed_digits : (p : ℤ) → digits (sign (integer p)) ≡ Some []
unfolding integer bytes sign minus head tail
signed_digits (pos n) =
    let d = decimal_digits n in
    let e = natural_token n in
    rw (no_sign (decimal n) d e) (digits_all (decimal n) d e)
signed_digits (negsuc n) = digits_all (decimal (suc n)) (decimal_digits (suc n)) (natural_token (suc n))

power_token : (m p : ℤ) → IsToken (integer m ++ 101 ∷ integer p)
unfolding number frac exp head tail is_in
power_token m p = rw (integer_front m 101 (integer p) refl) (signed_digits p)

pub decimal_token : (m p : ℤ) → IsToken (decimal_text m p)
unfolding decimal_text bytes integer
decimal_token m (pos zero) = integer_token m
decimal_token m (pos (suc n)) = rw (ne_eqb (suc n) 0 (λ e. omega arith), append_assoc) (power_token m (pos (suc n)))
decimal_token m (negsuc n) = rw append_assoc (power_token m (negsuc n))

-- ## Times

three_digits : (a b c : ℕ) → is_digit a ≡ true → is_digit b ≡ true → is_digit c ≡ true → digits (a ∷ b ∷ c ∷ []) ≡ Some []
unfolding digits drop_while head
three_digits a b c p q r = rw (p, q, r)

fraction_token : (n a b c : ℕ) → digits (a ∷ b ∷ c ∷ []) ≡ Some [] → IsToken (decimal n ++ 46 ∷ a ∷ b ∷ c ∷ [])
unfolding number frac exp head tail is_in
fraction_token n a b c d = rw (natural_plain n (46 ∷ a ∷ b ∷ c ∷ []), natural_front n 46 (a ∷ b ∷ c ∷ []) refl, d)

pub time_token : (t : ℕ) → IsToken (seconds t)
unfolding seconds bytes
time_token t =
    let a = t / 100 % 10 in
    let b = t / 10 % 10 in
    let c = t % 10 in
    let d = three_digits (digit a) (digit b) (digit c) (digit_is_digit a (omega arith)) (digit_is_digit b (omega arith)) (digit_is_digit c (omega arith)) in
    rw append_assoc (fraction_token (t / 1000) (digit a) (digit b) (digit c) d)
