-- Laws of what the node says: a line's parts are written one after another, each has room, and together they are the line.
-- Assumes nothing.
use Rattle.std.specs.Prelude.{Option, Some, None}
use Prim.Native.Nat.{ℕ, ◌+◌, ◌≤◌, ◌<◌}
use native.Mathlib.Omega.{arith}
use mathlib.Core.Path.{◌≡◌}
use mathlib.Core.List.{List, ◌++◌}
use borrow.Author.Tests.{ne_eqb}
use lib.ListN.{length, length-append}
use Rattle.ascii.specs.Text.{bytes}
use Rattle.ascii.specs.Numbers.{seconds}
use Rattle.ascii.specs.Clauses.Writer.{Puts}
use Rattle.ascii.proofs.Puts.{puts_length, puts_both}
use Rattle.message.specs.Error as Error
use Rattle.message.specs.Error.{class_name, class_text, fault_name, fault_of}
use Rattle.message.specs.Reply.{data_report, fault_report, Held, held_as, held_report, report_text, class_report, error_report, reply_line, pong, error}
use Rattle.message.specs.Clauses.Said.{class_of, fault_as, denial_of, held_by, report_of, fault_front}
use Rattle.message.specs.declared.say.Class.{Class}
use Rattle.message.specs.declared.say.Fault.{Fault}
use Rattle.message.specs.declared.say.Denial.{Denial}
use Rattle.message.specs.declared.say.Sensor.{Sensor}
use Rattle.message.specs.declared.say.Sensor.TheVariants.{Works, Fails}

-- ## Room: where two texts fit, so does the first, and the second after it

fits : (xs ys : List ℕ) (at n : ℕ) → at + length (xs ++ ys) ≤ n → at + length xs ≤ n
fits xs ys at n h = let e = length-append xs ys in omega arith

module _ {d e : List ℕ} {at p : ℕ} {xs : List ℕ} (x : Puts d at xs e p) where
  room : (ys : List ℕ) → at + length (xs ++ ys) ≤ length d → p + length ys ≤ length e
  room ys h =
      let l = length-append xs ys in
      let m = puts_length x in
      let q = x.ends in
      omega arith

-- ## Two and three texts

module _ (d a b : List ℕ) (at : ℕ) (h : at + length (a ++ b) ≤ length d) where
  pub two_1 : at + length a ≤ length d
  two_1 = fits a b at (length d) h

  pub two_2 : (e : List ℕ) (p : ℕ) → Puts d at a e p → p + length b ≤ length e
  two_2 e p x = room x b h

module _ (d a b c : List ℕ) (at : ℕ) (h : at + length (a ++ b ++ c) ≤ length d) where
  pub three_1 : at + length a ≤ length d
  three_1 = two_1 d a b at (two_1 d (a ++ b) c at h)

  module _ (e : List ℕ) (p : ℕ) (x : Puts d at a e p) where
    pub three_2 : p + length b ≤ length e
    three_2 = two_2 d a b at (two_1 d (a ++ b) c at h) e p x

    pub three_3 : (f : List ℕ) (q : ℕ) → Puts e p b f q → q + length c ≤ length f
    three_3 f q y = two_2 d (a ++ b) c at h f q (puts_both x y)

-- room for one byte
byte : (p n : ℕ) → p + length (bytes " ") ≤ n → p < n
unfolding bytes
byte p n h = omega arith

-- ## A data report

module _ (d : List ℕ) (at : ℕ) (v : List ℕ) (t : ℕ) where
  module _ (h : at + length (data_report v t) ≤ length d) where
    pub data_1 : at + length (bytes "[" ++ v ++ bytes ",{\"t\":") ≤ length d
    unfolding data_report
    data_1 = three_1 d (bytes "[" ++ v ++ bytes ",{\"t\":") (seconds t) (bytes "}]") at h

    module _ (e : List ℕ) (p : ℕ) (x : Puts d at (bytes "[" ++ v ++ bytes ",{\"t\":") e p) where
      pub data_2 : p + length (seconds t) ≤ length e
      unfolding data_report
      data_2 = three_2 d _ (seconds t) (bytes "}]") at h e p x

      pub data_3 : (f : List ℕ) (q : ℕ) → Puts e p (seconds t) f q → q + length (bytes "}]") ≤ length f
      unfolding data_report
      data_3 f q y = three_3 d _ (seconds t) (bytes "}]") at h e p x f q y

  pub data_all :
      (e f g : List ℕ) (p q r : ℕ) → Puts d at (bytes "[" ++ v ++ bytes ",{\"t\":") e p → Puts e p (seconds t) f q → Puts f q (bytes "}]") g r
      → Puts d at (data_report v t) g r
  unfolding data_report
  data_all e f g p q r x y z = puts_both (puts_both x y) z

pub data_length : (v : List ℕ) (t : ℕ) → length (data_report v t) ≡ length v + length (seconds t) + 9
unfolding data_report bytes
data_length v t = simp length-append (omega arith)

-- ## A report of why a parameter can't be read

module _ (d : List ℕ) (at : ℕ) (f : Error.Fault) (t : ℕ) where
  module _ (h : at + length (fault_report f t) ≤ length d) where
    pub fault_1 : at + length (fault_front f) ≤ length d
    unfolding fault_report fault_front
    fault_1 = three_1 d (fault_front f) (seconds t) (bytes "}]") at h

    module _ (e : List ℕ) (p : ℕ) (x : Puts d at (fault_front f) e p) where
      pub fault_2 : p + length (seconds t) ≤ length e
      unfolding fault_report fault_front
      fault_2 = three_2 d (fault_front f) (seconds t) (bytes "}]") at h e p x

      pub fault_3 : (g : List ℕ) (q : ℕ) → Puts e p (seconds t) g q → q + length (bytes "}]") ≤ length g
      unfolding fault_report fault_front
      fault_3 g q y = three_3 d (fault_front f) (seconds t) (bytes "}]") at h e p x g q y

  pub fault_all :
      (e g i : List ℕ) (p q r : ℕ) → Puts d at (fault_front f) e p → Puts e p (seconds t) g q → Puts g q (bytes "}]") i r
      → Puts d at (fault_report f t) i r
  unfolding fault_report fault_front
  fault_all e g i p q r x y z = puts_both (puts_both x y) z

pub fault_length : (f : Error.Fault) (t : ℕ) → length (fault_report f t) ≡ length (fault_front f) + length (seconds t) + 2
unfolding fault_report fault_front bytes
fault_length f t = simp length-append (omega arith)

pub front_short : (f : Error.Fault) → length (fault_front f) ≤ 50
unfolding fault_front fault_name bytes
front_short Error.HardwareError = omega arith
front_short Error.CommunicationFailed = omega arith
front_short Error.ReadFailed = omega arith
front_short Error.OutOfRange = omega arith

pub fault_short : (f : Error.Fault) (t : ℕ) → length (fault_report f t) ≤ 52 + length (seconds t)
fault_short f t = omega (arith, fault_length f t, front_short f)

pub held_short : (o : Option Error.Fault) (v : List ℕ) (t : ℕ) → length (held_report (held_as o v) t) ≤ length v + length (seconds t) + 52
unfolding held_report
held_short None v t = omega (arith, data_length v t)
held_short (Some f) v t = omega (arith, fault_short f t)

-- ## A report with its names

module _ (d : List ℕ) (at : ℕ) (m a : List ℕ) (v : Held) (t : ℕ) where
  module _ (h : at + length (report_text (report_of m a v t)) ≤ length d) where
    pub report_1 : at + length (m ++ bytes ":" ++ a) ≤ length d
    unfolding report_text
    report_1 = three_1 d (m ++ bytes ":" ++ a) (bytes " ") (held_report v t) at h

    module _ (e : List ℕ) (p : ℕ) (x : Puts d at (m ++ bytes ":" ++ a) e p) where
      pub report_2 : p < length e
      unfolding report_text
      report_2 = byte p (length e) (three_2 d _ (bytes " ") (held_report v t) at h e p x)

      pub report_3 : (f : List ℕ) (q : ℕ) → Puts e p (bytes " ") f q → q + length (held_report v t) ≤ length f
      unfolding report_text
      report_3 f q y = three_3 d _ (bytes " ") (held_report v t) at h e p x f q y

  pub report_all :
      (e f g : List ℕ) (p q r : ℕ) → Puts d at (m ++ bytes ":" ++ a) e p → Puts e p (bytes " ") f q → Puts f q (held_report v t) g r
      → Puts d at (report_text (report_of m a v t)) g r
  unfolding report_text
  report_all e f g p q r x y z = puts_both (puts_both x y) z

pub report_length :
    (m a : List ℕ) (v : Held) (t : ℕ) → length (report_text (report_of m a v t)) ≡ length m + length a + 2 + length (held_report v t)
unfolding report_text bytes
report_length m a v t = simp length-append (omega arith)

-- ## A pong

module _ (d : List ℕ) (at : ℕ) (w : List ℕ) (t : ℕ) where
  module _ (h : at + length (reply_line (pong w t)) ≤ length d) where
    pub pong_1 : at + length (bytes "pong " ++ w ++ bytes " ") ≤ length d
    unfolding reply_line
    pong_1 = two_1 d (bytes "pong " ++ w ++ bytes " ") (data_report (bytes "null") t) at h

    pub pong_2 : (e : List ℕ) (p : ℕ) → Puts d at (bytes "pong " ++ w ++ bytes " ") e p → p + length (data_report (bytes "null") t) ≤ length e
    unfolding reply_line
    pong_2 e p x = two_2 d _ (data_report (bytes "null") t) at h e p x

  pub pong_all :
      (e f : List ℕ) (p q : ℕ) → Puts d at (bytes "pong " ++ w ++ bytes " ") e p → Puts e p (data_report (bytes "null") t) f q
      → Puts d at (reply_line (pong w t)) f q
  unfolding reply_line
  pong_all e f p q x y = puts_both x y

pub pong_length : (w : List ℕ) (t : ℕ) → length (reply_line (pong w t)) ≡ length w + 6 + length (data_report (bytes "null") t)
unfolding reply_line bytes
pong_length w t = simp length-append (omega arith)

-- ## An error

module _ (d : List ℕ) (at : ℕ) (a s : List ℕ) (k : Error.Denial) where
  module _ (h : at + length (reply_line (error a s k)) ≤ length d) where
    but_report : at + length (bytes "error_" ++ a ++ bytes " " ++ s ++ bytes " ") ≤ length d
    unfolding reply_line
    but_report = two_1 d (bytes "error_" ++ a ++ bytes " " ++ s ++ bytes " ") (error_report k) at h

    pub error_1 : at + length (bytes "error_" ++ a ++ bytes " ") ≤ length d
    error_1 = three_1 d (bytes "error_" ++ a ++ bytes " ") s (bytes " ") at but_report

    module _ (e : List ℕ) (p : ℕ) (x : Puts d at (bytes "error_" ++ a ++ bytes " ") e p) where
      pub error_2 : p + length s ≤ length e
      error_2 = three_2 d _ s (bytes " ") at but_report e p x

      module _ (f : List ℕ) (q : ℕ) (y : Puts e p s f q) where
        pub error_3 : q < length f
        error_3 = byte q (length f) (three_3 d _ s (bytes " ") at but_report e p x f q y)

        pub error_4 : (g : List ℕ) (r : ℕ) → Puts f q (bytes " ") g r → r + length (error_report k) ≤ length g
        unfolding reply_line
        error_4 g r z = two_2 d _ (error_report k) at h g r (puts_both (puts_both x y) z)

  pub error_all :
      (e f g i : List ℕ) (p q r j : ℕ) → Puts d at (bytes "error_" ++ a ++ bytes " ") e p → Puts e p s f q → Puts f q (bytes " ") g r
      → Puts g r (error_report k) i j → Puts d at (reply_line (error a s k)) i j
  unfolding reply_line
  error_all e f g i p q r j x y z w = puts_both (puts_both (puts_both x y) z) w

pub error_length : (a s : List ℕ) (k : Error.Denial) → length (reply_line (error a s k)) ≡ length a + length s + 8 + length (error_report k)
unfolding reply_line bytes
error_length a s k = simp length-append (omega arith)

pub class_short : (k : Error.Class) → length (class_report k) ≤ 51
unfolding class_report class_name class_text bytes
class_short Error.ProtocolError = omega arith
class_short Error.NoSuchModule = omega arith
class_short Error.NoSuchParameter = omega arith
class_short Error.NoSuchCommand = omega arith
class_short Error.ReadOnly = omega arith
class_short Error.BadJSON = omega arith
class_short Error.WrongType = omega arith
class_short Error.RangeError = omega arith

-- ## By cases: whether a parameter can be read, what an error reply tells

module _ (s : Sensor) (v : List ℕ) (t : ℕ) (w : s ≡ Works) where
  works : held_report (held_by s v) t ≡ data_report v t
  unfolding held_report
  works = rw w

  pub works_length : (r : ℕ) → r ≡ length (data_report v t) → r ≡ length (held_report (held_by s v) t)
  works_length r h = rw works h

  pub works_room : (at n : ℕ) → at + length (held_report (held_by s v) t) ≤ n → at + length (data_report v t) ≤ n
  works_room at n h = rw works at h

  pub works_put : (d e : List ℕ) (at r : ℕ) → Puts d at (data_report v t) e r → Puts d at (held_report (held_by s v) t) e r
  works_put d e at r x = rw works x

module _ (s : Sensor) (f : Fault) (v : List ℕ) (t : ℕ) (w : s ≡ Fails f) where
  fails : held_report (held_by s v) t ≡ fault_report (fault_as f) t
  unfolding held_report
  fails = rw w

  pub fails_length : (r : ℕ) → r ≡ length (fault_report (fault_as f) t) → r ≡ length (held_report (held_by s v) t)
  fails_length r h = rw fails h

  pub fails_room : (at n : ℕ) → at + length (held_report (held_by s v) t) ≤ n → at + length (fault_report (fault_as f) t) ≤ n
  fails_room at n h = rw fails at h

  pub fails_put : (d e : List ℕ) (at r : ℕ) → Puts d at (fault_report (fault_as f) t) e r → Puts d at (held_report (held_by s v) t) e r
  fails_put d e at r x = rw fails x

module _ (d : Denial) (k : Class) (w : d ≡ Denial.Class k) where
  told : error_report (denial_of d) ≡ class_report (class_of k)
  unfolding error_report
  told = rw w

  pub class_length : (r : ℕ) → r ≡ length (class_report (class_of k)) → r ≡ length (error_report (denial_of d))
  class_length r h = rw told h

  pub class_room : (at n : ℕ) → at + length (error_report (denial_of d)) ≤ n → at + length (class_report (class_of k)) ≤ n
  class_room at n h = rw told at h

  pub class_put : (i e : List ℕ) (at r : ℕ) → Puts i at (class_report (class_of k)) e r → Puts i at (error_report (denial_of d)) e r
  class_put i e at r x = rw told x

pub class_least : (k : Class) (r : ℕ) → r ≡ length (class_report (class_of k)) → r ≤ 73
class_least k r h = omega (arith, class_short (class_of k))

module _ (d : Denial) (f : Fault) (t : ℕ) (w : d ≡ Denial.Fault f t) where
  denied : error_report (denial_of d) ≡ fault_report (fault_as f) t
  unfolding error_report
  denied = rw w

  pub denied_length : (r : ℕ) → r ≡ length (fault_report (fault_as f) t) → r ≡ length (error_report (denial_of d))
  denied_length r h = rw denied h

  pub denied_room : (at n : ℕ) → at + length (error_report (denial_of d)) ≤ n → at + length (fault_report (fault_as f) t) ≤ n
  denied_room at n h = rw denied at h

  pub denied_put : (i e : List ℕ) (at r : ℕ) → Puts i at (fault_report (fault_as f) t) e r → Puts i at (error_report (denial_of d)) e r
  denied_put i e at r x = rw denied x

-- ## The numbers of the classes

module _ (k : ℕ) where
  pub number_1 : k ≡ 1 → Some Error.HardwareError ≡ fault_of k
  unfolding fault_of
  number_1 e = rw e

  pub number_2 : k ≡ 2 → Some Error.CommunicationFailed ≡ fault_of k
  unfolding fault_of
  number_2 e = rw e

  pub number_3 : k ≡ 3 → Some Error.ReadFailed ≡ fault_of k
  unfolding fault_of
  number_3 e = rw e

  pub number_4 : k ≡ 4 → Some Error.OutOfRange ≡ fault_of k
  unfolding fault_of
  number_4 e = rw e

  pub number_none : (k ≡ 1 → ⊥) → (k ≡ 2 → ⊥) → (k ≡ 3 → ⊥) → (k ≡ 4 → ⊥) → None ≡ fault_of k
  unfolding fault_of
  number_none a b c d = simp (ne_eqb k 1 a, ne_eqb k 2 b, ne_eqb k 3 c, ne_eqb k 4 d)
