-- Replies and reports are read back from their lines. Assumes nothing.
use Rattle.std.specs.Prelude.{Option, Some, None}
use Prim.Native.Nat.{ℕ}
use mathlib.Core.Bool.{true, false, cond, not, ◌&&◌, ◌||◌}
use mathlib.Core.List.{List, [], ◌∷◌, ◌++◌, append_assoc}
use mathlib.Core.Path.{◌≡◌, refl, ◌∙◌, ap}
use lib.Dec.{leb}
use lib.ListN.{length, drop}
use Rattle.ascii.specs.Text.{bytes}
use Rattle.ascii.specs.Bytes.{all, same, head, after, is_in, is_digit, is_letter}
use Rattle.ascii.specs.Names.{is_name, is_name_byte}
use Rattle.ascii.specs.Numbers.{decimal, seconds}
use Rattle.ascii.proofs.Digits.{decimal_digits}
use Rattle.ascii.proofs.Lists.{both, Lacks, lacks, before, beyond, before_at, beyond_at}
use Rattle.message.specs.Error.{Class, ProtocolError, NoSuchModule, NoSuchParameter, NoSuchCommand, ReadOnly, BadJSON, WrongType, RangeError, class_name, class_text, Fault, HardwareError, CommunicationFailed, ReadFailed, OutOfRange, fault_name, Denial, class, fault}
use Rattle.message.specs.Reply.{Held, valued, failed, DataReport, Reply, identification, describing, pong, active, inactive, reply, changed, done, error, data_report, fault_report, held_report, report_text, class_report, error_report, optionally, reply_line, update_word, update_line, begins, counts_text, counted, checked, identity}
use Rattle.message.specs.Clauses.Said.{fault_front}
use Rattle.counter.specs.declared.Counts.{Counts}
use Rattle.outbox.specs.Theorems.{Word, NamedReport, IsValue, ValueReport, WellFormedReply, Edition}
use Rattle.outbox.proofs.Lists.{before_last, beyond_last, before_last_eq, beyond_last_eq, without, without_eq}
use Rattle.outbox.proofs.Numbers.{number_from, decimal_read, seconds_read, seconds_lacks}

-- ## Data reports: the time is what follows the last `:` (58)

read_time : List ℕ → ℕ
read_time xs = number_from 0 (beyond_last 58 (without 2 xs))

read_value : List ℕ → List ℕ
read_value xs = drop 1 (without 5 (before_last 58 (without 2 xs)))

module _ (v : List ℕ) (t : ℕ) where
  data_parts : without 2 (data_report v t) ≡ bytes "[" ++ v ++ bytes ",{\"t\"" ++ 58 ∷ seconds t
  unfolding data_report bytes
  data_parts = without_eq (bytes "[" ++ v ++ bytes ",{\"t\":" ++ seconds t) (bytes "}]") ∙ simp append_assoc

  no_colon : Lacks 58 (seconds t)
  unfolding is_in
  no_colon = seconds_lacks 58 refl refl t

  time_read : read_time (data_report v t) ≡ t
  unfolding read_time
  time_read = rw (data_parts, beyond_last_eq 58 (bytes "[" ++ v ++ bytes ",{\"t\"") (seconds t) no_colon, seconds_read t)

  value_read : read_value (data_report v t) ≡ v
  unfolding read_value bytes
  value_read = rw (data_parts, before_last_eq 58 (bytes "[" ++ v ++ bytes ",{\"t\"") (seconds t) no_colon, without_eq (bytes "[" ++ v) (bytes ",{\"t\""))

-- ## Reports of why a parameter can't be read: what stands before the time tells which

read_fault : List ℕ → Fault
read_fault xs =
    cond (begins (fault_front HardwareError) xs) HardwareError
    (cond (begins (fault_front CommunicationFailed) xs) CommunicationFailed
    (cond (begins (fault_front ReadFailed) xs) ReadFailed
    OutOfRange))

fault_read : (f : Fault) (t : ℕ) → read_fault (fault_report f t) ≡ f
unfolding read_fault begins after fault_report fault_front fault_name bytes
fault_read HardwareError t = refl
fault_read CommunicationFailed t = refl
fault_read ReadFailed t = refl
fault_read OutOfRange t = refl

-- all before the `:`
untimed : Fault → List ℕ
untimed f = bytes "[\"" ++ fault_name f ++ bytes "\",\"" ++ fault_name f ++ bytes "\",{\"t\""

fault_parts : (f : Fault) (t : ℕ) → without 2 (fault_report f t) ≡ untimed f ++ 58 ∷ seconds t
unfolding fault_report untimed bytes
fault_parts f t =
    without_eq (bytes "[\"" ++ fault_name f ++ bytes "\",\"" ++ fault_name f ++ bytes "\",{\"t\":" ++ seconds t) (bytes "}]") ∙ simp append_assoc

fault_time_read : (f : Fault) (t : ℕ) → read_time (fault_report f t) ≡ t
unfolding read_time
fault_time_read f t = rw (fault_parts f t, beyond_last_eq 58 (untimed f) (seconds t) (no_colon [] t), seconds_read t)

-- ## Reports: a name ends at the first byte that no name has; of which kind one is, the first word of its line tells

read_report : (List ℕ → Held) → List ℕ → DataReport
read_report f xs =
    record {
      module_name = before 58 xs;
      accessible = before 32 (beyond 58 xs);
      held = f (beyond 32 (beyond 58 xs));
      time = read_time (beyond 32 (beyond 58 xs));
    }

read_valued : List ℕ → Held
read_valued xs = valued (read_value xs)

read_failed : List ℕ → Held
read_failed xs = failed (read_fault xs)

pub name_lacks : (s : ℕ) → is_name_byte s ≡ false → (m : List ℕ) → is_name m ≡ true → Lacks s m
unfolding is_name
name_lacks s f m h = lacks is_name_byte s f m (both (leb 1 (length m) && leb (length m) 63 && not (is_digit (head m))) (all is_name_byte m) h).1

report_parts : (r : DataReport) → report_text r ≡ r.module_name ++ 58 ∷ (r.accessible ++ 32 ∷ held_report r.held r.time)
unfolding report_text bytes
report_parts r = simp append_assoc

held_time_read : (v : Held) (t : ℕ) → read_time (held_report v t) ≡ t
unfolding held_report
held_time_read (valued v) t = time_read v t
held_time_read (failed f) t = fault_time_read f t

read_by : (f : List ℕ → Held) (r : DataReport) → NamedReport r → f (held_report r.held r.time) ≡ r.held → read_report f (report_text r) ≡ r
unfolding read_report is_name_byte is_letter is_in
read_by f r h e =
    let m = name_lacks 58 refl r.module_name h.0 in
    let a = name_lacks 32 refl r.accessible h.1 in
    rw report_parts (simp (before_at, beyond_at, held_time_read, e))

valued_read : (v : Held) (t : ℕ) → IsValue v → read_valued (held_report v t) ≡ v
unfolding read_valued held_report
valued_read (valued v) t k = ap valued (value_read v t)
valued_read (failed f) t k = absurd k

report_read : (r : DataReport) → ValueReport r → read_report read_valued (report_text r) ≡ r
report_read r h = read_by read_valued r h.0 (valued_read r.held r.time h.1)

-- ## Updates

pub read_update : List ℕ → DataReport
read_update xs = cond (begins (bytes "error_update ") xs) (read_report read_failed (drop 13 xs)) (read_report read_valued (drop 7 xs))

update_as : (r : DataReport) → NamedReport r → (v : Held) → r.held ≡ v → read_update (update_word v ++ report_text r) ≡ r
unfolding read_update begins after update_word bytes read_valued read_failed held_report
update_as r h (valued v) e = read_by read_valued r h (rw e (ap valued (value_read v r.time)))
update_as r h (failed f) e = read_by read_failed r h (rw e (ap failed (fault_read f r.time)))

pub update_read : (r : DataReport) → NamedReport r → read_update (update_line r) ≡ r
unfolding update_line
update_read r h = update_as r h r.held refl

-- ## Error reports

-- the class of the list whose report it is, or the one that is not in the list
class_among : List Class → List ℕ → Class
class_among [] xs = RangeError
class_among (c ∷ cs) xs = cond (same xs (class_report c)) c (class_among cs xs)

read_class : List ℕ → Class
read_class = class_among (ProtocolError ∷ NoSuchModule ∷ NoSuchParameter ∷ NoSuchCommand ∷ ReadOnly ∷ BadJSON ∷ WrongType ∷ [])

-- a report of why a parameter can't be read begins as one
read_denial : List ℕ → Denial
read_denial xs =
    cond (begins (fault_front HardwareError) xs || begins (fault_front CommunicationFailed) xs || begins (fault_front ReadFailed) xs || begins (fault_front OutOfRange) xs)
    (fault (read_fault xs) (read_time xs))
    (class (read_class xs))

class_read : (c : Class) → read_denial (class_report c) ≡ class c
unfolding read_denial begins after fault_front fault_name read_class class_among same class_report class_name class_text bytes
class_read ProtocolError = refl
class_read NoSuchModule = refl
class_read NoSuchParameter = refl
class_read NoSuchCommand = refl
class_read ReadOnly = refl
class_read BadJSON = refl
class_read WrongType = refl
class_read RangeError = refl

fault_begins :
    (f : Fault) (t : ℕ)
    → begins (fault_front HardwareError) (fault_report f t) || begins (fault_front CommunicationFailed) (fault_report f t) || begins (fault_front ReadFailed) (fault_report f t) || begins (fault_front OutOfRange) (fault_report f t)
    ≡ true
unfolding begins after fault_report fault_front fault_name bytes
fault_begins HardwareError t = refl
fault_begins CommunicationFailed t = refl
fault_begins ReadFailed t = refl
fault_begins OutOfRange t = refl

denial_read : (d : Denial) → read_denial (error_report d) ≡ d
unfolding error_report read_denial
denial_read (class c) = class_read c
denial_read (fault f t) = rw (fault_begins f t, fault_read f t, fault_time_read f t)

-- ## Replies: the first word, and then what follows it

read_pong : List ℕ → Reply
read_pong xs = pong (before 32 xs) (read_time (beyond 32 xs))

pong_read : (token : List ℕ) (now : ℕ) → Word token → read_pong (token ++ bytes " " ++ data_report (bytes "null") now) ≡ pong token now
unfolding read_pong bytes
pong_read token now h = simp (append_assoc, before_at, beyond_at, time_read)

-- counts: each number ends at a comma (44), the last at the bracket (93)
read_number : List ℕ → ℕ
read_number xs = number_from 0 (xs ++ [])

number_read : (n : ℕ) → read_number (decimal n) ≡ n
unfolding read_number number_from
number_read n = decimal_read n []

numbers_lack : (s : ℕ) → is_digit s ≡ false → (n : ℕ) → Lacks s (decimal n)
numbers_lack s f n = lacks is_digit s f (decimal n) (decimal_digits n)

read_counts : List ℕ → ℕ → Reply
read_counts xs now =
    let second = beyond 44 xs in
    let third = beyond 44 second in
    counted (record { lines = read_number (before 44 xs); errors = read_number (before 44 second); updates = read_number (before 44 third) })
    (read_number (before 93 (beyond 44 third)))
    now

counts_parts : (x : Counts) (n : ℕ)
    → counts_text x n ≡ 91 ∷ (decimal x.lines ++ 44 ∷ (decimal x.errors ++ 44 ∷ (decimal x.updates ++ 44 ∷ (decimal n ++ 93 ∷ []))))
unfolding counts_text bytes
counts_parts x n =
    let a : List ℕ = 91 ∷ decimal x.lines in
    let b : List ℕ = 44 ∷ decimal x.errors in
    let c : List ℕ = 44 ∷ decimal x.updates in
    let d : List ℕ = 44 ∷ decimal n in
    append_assoc (a ++ b ++ c) d (93 ∷ []) ∙ append_assoc (a ++ b) c (d ++ 93 ∷ []) ∙ append_assoc a b (c ++ (d ++ 93 ∷ []))

read_counted : List ℕ → Reply
read_counted xs = read_counts (drop 1 (read_value xs)) (read_time xs)

counted_read : (x : Counts) (n now : ℕ) → read_counted (data_report (counts_text x n) now) ≡ counted x n now
unfolding read_counted read_counts is_in
counted_read x n now =
    let l = numbers_lack 44 refl x.lines in
    let e = numbers_lack 44 refl x.errors in
    let u = numbers_lack 44 refl x.updates in
    let m = numbers_lack 93 refl n in
    rw (value_read, time_read, counts_parts) (simp (before_at, beyond_at, number_read))

read_scope : List ℕ → Option (List ℕ)
read_scope [] = None
read_scope (b ∷ m) = Some m

read_error : List ℕ → Reply
read_error xs = error (before 32 xs) (before 32 (beyond 32 xs)) (read_denial (beyond 32 (beyond 32 xs)))

error_read : (a s : List ℕ) (d : Denial) → Word a → Word s → read_error (a ++ bytes " " ++ s ++ bytes " " ++ error_report d) ≡ error a s d
unfolding read_error bytes
error_read a s d h k = simp (append_assoc, before_at, beyond_at, denial_read)

pub read_reply : List ℕ → Reply
read_reply xs =
    cond (begins (bytes "ISSE,SECoP,") xs) (identification (Some xs))
    (cond (begins (bytes "ISSE") xs) (identification None)
    (cond (begins (bytes "describing") xs) (describing (drop 13 xs))
    (cond (begins (bytes "pong") xs) (read_pong (drop 5 xs))
    (cond (begins (bytes "active") xs) (active (read_scope (drop 6 xs)))
    (cond (begins (bytes "inactive") xs) (inactive (read_scope (drop 8 xs)))
    (cond (begins (bytes "reply") xs) (reply (read_report read_valued (drop 6 xs)))
    (cond (begins (bytes "changed") xs) (changed (read_report read_valued (drop 8 xs)))
    (cond (begins (bytes "done") xs) (done (read_report read_valued (drop 5 xs)))
    (cond (begins (bytes "checked") xs) (checked (read_report read_valued (drop 8 xs)))
    (cond (begins (bytes "_counted") xs) (read_counted (drop 11 xs))
    (read_error (drop 6 xs))))))))))))

-- what a table gives begins as no other line does
given_read : (x : List ℕ) (r : Reply) → Edition (Some x) → cond (begins (bytes "ISSE,SECoP,") x) (identification (Some x)) r ≡ identification (Some x)
unfolding begins
given_read x r h = rw h

pub reply_read : (r : Reply) → WellFormedReply r → read_reply (reply_line r) ≡ r
unfolding read_reply read_scope begins after reply_line identity optionally bytes
reply_read (identification None) h = refl
reply_read (identification (Some x)) h = given_read x _ h
reply_read (describing r) h = refl
reply_read (pong token now) h = pong_read token now h
reply_read (active None) h = refl
reply_read (active (Some m)) h = refl
reply_read (inactive None) h = refl
reply_read (inactive (Some m)) h = refl
reply_read (reply r) h = ap reply (report_read r h)
reply_read (changed r) h = ap changed (report_read r h)
reply_read (done r) h = ap done (report_read r h)
reply_read (checked r) h = ap checked (report_read r h)
reply_read (counted x n now) h = counted_read x n now
reply_read (error a s c) h = error_read a s c h.0 h.1
