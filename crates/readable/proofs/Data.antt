-- Data reports and error reports are texts of readable trees. Assumes nothing.
use Rattle.std.specs.Prelude.{Some, slice_get}
use Prim.Native.Nat.{ℕ, suc}
use mathlib.Core.Bool.{true}
use mathlib.Core.List.{List, [], ◌∷◌, append_assoc, append-nil, map}
use mathlib.Core.Path.{◌≡◌, refl, ap, ◌∙◌}
use Rattle.ascii.specs.Text.{bytes}
use Rattle.ascii.specs.Bytes.{head, tail, is_in, same}
use Rattle.ascii.proofs.Lists.{both}
use Rattle.counter.specs.declared.Counts.{Counts}
use Rattle.json_text.specs.Json.{Json, null, char, chars, string_end, text, quoted, compact}
use Rattle.json_text.specs.Readable.{IsRaw, Readable}
use Rattle.json_text.proofs.ReadBack.{readable_trees}
use Rattle.datainfo.specs.Datainfo.{Datainfo}
use Rattle.fit.specs.Fit.{verdict, stored_form, form_of, is_fit, is_stored}
use Rattle.form.proofs.Stored.{fits_value, stored_forms}
use Rattle.table.specs.Table.{Parameter, Accessible, parameter, command, Module}
use Rattle.table.specs.Layout.{table_of}
use Rattle.table.specs.Search.{Placed, parameters_of, placed_from, parameters}
use Rattle.report.specs.Judge.{table_number}
use Rattle.message.specs.Error.{Class, ProtocolError, NoSuchModule, NoSuchParameter, NoSuchCommand, ReadOnly, BadJSON, WrongType, RangeError}
use Rattle.message.specs.Error.{class_name, class_text}
use Rattle.message.specs.Error.{Fault, HardwareError, CommunicationFailed, ReadFailed, OutOfRange, fault_name, Denial, class, fault}
use Rattle.message.specs.Reply.{Held, valued, failed, data_report, fault_report, held_report, class_report, error_report, counts_text}
use Rattle.plain.specs.Node.{begin}
use Rattle.plain.specs.Calls.{start_number}
use Rattle.plain.specs.History.{finish}
use Rattle.report.proofs.Faults.{first_fault_none}
use Rattle.sound.specs.Theorems.{HeldFits}
use Rattle.sound.proofs.Lists.{Each, each_at, each_append, each_map}
use Rattle.sound.proofs.Histories.{always_sound}
use Rattle.readable.specs.Trees.{time_value, data_value, fault_value, class_value, denial_value, counts_value, held_value}
use Rattle.readable.specs.Theorems.{IsRead, DataReportsAreRead, HeldReportsAreRead}
use Rattle.readable.proofs.Tokens.{natural_token, time_token}
use Rattle.readable.proofs.More.{more}
use Rattle.readable.proofs.Levels.{Deep}
use Rattle.readable.proofs.Shallow.{shallow}
use Rattle.readable.proofs.Structure.{DeepAccessible, DeepModule, read_table_lem}

-- ## The texts are compact

data_compact : (v : Json) (t : ℕ) → compact (data_value v t) ≡ data_report (compact v) t
unfolding data_value time_value data_report compact quoted bytes
data_compact v t = simp append_assoc

fault_compact : (f : Fault) (t : ℕ) → compact (fault_value f t) ≡ fault_report f t
unfolding fault_value time_value fault_report fault_name compact quoted bytes
fault_compact HardwareError t = simp append_assoc
fault_compact CommunicationFailed t = simp append_assoc
fault_compact ReadFailed t = simp append_assoc
fault_compact OutOfRange t = simp append_assoc

class_compact : (c : Class) → compact (class_value c) ≡ class_report c
unfolding class_value class_report class_name class_text compact quoted bytes
class_compact ProtocolError = refl
class_compact NoSuchModule = refl
class_compact NoSuchParameter = refl
class_compact NoSuchCommand = refl
class_compact ReadOnly = refl
class_compact BadJSON = refl
class_compact WrongType = refl
class_compact RangeError = refl

counts_compact : (x : Counts) (n : ℕ) → compact (counts_value x n) ≡ counts_text x n
unfolding counts_value counts_text compact
counts_compact x n = simp (append_assoc, append-nil)

-- ## The trees are readable

time_readable : (n t : ℕ) → Readable (suc n) (time_value t)
unfolding time_value bytes string_end chars char head tail is_in
time_readable n t = (refl, time_token t, tt)

data_readable : (v : Json) (t : ℕ) → Readable 7 v → Readable 8 (data_value v t)
unfolding data_value
data_readable v t r = (r, (time_readable 6 t, tt))

fault_raw : (f : Fault) → IsRaw (fault_name f)
unfolding fault_name bytes string_end chars char head tail is_in
fault_raw HardwareError = refl
fault_raw CommunicationFailed = refl
fault_raw ReadFailed = refl
fault_raw OutOfRange = refl

fault_readable : (f : Fault) (t : ℕ) → Readable 8 (fault_value f t)
unfolding fault_value
fault_readable f t = (fault_raw f, (fault_raw f, (time_readable 6 t, tt)))

class_raw : (c : Class) → IsRaw (class_name c) × IsRaw (class_text c)
unfolding class_name class_text bytes string_end chars char head tail is_in
class_raw ProtocolError = (refl, refl)
class_raw NoSuchModule = (refl, refl)
class_raw NoSuchParameter = (refl, refl)
class_raw NoSuchCommand = (refl, refl)
class_raw ReadOnly = (refl, refl)
class_raw BadJSON = (refl, refl)
class_raw WrongType = (refl, refl)
class_raw RangeError = (refl, refl)

class_readable : (c : Class) → Readable 8 (class_value c)
unfolding class_value
class_readable c = let r = class_raw c in (r.0, (r.1, (tt, tt)))

counts_readable : (x : Counts) (n : ℕ) → Readable 7 (counts_value x n)
unfolding counts_value
counts_readable x n = (natural_token x.lines, (natural_token x.errors, (natural_token x.updates, (natural_token n, tt))))

-- ## So they are read

data_read : (v : Json) (t : ℕ) → Readable 7 v → text (data_report (compact v) t) ≡ Some (data_value v t)
data_read v t r = rw data_compact at (readable_trees.read_back (data_value v t) (data_readable v t r))

fault_read : (f : Fault) (t : ℕ) → text (fault_report f t) ≡ Some (fault_value f t)
fault_read f t = rw fault_compact at (readable_trees.read_back (fault_value f t) (fault_readable f t))

class_read : (c : Class) → text (class_report c) ≡ Some (class_value c)
class_read c = rw class_compact at (readable_trees.read_back (class_value c) (class_readable c))

null_read : (t : ℕ) → text (data_report (bytes "null") t) ≡ Some (data_value null t)
unfolding compact
null_read t = data_read null t tt

counts_read : (x : Counts) (n t : ℕ) → text (data_report (counts_text x n) t) ≡ Some (data_value (counts_value x n) t)
counts_read x n t = rw counts_compact at (data_read (counts_value x n) t (counts_readable x n))

errors_read : (d : Denial) → text (error_report d) ≡ Some (denial_value d)
unfolding error_report denial_value
errors_read (class c) = class_read c
errors_read (fault f t) = fault_read f t

-- ## What a parameter holds

-- a value of at most four levels is one of at most seven
seven : (v : Json) → Readable 4 v → Readable 7 v
seven v r = more v 6 (more v 5 (more v 4 r))

-- a text in stored form is the compact text of the value that it is
own_compact : (d : Datainfo) (xs : List ℕ) → is_stored d xs ≡ true → (w : Json) → text xs ≡ Some w → compact w ≡ xs
unfolding stored_form form_of
own_compact d xs h w e = ap compact (stored_forms.own_value d xs h w e) ∙ (rw e at (stored_forms.own d xs h))

valued_read : (d : Datainfo) → Deep 4 d → (xs : List ℕ) (t : ℕ) → is_stored d xs ≡ true → IsRead (data_report xs t) (held_value (valued xs) t)
unfolding held_value is_stored
valued_read d g xs t h =
    fits_value d xs (both (is_fit (verdict d xs)) (same (stored_form d xs) xs) h).0 λ w e f.
    let r = seven w (shallow 4 d g w 8 (readable_trees.of_texts xs w e) f) in
    rw e (refl, rw (own_compact d xs h w e) at (data_read w t r))

held_read : (p : Parameter) → Deep 4 p.datainfo → (h : Held) (t : ℕ) → HeldFits p h → IsRead (held_report h t) (held_value h t)
unfolding held_report held_value
held_read p g (valued xs) t s = valued_read p.datainfo g xs t s
held_read p g (failed f) t s = (refl, fault_read f t)

-- ## The parameters of a table

abbrev DeepParameter : Parameter → Type 0
DeepParameter p = Deep 4 p.datainfo

parameters_of_lem : (l : List Accessible) → Each DeepAccessible l → Each DeepParameter (parameters_of l)
unfolding parameters_of
parameters_of_lem [] h = tt
parameters_of_lem (parameter p ∷ l) h = (h.0, parameters_of_lem l h.1)
parameters_of_lem (command c ∷ l) h = parameters_of_lem l h.1

parameters_from : (n : ℕ) (ms : List Module) → Each DeepModule ms → Each (λ (p : Placed Parameter). DeepParameter p.it) (placed_from parameters_of n ms)
unfolding placed_from
parameters_from n [] h = tt
parameters_from n (m ∷ ms) h =
    let P : Placed Parameter → Type 0 = λ p. DeepParameter p.it in
    let place : Parameter → Placed Parameter = λ a. record { home = n; module_name = m.name; it = a } in
    each_append P (map place (parameters_of m.accessibles)) (placed_from parameters_of (suc n) ms)
    (each_map P place (parameters_of m.accessibles) (parameters_of_lem m.accessibles h.0))
    (parameters_from (suc n) ms h.1)

parameter_deep : (table : List ℕ) → table_number table ≡ 0 → (k : ℕ) (p : Placed Parameter) → slice_get (parameters (table_of table)) k ≡ Some p
    → Deep 4 p.it.datainfo
unfolding parameters
parameter_deep table e k p q =
    each_at (λ (p : Placed Parameter). DeepParameter p.it) (parameters (table_of table))
    (parameters_from 0 (table_of table).modules (read_table_lem table e).deep) k p q

pub data_reports_are_read : DataReportsAreRead
data_reports_are_read = record {
  of_held = λ table e k p q h t f. held_read p.it (parameter_deep table e k p q) h t f;
  of_null = null_read;
  of_counts = counts_read;
  of_errors = errors_read;
}

pub start_accepted : (table : List ℕ) (area time : ℕ) → start_number table area time ≡ 0 → table_number table ≡ 0
unfolding start_number
start_accepted table area time e = first_fault_none _ e 0

pub held_reports_are_read : HeldReportsAreRead
held_reports_are_read table area time e h k p q =
    let n = finish table (begin (table_of table) time) h in
    data_reports_are_read.of_held table (start_accepted table area time e) k p q (n.values k).held (n.values k).time
    ((always_sound table area time e h).values k p q).0
