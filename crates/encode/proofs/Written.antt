-- What is written of an accepted table is bytes. Assumes nothing.
use Rattle.std.specs.Prelude.{Option, Some, None}
use Prim.Native.Nat.{ℕ, ◌≤◌}
use native.Mathlib.Omega.{arith}
use mathlib.Core.Path.{◌≡◌, refl}
use mathlib.Core.Bool.{true, false, not, ◌&&◌, false≢true}
use mathlib.Core.List.{List, [], ◌∷◌, ◌++◌, map}
use lib.Dec.{leb}
use lib.ListN.{length}
use lib.Pow.{are_bytes}
use borrow.Author.Tests.{leb-true, lt-ltb}
use Rattle.ascii.specs.Text.{bytes}
use Rattle.ascii.specs.Bytes.{all, head, is_in, is_digit, is_printable}
use Rattle.ascii.specs.Names.{is_name_byte, is_name, is_text, unique}
use Rattle.ascii.proofs.Lists.{both, all_parts}
use Rattle.decimal.specs.Decimal.{Decimal}
use Rattle.json_text.specs.Json.{Json, text}
use Rattle.json_text.proofs.Printable.{texts_are_printable}
use Rattle.datainfo.specs.Datainfo.{Variant, Datainfo, double, int, bool, enum, string, array, tuple, struct, scaled, blob, partial, Elements, no_elements}
use Rattle.datainfo.specs.Datainfo.{element, Fields, no_fields, field, element_count, field_names}
use Rattle.datainfo.specs.Rules as Datainfo
use Rattle.datainfo.specs.Rules.{is_between, good_names, values_unique, elements_names_good, fields_names_good, elements_rules_kept, fields_rules_kept}
use Rattle.fit.specs.Fit.{severity, verdict_of, verdict, is_fit, is_stored}
use Rattle.form.proofs.Stored.{stored_fits}
use Rattle.table.specs.Table.{Parameter, Command, Accessible, parameter, command, Module, Table}
use Rattle.table.specs.Rules.{accessible_name, if_any, note_good, edition_good, accessible_names_good, module_names_good, names_good, rules_kept, initial_good}
use Rattle.table.specs.Rules.{datainfos_good, initials_good}
use Rattle.report.proofs.Plain.{name_text}
use Rattle.report.proofs.Printed.{text_printed}
use Rattle.encode.specs.Encode.{unsigned_bytes, signed_bytes, flag_byte, text_bytes, limit_bytes, variants_bytes, is_next, after_next, datainfo_bytes}
use Rattle.encode.specs.Encode.{elements_bytes, fields_bytes, flagged_bytes}
use Rattle.encode.specs.Encode.{before_initial, parameter_bytes, argument_bytes, command_bytes, accessible_bytes, accessibles_bytes, marked_bytes}
use Rattle.encode.specs.Encode.{heading_bytes, module_bytes, modules_bytes, head_bytes, encode}
use Rattle.encode.specs.Fits.{text_fits, option_fits, datainfo_fits, accessible_fits, module_fits, head_fits}
use Rattle.encode.proofs.Numbers.{bytes_join, unsigned_bytes_lem, signed_bytes_lem, text_bytes_lem, flag_bytes}

-- ## Texts and names

printed_bytes : (xs : List ℕ) → all is_printable xs ≡ true → are_bytes xs ≡ true
unfolding all is_in
printed_bytes [] h = refl
printed_bytes (x ∷ xs) h =
    let p = both (is_printable x) (all is_printable xs) h in
    let l = leb-true x 126 (both (leb 32 x) (leb x 126) p.0).1 in
    rw (lt-ltb x 256 (omega arith)) (printed_bytes xs p.1)

text_written : (x : List ℕ) → is_text x ≡ true → text_fits x ≡ true → are_bytes (text_bytes x) ≡ true
unfolding text_fits
text_written x h f = text_bytes_lem x (leb-true (length x) 255 f) (printed_bytes x (text_printed x h))

name_written : (x : List ℕ) → is_name x ≡ true → are_bytes (text_bytes x) ≡ true
unfolding is_name
name_written x h =
    let a = (both (leb 1 (length x) && leb (length x) 63 && not (is_digit (head x))) (all is_name_byte x) h).0 in
    let b = (both (leb 1 (length x) && leb (length x) 63) (not (is_digit (head x))) a).0 in
    let l = leb-true (length x) 63 (both (leb 1 (length x)) (leb (length x) 63) b).1 in
    text_bytes_lem x (omega arith) (printed_bytes x (text_printed x (name_text x h)))

names_all : (ks : List (List ℕ)) → good_names ks ≡ true → all is_name ks ≡ true
unfolding good_names
names_all ks h = (both (all is_name ks) (unique ks) h).0

initial_written : (d : Datainfo) (x : List ℕ) → is_stored d x ≡ true → are_bytes x ≡ true
unfolding verdict verdict_of is_fit severity
initial_written d x h = go (text x) refl (stored_fits d x h)
  where
    go : (o : Option Json) → text x ≡ o → is_fit (verdict_of d o) ≡ true → are_bytes x ≡ true
    go None q e = absurd (false≢true e)
    go (Some v) q e = printed_bytes x (texts_are_printable x v q)

-- ## Datainfos

limit_written : (a : Decimal) → are_bytes (limit_bytes a) ≡ true
unfolding limit_bytes
limit_written a = bytes_join (signed_bytes 8 a.whole) (signed_bytes 1 a.power) (signed_bytes_lem 8 a.whole) (signed_bytes_lem 1 a.power)

variants_written : (vs : List Variant) → all is_name (map (λ (v : Variant). v.name) vs) ≡ true → are_bytes (variants_bytes vs) ≡ true
unfolding variants_bytes
variants_written [] h = refl
variants_written (v ∷ vs) h =
    let p = all_parts is_name v.name (map (λ (w : Variant). w.name) vs) h in
    bytes_join (text_bytes v.name ++ signed_bytes 4 v.number) (variants_bytes vs)
    (bytes_join (text_bytes v.name) (signed_bytes 4 v.number) (name_written v.name p.0) (signed_bytes_lem 4 v.number))
    (variants_written vs p.1)

two_written : (lo hi : ℕ) → are_bytes (unsigned_bytes 2 lo ++ unsigned_bytes 2 hi) ≡ true
two_written lo hi = bytes_join (unsigned_bytes 2 lo) (unsigned_bytes 2 hi) (unsigned_bytes_lem 2 lo) (unsigned_bytes_lem 2 hi)

-- a count byte, and what it counts
count_written : (lo hi n : ℕ) (xs : List ℕ) → is_between lo hi n ≡ true → hi ≤ 255 → are_bytes xs ≡ true → are_bytes (n ∷ xs) ≡ true
unfolding is_between
count_written lo hi n xs h l k = let m = leb-true n hi (both (leb lo n) (leb n hi) h).1 in rw (lt-ltb n 256 (omega arith)) k

member_written : (k x y : List ℕ) → is_name k ≡ true → are_bytes x ≡ true → are_bytes y ≡ true → are_bytes ((text_bytes k ++ x) ++ y) ≡ true
member_written k x y h a b = bytes_join (text_bytes k ++ x) y (bytes_join (text_bytes k) x (name_written k h) a) b

mutual
  unfolding datainfo_bytes Datainfo.names_good Datainfo.rules_kept field_names

  datainfo_written : (d : Datainfo) → Datainfo.names_good d ≡ true → Datainfo.rules_kept d ≡ true → are_bytes (datainfo_bytes d) ≡ true
  datainfo_written (double lo hi) h k = bytes_join (limit_bytes lo) (limit_bytes hi) (limit_written lo) (limit_written hi)
  datainfo_written (int lo hi) h k = bytes_join (signed_bytes 8 lo) (signed_bytes 8 hi) (signed_bytes_lem 8 lo) (signed_bytes_lem 8 hi)
  datainfo_written bool h k = refl
  datainfo_written (enum vs) h k =
      let c = (both (is_between 1 32 (length vs)) (values_unique (map (λ (v : Variant). v.number) vs)) k).0 in
      count_written 1 32 (length vs) (variants_bytes vs) c (omega arith) (variants_written vs (names_all (map (λ (v : Variant). v.name) vs) h))
  datainfo_written (string lo hi) h k = two_written lo hi
  datainfo_written (array lo hi d) h k =
      bytes_join (unsigned_bytes 2 lo ++ unsigned_bytes 2 hi) (datainfo_bytes d) (two_written lo hi)
      (datainfo_written d h (both (leb lo hi) (Datainfo.rules_kept d) k).1)
  datainfo_written (tuple ds) h k =
      let p = both (is_between 1 8 (element_count ds)) (elements_rules_kept ds) k in
      count_written 1 8 (element_count ds) (elements_bytes ds) p.0 (omega arith) (elements_written ds h p.1)
  datainfo_written (struct fs) h k =
      let q = both (good_names (field_names fs)) (fields_names_good fs) h in
      let p = both (is_between 1 8 (length (field_names fs))) (fields_rules_kept fs) k in
      count_written 1 8 (length (field_names fs)) (fields_bytes fs) p.0 (omega arith) (fields_written fs (names_all (field_names fs) q.0) q.1 p.1)
  datainfo_written (scaled s lo hi) h k =
      bytes_join (limit_bytes s ++ signed_bytes 8 lo) (signed_bytes 8 hi)
      (bytes_join (limit_bytes s) (signed_bytes 8 lo) (limit_written s) (signed_bytes_lem 8 lo)) (signed_bytes_lem 8 hi)
  datainfo_written (blob lo hi) h k = two_written lo hi
  datainfo_written (partial ns fs) h k =
      let q = both (good_names (field_names fs) && all is_name ns) (fields_names_good fs) h in
      let g = (both (good_names (field_names fs)) (all is_name ns) q.0).0 in
      let p = both (is_between 1 8 (length (field_names fs))) (fields_rules_kept fs) k in
      count_written 1 8 (length (field_names fs)) (flagged_bytes ns fs) p.0 (omega arith)
      (flagged_written fs ns (names_all (field_names fs) g) q.1 p.1)

  elements_written : (ds : Elements) → elements_names_good ds ≡ true → elements_rules_kept ds ≡ true → are_bytes (elements_bytes ds) ≡ true
  elements_written no_elements h k = refl
  elements_written (element d ds) h k =
      let p = both (Datainfo.names_good d) (elements_names_good ds) h in
      let q = both (Datainfo.rules_kept d) (elements_rules_kept ds) k in
      bytes_join (datainfo_bytes d) (elements_bytes ds) (datainfo_written d p.0 q.0) (elements_written ds p.1 q.1)

  fields_written : (fs : Fields) → all is_name (field_names fs) ≡ true → fields_names_good fs ≡ true → fields_rules_kept fs ≡ true
      → are_bytes (fields_bytes fs) ≡ true
  fields_written no_fields g h k = refl
  fields_written (field x d fs) g h k =
      let i = all_parts is_name x (field_names fs) g in
      let p = both (Datainfo.names_good d) (fields_names_good fs) h in
      let q = both (Datainfo.rules_kept d) (fields_rules_kept fs) k in
      member_written x (datainfo_bytes d) (fields_bytes fs) i.0 (datainfo_written d p.0 q.0) (fields_written fs i.1 p.1 q.1)

  flagged_written : (fs : Fields) (ns : List (List ℕ)) → all is_name (field_names fs) ≡ true → fields_names_good fs ≡ true → fields_rules_kept fs ≡ true
      → are_bytes (flagged_bytes ns fs) ≡ true
  flagged_written no_fields ns g h k = refl
  flagged_written (field x d fs) ns g h k =
      let i = all_parts is_name x (field_names fs) g in
      let p = both (Datainfo.names_good d) (fields_names_good fs) h in
      let q = both (Datainfo.rules_kept d) (fields_rules_kept fs) k in
      let on = flagged_bytes (after_next x ns) fs in
      flag_bytes (is_next x ns) ((text_bytes x ++ datainfo_bytes d) ++ on)
      (member_written x (datainfo_bytes d) on i.0 (datainfo_written d p.0 q.0) (flagged_written fs (after_next x ns) i.1 p.1 q.1))

-- ## Records

parameter_written : (p : Parameter) → is_name p.name ≡ true → accessible_names_good (parameter p) ≡ true → accessible_fits (parameter p) ≡ true
    → rules_kept (parameter p) ≡ true → initial_good (parameter p) ≡ true → are_bytes (parameter_bytes p) ≡ true
unfolding parameter_bytes before_initial bytes accessible_names_good accessible_fits rules_kept initial_good
parameter_written p n h f k i =
    let t = both (is_text p.description) (Datainfo.names_good p.datainfo) h in
    let g = both (text_fits p.description) (datainfo_fits p.datainfo) f in
    let texts = text_bytes p.name ++ text_bytes p.description in
    let flagged = texts ++ (flag_byte p.readonly ∷ []) in
    let typed = flagged ++ datainfo_bytes p.datainfo in
    let size = unsigned_bytes 2 (length p.initial) in
    bytes_join (typed ++ size) p.initial
    (bytes_join typed size
    (bytes_join flagged (datainfo_bytes p.datainfo)
    (bytes_join texts (flag_byte p.readonly ∷ [])
    (bytes_join (text_bytes p.name) (text_bytes p.description) (name_written p.name n) (text_written p.description t.0 g.0))
    (flag_bytes p.readonly [] refl))
    (datainfo_written p.datainfo t.1 k))
    (unsigned_bytes_lem 2 (length p.initial)))
    (initial_written p.datainfo p.initial i)

argument_written : (o : Option Datainfo) → if_any Datainfo.names_good o ≡ true → if_any Datainfo.rules_kept o ≡ true → are_bytes (argument_bytes o) ≡ true
unfolding argument_bytes if_any
argument_written None h k = flag_bytes false [] refl
argument_written (Some d) h k = flag_bytes true (datainfo_bytes d) (datainfo_written d h k)

command_written : (c : Command) → is_name c.name ≡ true → accessible_names_good (command c) ≡ true → accessible_fits (command c) ≡ true
    → rules_kept (command c) ≡ true → are_bytes (command_bytes c) ≡ true
unfolding command_bytes bytes accessible_names_good accessible_fits rules_kept
command_written c n h f k =
    let t = both (is_text c.description) (if_any Datainfo.names_good c.argument) h in
    let g = both (text_fits c.description) (if_any datainfo_fits c.argument) f in
    bytes_join (text_bytes c.name ++ text_bytes c.description) (argument_bytes c.argument)
    (bytes_join (text_bytes c.name) (text_bytes c.description) (name_written c.name n) (text_written c.description t.0 g.0))
    (argument_written c.argument t.1 k)

accessible_written : (a : Accessible) → is_name (accessible_name a) ≡ true → accessible_names_good a ≡ true → accessible_fits a ≡ true → rules_kept a ≡ true
    → initial_good a ≡ true → are_bytes (accessible_bytes a) ≡ true
unfolding accessible_bytes accessible_name
accessible_written (parameter p) n h f k i = parameter_written p n h f k i
accessible_written (command c) n h f k i = command_written c n h f k

accessibles_written : (l : List Accessible) → all is_name (map accessible_name l) ≡ true → all accessible_names_good l ≡ true → all accessible_fits l ≡ true
    → all rules_kept l ≡ true → all initial_good l ≡ true → are_bytes (accessibles_bytes l) ≡ true
unfolding accessibles_bytes
accessibles_written [] n h f k i = refl
accessibles_written (a ∷ l) n h f k i =
    let n2 = all_parts is_name (accessible_name a) (map accessible_name l) n in
    let h2 = all_parts accessible_names_good a l h in
    let f2 = all_parts accessible_fits a l f in
    let k2 = all_parts rules_kept a l k in
    let i2 = all_parts initial_good a l i in
    bytes_join (accessible_bytes a) (accessibles_bytes l) (accessible_written a n2.0 h2.0 f2.0 k2.0 i2.0)
    (accessibles_written l n2.1 h2.1 f2.1 k2.1 i2.1)

-- a text after a mark that is bytes
note_written : (o : Option (List ℕ)) → note_good o ≡ true → option_fits o ≡ true → are_bytes (marked_bytes (bytes "NO") o) ≡ true
unfolding marked_bytes bytes note_good option_fits
note_written None h f = refl
note_written (Some x) h f = text_written x h f

edition_written : (o : Option (List ℕ)) → edition_good o ≡ true → option_fits o ≡ true → are_bytes (marked_bytes (bytes "ED") o) ≡ true
unfolding marked_bytes bytes edition_good option_fits
edition_written None h f = refl
edition_written (Some x) h f = text_written x (both (is_text x) _ h).0 f

texts_written : (a b m : List ℕ) → are_bytes (text_bytes a) ≡ true → are_bytes (text_bytes b) ≡ true → are_bytes m ≡ true
    → are_bytes ((text_bytes a ++ text_bytes b) ++ m) ≡ true
texts_written a b m h k i = bytes_join (text_bytes a ++ text_bytes b) m (bytes_join (text_bytes a) (text_bytes b) h k) i

module_written : (m : Module) → is_name m.name ≡ true → module_names_good m ≡ true → module_fits m ≡ true → all rules_kept m.accessibles ≡ true
    → all initial_good m.accessibles ≡ true → are_bytes (module_bytes m) ≡ true
unfolding module_bytes heading_bytes bytes module_names_good module_fits
module_written m n h f k i =
    let l = m.accessibles in
    let a = both (is_text m.description && note_good m.note && good_names (map accessible_name l)) (all accessible_names_good l) h in
    let b = both (is_text m.description && note_good m.note) (good_names (map accessible_name l)) a.0 in
    let c = both (is_text m.description) (note_good m.note) b.0 in
    let g = both (text_fits m.description && option_fits m.note) (all accessible_fits l) f in
    let d = both (text_fits m.description) (option_fits m.note) g.0 in
    bytes_join ((text_bytes m.name ++ text_bytes m.description) ++ marked_bytes (bytes "NO") m.note) (accessibles_bytes l)
    (texts_written m.name m.description (marked_bytes (bytes "NO") m.note) (name_written m.name n)
    (text_written m.description c.0 d.0) (note_written m.note c.1 d.1))
    (accessibles_written l (names_all (map accessible_name l) b.1) a.1 g.1 k i)

modules_written : (ms : List Module) → all is_name (map (λ (m : Module). m.name) ms) ≡ true → all module_names_good ms ≡ true → all module_fits ms ≡ true
    → all (λ (m : Module). all rules_kept m.accessibles) ms ≡ true → all (λ (m : Module). all initial_good m.accessibles) ms ≡ true
    → are_bytes (modules_bytes ms) ≡ true
unfolding modules_bytes
modules_written [] n h f k i = refl
modules_written (m ∷ ms) n h f k i =
    let n2 = all_parts is_name m.name (map (λ (m : Module). m.name) ms) n in
    let h2 = all_parts module_names_good m ms h in
    let f2 = all_parts module_fits m ms f in
    let k2 = all_parts (λ (m : Module). all rules_kept m.accessibles) m ms k in
    let i2 = all_parts (λ (m : Module). all initial_good m.accessibles) m ms i in
    bytes_join (module_bytes m) (modules_bytes ms) (module_written m n2.0 h2.0 f2.0 k2.0 i2.0)
    (modules_written ms n2.1 h2.1 f2.1 k2.1 i2.1)

pub table_written : (t : Table) → names_good t ≡ true → head_fits t ≡ true → all module_fits t.modules ≡ true → datainfos_good t ≡ true
    → initials_good t ≡ true → are_bytes (encode t) ≡ true
unfolding encode head_bytes bytes names_good head_fits datainfos_good initials_good
table_written t h f g k i =
    let names = map (λ (m : Module). m.name) t.modules in
    let texts = is_text t.equipment_id && is_text t.description in
    let a = both (texts && edition_good t.edition && good_names names) (all module_names_good t.modules) h in
    let b = both (texts && edition_good t.edition) (good_names names) a.0 in
    let c = both texts (edition_good t.edition) b.0 in
    let d = both (is_text t.equipment_id) (is_text t.description) c.0 in
    let w = both (text_fits t.equipment_id && text_fits t.description) (option_fits t.edition) f in
    let v = both (text_fits t.equipment_id) (text_fits t.description) w.0 in
    let head = (text_bytes t.equipment_id ++ text_bytes t.description) ++ marked_bytes (bytes "ED") t.edition in
    bytes_join (head ++ modules_bytes t.modules) (bytes "EN")
    (bytes_join head (modules_bytes t.modules)
    (texts_written t.equipment_id t.description (marked_bytes (bytes "ED") t.edition) (text_written t.equipment_id d.0 v.0)
    (text_written t.description d.1 v.1) (edition_written t.edition c.1 w.1))
    (modules_written t.modules (names_all names b.1) a.1 g k i))
    refl
