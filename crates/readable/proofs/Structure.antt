-- The structure report of an accepted table is a readable tree of fourteen levels. Assumes nothing.
use Rattle.std.specs.Prelude.{Option, Some, None}
use Prim.Native.Nat.{ℕ, zero, suc}
use native.Mathlib.Omega.{arith}
use mathlib.Core.Bool.{Bool, true, false, cond, not, ◌&&◌}
use mathlib.Core.List.{List, [], ◌∷◌, map, append-nil}
use mathlib.Core.Path.{◌≡◌, refl}
use borrow.Author.Tests.{not-false}
use Rattle.ascii.specs.Text.{bytes}
use Rattle.ascii.specs.Bytes.{all, head, tail, is_in}
use Rattle.ascii.specs.Names.{is_name, is_text, unique}
use Rattle.ascii.proofs.Lists.{both, all_parts}
use Rattle.decimal.proofs.Written.{integer_token}
use Rattle.json_text.specs.Json.{no_items, Members, char, chars, string_end}
use Rattle.json_text.specs.Readable.{IsRaw, Readable, ReadableItems, ReadableMembers}
use Rattle.json_text.proofs.ReadAgain.{stop_end}
use Rattle.json_text.proofs.ReadBack.{value_again}
use Rattle.datainfo.specs.Datainfo.{Variant, Datainfo, double, int, bool, enum, string, array, tuple, struct, scaled, blob, partial, Elements, no_elements}
use Rattle.datainfo.specs.Datainfo.{element, Fields, no_fields, field, field_names}
use Rattle.datainfo.specs.Rules as Datainfo
use Rattle.datainfo.specs.Rules.{good_names, elements_names_good, fields_names_good}
use Rattle.table.specs.Table.{Accessible, parameter, command, Module, Table}
use Rattle.table.specs.Layout.{read_table, or_empty, table_of}
use Rattle.table.specs.Rules.{accessible_name, if_any, note_good, accessible_names_good, module_names_good, edition_good, names_good}
use Rattle.report.specs.Report.{variant_values, name_items, datainfo_value, element_values, field_values, argument_member, accessible_member, accessible_members}
use Rattle.report.specs.Report.{module_members, report_value, report}
use Rattle.report.specs.Judge.{tree_number, number_of, table_number}
use Rattle.report.proofs.Faults.{no_fault, first_fault_none}
use Rattle.report.proofs.Plain.{name_text}
use Rattle.sound.proofs.Lists.{Each}
use Rattle.sound.proofs.Tabled.{Lies, ModuleLies, table_lies}
use Rattle.readable.specs.Theorems.{StructureReportsAreRead}
use Rattle.readable.proofs.Tokens.{text_raw, natural_token, decimal_token}
use Rattle.readable.proofs.More.{more}
use Rattle.readable.proofs.Levels.{EachElement, EachField, Inside, Deep, read_deep}

-- ## Datainfos

-- two levels of JSON for each of a datainfo: its object, and its members
twice : ℕ → ℕ
twice zero = zero
twice (suc n) = suc (suc (twice n))

name_raw : (k : List ℕ) → is_name k ≡ true → IsRaw k
name_raw k h = text_raw k (name_text k h)

names_all : (ks : List (List ℕ)) → good_names ks ≡ true → all is_name ks ≡ true
unfolding good_names
names_all ks h = (both (all is_name ks) (unique ks) h).0

variants_readable : (n : ℕ) (vs : List Variant) → all is_name (map (λ (v : Variant). v.name) vs) ≡ true → ReadableMembers n (variant_values vs)
unfolding variant_values
variants_readable n [] h = tt
variants_readable n (v ∷ vs) h =
    let p = all_parts is_name v.name (map (λ (v : Variant). v.name) vs) h in
    (name_raw v.name p.0, integer_token v.number, variants_readable n vs p.1)

names_readable : (n : ℕ) (ns : List (List ℕ)) → all is_name ns ≡ true → ReadableItems n (name_items ns)
unfolding name_items
names_readable n [] h = tt
names_readable n (k ∷ ns) h = let p = all_parts is_name k ns h in (name_raw k p.0, names_readable n ns p.1)

told_readable : (top : Bool) (n : ℕ) (ns : List (List ℕ)) → all is_name ns ≡ true → ReadableItems n (cond top (name_items ns) no_items)
told_readable true n ns h = names_readable n ns h
told_readable false n ns h = tt

-- of a datainfo, if those inside it are of n levels
module _ (n : ℕ) (inner : (d : Datainfo) → Deep n d → Datainfo.names_good d ≡ true → Readable (twice n) (datainfo_value false d)) where
  elements_readable : (ds : Elements) → EachElement (Deep n) ds → elements_names_good ds ≡ true → ReadableItems (twice n) (element_values ds)
  unfolding datainfo_value Datainfo.names_good
  elements_readable no_elements g h = tt
  elements_readable (element d ds) g h =
      let p = both (Datainfo.names_good d) (elements_names_good ds) h in
      (inner d g.0 p.0, elements_readable ds g.1 p.1)

  fields_readable : (fs : Fields) → EachField (Deep n) fs → all is_name (field_names fs) ≡ true → fields_names_good fs ≡ true
      → ReadableMembers (twice n) (field_values fs)
  unfolding datainfo_value Datainfo.names_good field_names all
  fields_readable no_fields g e h = tt
  fields_readable (field k d fs) g e h =
      let q = both (is_name k) (all is_name (field_names fs)) e in
      let p = both (Datainfo.names_good d) (fields_names_good fs) h in
      (name_raw k q.0, inner d g.0 p.0, fields_readable fs g.1 q.1 p.1)

  typed_readable : (top : Bool) (d : Datainfo) → Inside (Deep n) d → Datainfo.names_good d ≡ true → Readable (suc (suc (twice n))) (datainfo_value top d)
  unfolding datainfo_value Datainfo.names_good bytes string_end chars char head tail is_in
  typed_readable top (double lo hi) g h =
      (refl, refl, (refl, decimal_token lo.whole lo.power, (refl, decimal_token hi.whole hi.power, tt)))
  typed_readable top (int lo hi) g h = (refl, refl, (refl, integer_token lo, (refl, integer_token hi, tt)))
  typed_readable top bool g h = (refl, refl, tt)
  typed_readable top (enum vs) g h = (refl, refl, (refl, variants_readable (twice n) vs (names_all (map (λ (v : Variant). v.name) vs) h), tt))
  typed_readable top (string lo hi) g h = (refl, refl, (refl, natural_token lo, (refl, natural_token hi, tt)))
  typed_readable top (array lo hi d) g h =
      (refl, refl, (refl, natural_token lo, (refl, natural_token hi, (refl, more (datainfo_value false d) (twice n) (inner d g h), tt))))
  typed_readable top (tuple ds) g h = (refl, refl, (refl, elements_readable ds g h, tt))
  typed_readable top (struct fs) g h =
      let p = both (good_names (field_names fs)) (fields_names_good fs) h in
      (refl, refl, (refl, fields_readable fs g (names_all (field_names fs) p.0) p.1, tt))
  typed_readable top (scaled s lo hi) g h =
      (refl, refl, (refl, decimal_token s.whole s.power, (refl, integer_token lo, (refl, integer_token hi, tt))))
  typed_readable top (blob lo hi) g h = (refl, refl, (refl, natural_token lo, (refl, natural_token hi, tt)))
  typed_readable top (partial ns fs) g h =
      let p = both (good_names (field_names fs) && all is_name ns) (fields_names_good fs) h in
      let q = both (good_names (field_names fs)) (all is_name ns) p.0 in
      (refl, refl, (refl, fields_readable fs g (names_all (field_names fs) q.0) p.1, (refl, told_readable top (twice n) ns q.1, tt)))

datainfo_readable : (n : ℕ) (top : Bool) (d : Datainfo) → Deep n d → Datainfo.names_good d ≡ true → Readable (twice n) (datainfo_value top d)
unfolding twice
datainfo_readable zero top d g h = absurd g
datainfo_readable (suc n) top d g h = typed_readable n (λ e i j. datainfo_readable n false e i j) top d g h

-- ## Accessibles

-- "At most four levels"
abbrev pub DeepAccessible : Accessible → Type 0
DeepAccessible (parameter p) = Deep 4 p.datainfo
DeepAccessible (command c) = (d : Datainfo) → c.argument ≡ Some d → Deep 4 d

argument_readable : (o : Option Datainfo) → ((d : Datainfo) → o ≡ Some d → Deep 4 d) → if_any Datainfo.names_good o ≡ true
    → ReadableMembers 8 (argument_member o)
unfolding twice argument_member if_any bytes string_end chars char head tail is_in
argument_readable None g h = tt
argument_readable (Some d) g h = (refl, datainfo_readable 4 false d (g d refl) h, tt)

accessible_readable : (a : Accessible) → DeepAccessible a → is_name (accessible_name a) ≡ true → accessible_names_good a ≡ true → (rest : Members)
    → ReadableMembers 10 rest → ReadableMembers 10 (accessible_member a rest)
unfolding twice accessible_member accessible_name accessible_names_good bytes string_end chars char head tail is_in
accessible_readable (parameter p) g e h rest r =
    let q = both (is_text p.description) (Datainfo.names_good p.datainfo) h in
    let d = more (datainfo_value true p.datainfo) 8 (datainfo_readable 4 true p.datainfo g q.1) in
    (name_raw p.name e, (refl, text_raw p.description q.0, (refl, tt, (refl, d, tt))), r)
accessible_readable (command c) g e h rest r =
    let q = both (is_text c.description) (if_any Datainfo.names_good c.argument) h in
    let d = argument_readable c.argument g q.1 in
    (name_raw c.name e, (refl, text_raw c.description q.0, (refl, (refl, refl, d), tt)), r)

accessibles_readable : (l : List Accessible) → Each DeepAccessible l → all is_name (map accessible_name l) ≡ true → all accessible_names_good l ≡ true
    → ReadableMembers 10 (accessible_members l)
unfolding accessible_members
accessibles_readable [] g e h = tt
accessibles_readable (a ∷ l) g e h =
    let q = all_parts is_name (accessible_name a) (map accessible_name l) e in
    let p = all_parts accessible_names_good a l h in
    accessible_readable a g.0 q.0 p.0 (accessible_members l) (accessibles_readable l g.1 q.1 p.1)

-- ## Modules, the table

abbrev pub DeepModule : Module → Type 0
DeepModule m = Each DeepAccessible m.accessibles

modules_readable : (ms : List Module) → Each DeepModule ms → all is_name (map (λ (m : Module). m.name) ms) ≡ true → all module_names_good ms ≡ true
    → ReadableMembers 12 (module_members ms)
unfolding module_members module_names_good bytes string_end chars char head tail is_in
modules_readable [] g e h = tt
modules_readable (m ∷ ms) g e h =
    let q = all_parts is_name m.name (map (λ (m : Module). m.name) ms) e in
    let p = all_parts module_names_good m ms h in
    let l = m.accessibles in
    let a = both (is_text m.description && note_good m.note && good_names (map accessible_name l)) (all accessible_names_good l) p.0 in
    let b = both (is_text m.description && note_good m.note) (good_names (map accessible_name l)) a.0 in
    let c = both (is_text m.description) (note_good m.note) b.0 in
    let inner = accessibles_readable l g.0 (names_all (map accessible_name l) b.1) a.1 in (
      name_raw m.name q.0,
      (refl, tt, (refl, text_raw m.description c.0, (refl, inner, tt))),
      modules_readable ms g.1 q.1 p.1,
    )

report_readable : (t : Table) → Each DeepModule t.modules → names_good t ≡ true → Readable 14 (report_value t)
unfolding names_good report_value bytes string_end chars char head tail is_in
report_readable t g h =
    let names = map (λ (m : Module). m.name) t.modules in
    let texts = is_text t.equipment_id && is_text t.description in
    let a = both (texts && edition_good t.edition && good_names names) (all module_names_good t.modules) h in
    let b = both (texts && edition_good t.edition) (good_names names) a.0 in
    let c = both (is_text t.equipment_id) (is_text t.description) (both texts (edition_good t.edition) b.0).0 in (
      refl,
      modules_readable t.modules g (names_all names b.1) a.1,
      (refl, text_raw t.equipment_id c.0, (refl, text_raw t.description c.1, tt)),
    )

-- ## Accepted tables

lies_deep : (d : Datainfo) → Lies d → Deep 4 d
lies_deep d h = read_deep 4 h.bytes h.left d h.read

-- a module with these accessibles
abbrev holding : List Accessible → Module
holding l = record { name = []; description = []; note = None; accessibles = l }

accessibles_deep : (l : List Accessible) → ModuleLies (holding l) → Each DeepAccessible l
accessibles_deep [] h = tt
accessibles_deep (parameter p ∷ l) h = (lies_deep p.datainfo h.0, accessibles_deep l h.1)
accessibles_deep (command c ∷ l) h = (λ d e. lies_deep d (h.0 d e), accessibles_deep l h.1)

modules_deep : (ms : List Module) → Each ModuleLies ms → Each DeepModule ms
modules_deep [] h = tt
modules_deep (m ∷ ms) h = (accessibles_deep m.accessibles h.0, modules_deep ms h.1)

-- what is known of the table that accepted bytes are read as
pub record ReadTable (t : Table) : Type 0 where
  pub names : names_good t ≡ true
  pub deep : Each DeepModule t.modules

pub read_table_lem : (table : List ℕ) → table_number table ≡ 0 → ReadTable (table_of table)
unfolding table_number table_of number_of or_empty tree_number
read_table_lem table e = go (read_table table) refl e
  where
    go : (o : Option Table) → read_table table ≡ o → number_of o ≡ 0 → ReadTable (or_empty o)
    go None q e = absurd (omega arith)
    go (Some t) q e = record {
      names = not-false (names_good t) (no_fault 2 (not (names_good t)) (first_fault_none _ e 1));
      deep = modules_deep t.modules (table_lies table t q);
    }

pub structure_reports_are_read : StructureReportsAreRead
unfolding report
structure_reports_are_read table e =
    let t = table_of table in
    let r = read_table_lem table e in
    rw append-nil at (value_again 14 (report_value t) (report_readable t r.deep r.names) [] stop_end)
