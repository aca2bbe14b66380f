-- The report of an accepted table is a plain value, since names are texts. Assumes nothing.
use Rattle.std.specs.Prelude.{Option, Some, None}
use Prim.Native.Nat.{ℕ, ◌≤◌}
use native.Mathlib.Omega.{arith}
use mathlib.Core.Bool.{Bool, true, false, cond, not, ◌&&◌, ◌||◌}
use mathlib.Core.List.{List, [], ◌∷◌, map}
use mathlib.Core.Logic.{◌≢◌}
use mathlib.Core.Path.{◌≡◌, refl, ap}
use lib.Dec.{leb, eqb}
use lib.ListN.{length}
use borrow.Author.Tests.{not-false, leb-true, le-leb, eqb-true, ne_eqb}
use Rattle.ascii.specs.Text.{bytes}
use Rattle.ascii.specs.Bytes.{all, head, is_in, is_digit, is_letter}
use Rattle.ascii.specs.Names.{is_name_byte, is_name, is_text_byte, is_text, unique}
use Rattle.ascii.proofs.Lists.{both, all_parts, all_weaker}
use Rattle.json_text.specs.Json.{no_items, Members}
use Rattle.json_text.proofs.Printable.{either}
use Rattle.datainfo.specs.Datainfo.{Variant, Datainfo, double, int, bool, enum, string, array, tuple, struct, scaled, blob, partial, Elements, no_elements, element, Fields, no_fields, field, field_names}
use Rattle.datainfo.specs.Rules as Datainfo
use Rattle.datainfo.specs.Rules.{good_names, elements_names_good, fields_names_good}
use Rattle.table.specs.Table.{Accessible, parameter, command, Module, Table}
use Rattle.table.specs.Rules.{accessible_name, if_any, note_good, accessible_names_good, module_names_good, edition_good, names_good}
use Rattle.report.specs.Report.{variant_values, name_items, datainfo_value, element_values, field_values, argument_member, accessible_member, accessible_members}
use Rattle.report.specs.Report.{module_members, report_value}
use Rattle.report.specs.Judge.{tree_number}
use Rattle.report.proofs.Faults.{no_fault, first_fault_none}
use Rattle.report.proofs.Numbers.{natural_number, integer_number, decimal_number}
use Rattle.report.proofs.Read.{Plain, PlainItems, PlainMembers}

-- ## Names and texts

-- a class of bytes of which each is 32 to 126, no quote and no backslash
in_text : (lo hi b : ℕ) → (lo ≤ b → b ≤ hi → (32 ≤ b) × ((b ≤ 126) × ((b ≢ 34) × (b ≢ 92)))) → is_in lo hi b ≡ true → is_text_byte b ≡ true
unfolding is_text_byte is_in
in_text lo hi b f e =
    let i = both (leb lo b) (leb b hi) e in
    let k = f (leb-true lo b i.0) (leb-true b hi i.1) in
    rw (le-leb 32 b k.0, le-leb b 126 k.1.0, ne_eqb b 34 k.1.1.0, ne_eqb b 92 k.1.1.1) refl

name_byte : (b : ℕ) → is_name_byte b ≡ true → is_text_byte b ≡ true
unfolding is_name_byte is_letter is_text_byte is_in
name_byte b =
    either (is_letter b || is_digit b) (eqb b 95)
    (either (is_letter b) (is_digit b)
    (either (is_in 65 90 b) (is_in 97 122 b)
    (in_text 65 90 b (λ l h. (omega arith, (omega arith, (λ e. omega arith, λ e. omega arith)))))
    (in_text 97 122 b (λ l h. (omega arith, (omega arith, (λ e. omega arith, λ e. omega arith))))))
    (in_text 48 57 b (λ l h. (omega arith, (omega arith, (λ e. omega arith, λ e. omega arith))))))
    (λ e. ap is_text_byte (eqb-true b 95 e))

pub name_text : (xs : List ℕ) → is_name xs ≡ true → is_text xs ≡ true
unfolding is_name is_text
name_text xs h =
    all_weaker is_name_byte is_text_byte name_byte xs
    (both (leb 1 (length xs) && leb (length xs) 63 && not (is_digit (head xs))) (all is_name_byte xs) h).1

names_all : (ks : List (List ℕ)) → good_names ks ≡ true → all is_name ks ≡ true
unfolding good_names
names_all ks h = (both (all is_name ks) (unique ks) h).0

-- ## Datainfo

variants_plain : (vs : List Variant) → all is_name (map (λ (v : Variant). v.name) vs) ≡ true → PlainMembers (variant_values vs)
unfolding variant_values
variants_plain [] h = tt
variants_plain (v ∷ vs) h =
    let p = all_parts is_name v.name (map (λ (v : Variant). v.name) vs) h in
    (name_text v.name p.0, integer_number v.number, variants_plain vs p.1)

names_items : (ns : List (List ℕ)) → all is_name ns ≡ true → PlainItems (name_items ns)
unfolding name_items
names_items [] h = tt
names_items (n ∷ ns) h = let p = all_parts is_name n ns h in (name_text n p.0, names_items ns p.1)

told_names : (top : Bool) (ns : List (List ℕ)) → all is_name ns ≡ true → PlainItems (cond top (name_items ns) no_items)
told_names true ns h = names_items ns h
told_names false ns h = tt

mutual
  unfolding datainfo_value Datainfo.names_good field_names all bytes is_text is_text_byte is_in

  datainfo_plain : (top : Bool) (d : Datainfo) → Datainfo.names_good d ≡ true → Plain (datainfo_value top d)
  datainfo_plain top (double lo hi) h =
      (refl, refl, (refl, decimal_number lo.whole lo.power, (refl, decimal_number hi.whole hi.power, tt)))
  datainfo_plain top (int lo hi) h = (refl, refl, (refl, integer_number lo, (refl, integer_number hi, tt)))
  datainfo_plain top bool h = (refl, refl, tt)
  datainfo_plain top (enum vs) h = (refl, refl, (refl, variants_plain vs (names_all (map (λ (v : Variant). v.name) vs) h), tt))
  datainfo_plain top (string lo hi) h = (refl, refl, (refl, natural_number lo, (refl, natural_number hi, tt)))
  datainfo_plain top (array lo hi d) h = (refl, refl, (refl, natural_number lo, (refl, natural_number hi, (refl, datainfo_plain false d h, tt))))
  datainfo_plain top (tuple ds) h = (refl, refl, (refl, elements_plain ds h, tt))
  datainfo_plain top (struct fs) h =
      let p = both (good_names (field_names fs)) (fields_names_good fs) h in
      (refl, refl, (refl, fields_plain fs (names_all (field_names fs) p.0) p.1, tt))
  datainfo_plain top (scaled s lo hi) h =
      (refl, refl, (refl, decimal_number s.whole s.power, (refl, integer_number lo, (refl, integer_number hi, tt))))
  datainfo_plain top (blob lo hi) h = (refl, refl, (refl, natural_number lo, (refl, natural_number hi, tt)))
  datainfo_plain top (partial ns fs) h =
      let p = both (good_names (field_names fs) && all is_name ns) (fields_names_good fs) h in
      let q = both (good_names (field_names fs)) (all is_name ns) p.0 in
      (refl, refl, (refl, fields_plain fs (names_all (field_names fs) q.0) p.1, (refl, told_names top ns q.1, tt)))

  elements_plain : (ds : Elements) → elements_names_good ds ≡ true → PlainItems (element_values ds)
  elements_plain no_elements h = tt
  elements_plain (element d ds) h =
      let p = both (Datainfo.names_good d) (elements_names_good ds) h in
      (datainfo_plain false d p.0, elements_plain ds p.1)

  fields_plain : (fs : Fields) → all is_name (field_names fs) ≡ true → fields_names_good fs ≡ true → PlainMembers (field_values fs)
  fields_plain no_fields g h = tt
  fields_plain (field k d fs) g h =
      let q = both (is_name k) (all is_name (field_names fs)) g in
      let p = both (Datainfo.names_good d) (fields_names_good fs) h in
      (name_text k q.0, datainfo_plain false d p.0, fields_plain fs q.1 p.1)

-- ## Accessibles, modules, the table

argument_plain : (o : Option Datainfo) → if_any Datainfo.names_good o ≡ true → PlainMembers (argument_member o)
unfolding argument_member if_any all bytes is_text is_text_byte is_in
argument_plain None h = tt
argument_plain (Some d) h = (refl, datainfo_plain false d h, tt)

accessible_plain : (a : Accessible) → is_name (accessible_name a) ≡ true → accessible_names_good a ≡ true → (rest : Members) → PlainMembers rest
    → PlainMembers (accessible_member a rest)
unfolding accessible_member accessible_name accessible_names_good all bytes is_text is_text_byte is_in
accessible_plain (parameter p) g h rest r =
    let q = both (is_text p.description) (Datainfo.names_good p.datainfo) h in
    (name_text p.name g, (refl, q.0, (refl, tt, (refl, datainfo_plain true p.datainfo q.1, tt))), r)
accessible_plain (command c) g h rest r =
    let q = both (is_text c.description) (if_any Datainfo.names_good c.argument) h in
    (name_text c.name g, (refl, q.0, (refl, (refl, refl, argument_plain c.argument q.1), tt)), r)

accessibles_plain : (l : List Accessible) → all is_name (map accessible_name l) ≡ true → all accessible_names_good l ≡ true
    → PlainMembers (accessible_members l)
unfolding accessible_members
accessibles_plain [] g h = tt
accessibles_plain (a ∷ l) g h =
    let q = all_parts is_name (accessible_name a) (map accessible_name l) g in
    let p = all_parts accessible_names_good a l h in
    accessible_plain a q.0 p.0 (accessible_members l) (accessibles_plain l q.1 p.1)

modules_plain : (ms : List Module) → all is_name (map (λ (m : Module). m.name) ms) ≡ true → all module_names_good ms ≡ true
    → PlainMembers (module_members ms)
unfolding module_members module_names_good all bytes is_text is_text_byte is_in
modules_plain [] g h = tt
modules_plain (m ∷ ms) g h =
    let q = all_parts is_name m.name (map (λ (m : Module). m.name) ms) g in
    let p = all_parts module_names_good m ms h in
    let l = m.accessibles in
    let a = both (is_text m.description && note_good m.note && good_names (map accessible_name l)) (all accessible_names_good l) p.0 in
    let b = both (is_text m.description && note_good m.note) (good_names (map accessible_name l)) a.0 in
    let c = both (is_text m.description) (note_good m.note) b.0 in
    let inner = accessibles_plain l (names_all (map accessible_name l) b.1) a.1 in (
      name_text m.name q.0,
      (refl, tt, (refl, c.0, (refl, inner, tt))),
      modules_plain ms q.1 p.1,
    )

names_plain : (t : Table) → names_good t ≡ true → Plain (report_value t)
unfolding names_good report_value all bytes is_text is_text_byte is_in
names_plain t h =
    let names = map (λ (m : Module). m.name) t.modules in
    let texts = is_text t.equipment_id && is_text t.description in
    let a = both (texts && edition_good t.edition && good_names names) (all module_names_good t.modules) h in
    let b = both (texts && edition_good t.edition) (good_names names) a.0 in
    let c = both (is_text t.equipment_id) (is_text t.description) (both texts (edition_good t.edition) b.0).0 in (
      refl,
      modules_plain t.modules (names_all names b.1) a.1,
      (refl, c.0, (refl, c.1, tt)),
    )

-- ## Accepted tables

pub report_plain : (t : Table) → tree_number t ≡ 0 → Plain (report_value t)
unfolding tree_number
report_plain t e =
    names_plain t (not-false (names_good t) (no_fault 2 (not (names_good t)) (first_fault_none _ e 1)))
