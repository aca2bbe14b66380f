-- The report and the report with notes: the first is that of the table without notes, and no longer. Assumes nothing.
use Rattle.std.specs.Prelude.{Option, Some, None}
use Prim.Native.Nat.{ℕ, ◌≤◌}
use native.Mathlib.Omega.{arith}
use mathlib.Core.Bool.{false}
use mathlib.Core.List.{List, [], ◌∷◌, map}
use mathlib.Core.Path.{◌≡◌, refl}
use lib.Dec.{ltb}
use lib.ListN.{length, length-append}
use borrow.Author.Tests.{ltb-false, le-ltb}
use Rattle.ascii.specs.Text.{bytes}
use Rattle.json_text.specs.Json.{Json, array, object, string, no_items, Members, no_members, member, compact, compact_members, more_members}
use Rattle.table.specs.Table.{Module, Table}
use Rattle.report.specs.Report.{keyed, accessible_members, module_members, report_value, report}
use Rattle.report.specs.Judge.{tree_number}
use Rattle.report.specs.Notes.{note_member, noted_members, noted_value, noted_report, noted_number, without_note, without_notes, NotesGone}
use Rattle.report.proofs.Faults.{no_fault, first_fault_none}

-- ## The table without notes

members_left : (ms : List Module) → module_members ms ≡ noted_members (map without_note ms)
unfolding module_members noted_members note_member without_note
members_left [] = refl
members_left (m ∷ ms) = rw (members_left ms)

left_out_lem : (t : Table) → report t ≡ noted_report (without_notes t)
unfolding report report_value noted_report noted_value without_notes
left_out_lem t = rw (members_left t.modules)

-- ## Members whose texts are no longer than those of others, as the first of an object and after another member

record Shorter (ms ns : Members) : Type 0 where
  first : length (compact_members ms) ≤ length (compact_members ns)
  more : length (more_members ms) ≤ length (more_members ns)

module _ (k : List ℕ) (v : Json) (ms ns : Members) (h : length (more_members ms) ≤ length (more_members ns)) where
  value_shorter : (w : Json) → length (compact v) ≤ length (compact w) → Shorter (member k v ms) (member k w ns)
  unfolding compact_members more_members
  value_shorter w g = record { first = simp length-append (omega arith); more = simp length-append (omega arith) }

  -- with the same first member
  rest_shorter : Shorter (member k v ms) (member k v ns)
  rest_shorter = value_shorter v (omega arith)

object_shorter : {ms ns : Members} → Shorter ms ns → length (compact (object ms)) ≤ length (compact (object ns))
unfolding compact
object_shorter s = let h = s.first in simp length-append (omega arith)

note_more : (o : Option (List ℕ)) (ms : Members) → length (more_members ms) ≤ length (more_members (note_member o ms))
unfolding note_member more_members
note_more None ms = omega arith
note_more (Some x) ms = simp length-append (omega arith)

abbrev accessibles_of : Module → Members
accessibles_of m = keyed "accessibles" (object (accessible_members m.accessibles)) no_members

-- what is told of a module, and what was
abbrev module_value : Module → Json
module_value m = object (keyed "interface_classes" (array no_items) (keyed "description" (string m.description) (accessibles_of m)))

abbrev noted_module : Module → Json
noted_module m = object (keyed "interface_classes" (array no_items) (keyed "description" (string m.description) (note_member m.note (accessibles_of m))))

module_shorter : (m : Module) (told noted : Members) → length (more_members told) ≤ length (more_members noted) → Shorter (member m.name (module_value m) told) (member m.name (noted_module m) noted)
module_shorter m told noted h =
    let inner = accessibles_of m in
    let d = rest_shorter (bytes "description") (string m.description) inner (note_member m.note inner) (note_more m.note inner) in
    let i = rest_shorter (bytes "interface_classes") (array no_items) (keyed "description" (string m.description) inner) (keyed "description" (string m.description) (note_member m.note inner)) d.more in
    value_shorter m.name (module_value m) told noted h (noted_module m) (object_shorter i)

members_shorter : (ms : List Module) → Shorter (module_members ms) (noted_members ms)
unfolding module_members noted_members
members_shorter [] = record { first = omega arith; more = omega arith }
members_shorter (m ∷ ms) = module_shorter m (module_members ms) (noted_members ms) (members_shorter ms).more

shorter : (t : Table) → length (report t) ≤ length (noted_report t)
unfolding report report_value noted_report noted_value
shorter t =
    let others = keyed "equipment_id" (string t.equipment_id) (keyed "description" (string t.description) no_members) in
    object_shorter (value_shorter (bytes "modules") (object (module_members t.modules)) others others (omega arith) (object (noted_members t.modules)) (object_shorter (members_shorter t.modules)))

-- ## Accepted tables

accepted : (t : Table) → noted_number t ≡ 0 → tree_number t ≡ 0
unfolding noted_number tree_number
accepted t e =
    let long : ltb 32000 (length (noted_report t)) ≡ false = no_fault 5 _ (first_fault_none _ e 4) in
    let few = ltb-false 32000 (length (noted_report t)) long in
    let less = shorter t in
    let short : length (report t) ≤ 32000 = omega arith in
    rw le-ltb (rw long at e)

pub notes_are_gone : (t : Table) → NotesGone t
notes_are_gone t = record { left_out = left_out_lem t; shorter = shorter t; accepted = accepted t }
