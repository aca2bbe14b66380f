-- The structure report as document 01 had it, with notes, and that a table which was accepted by it still is (M-109). Only theorems speak of it:
-- the report that is sent and judged is that of `Report`. Assumes nothing.
use Rattle.std.specs.Prelude.{ℕ, ◌≤◌, List, [], ◌∷◌, ◌++◌, map, ◌≡◌, ltb, length, Option, Some, None}
use Rattle.json_text.specs.Json.{Json, string, array, object, no_items, Members, no_members, member, compact}
use Rattle.table.specs.Table.{Module, Table, with_modules}
use Rattle.table.specs.Rules.{faults_below6}
use Rattle.report.specs.Report.{keyed, accessible_members, report}
use Rattle.report.specs.Judge.{fault, first_fault, tree_number}

-- "a note would stand as `"_note":".."` after the module's description"
unfoldable pub note_member : Option (List ℕ) → Members → Members
note_member None rest = rest
note_member (Some x) rest = keyed "_note" (string x) rest

unfoldable pub noted_members : List Module → Members
noted_members [] = no_members
noted_members (m ∷ ms) =
    member m.name
    (object
    (keyed "interface_classes" (array no_items)
    (keyed "description" (string m.description)
    (note_member m.note (keyed "accessibles" (object (accessible_members m.accessibles)) no_members)))))
    (noted_members ms)

unfoldable pub noted_value : Table → Json
noted_value t =
    object
    (keyed "modules" (object (noted_members t.modules))
    (keyed "equipment_id" (string t.equipment_id) (keyed "description" (string t.description) no_members)))

-- the report with notes
unfoldable pub noted_report : Table → List ℕ
noted_report t = compact (noted_value t)

-- and the number of a table that is judged on it [T-35]
unfoldable pub noted_number : Table → ℕ
noted_number t = first_fault (faults_below6 t ++ (fault 6 (ltb 32000 (length (noted_report t))) ∷ []))

-- a table less its notes
unfoldable pub without_note : Module → Module
without_note m = record { name = m.name; description = m.description; note = None; accessibles = m.accessibles }

unfoldable pub without_notes : Table → Table
without_notes t = with_modules t (map without_note t.modules)

pub record NotesGone (t : Table) : Type 0 where
  -- "the structure report leaves it out": it is what it was for the table without notes
  pub left_out : report t ≡ noted_report (without_notes t)
  -- "number 6 is judged on the shorter report": it is never longer
  pub shorter : length (report t) ≤ length (noted_report t)
  -- "a table accepted before" is accepted
  pub accepted : noted_number t ≡ 0 → tree_number t ≡ 0

abbrev pub NotesAreGone : Type 0
NotesAreGone = (t : Table) → NotesGone t
