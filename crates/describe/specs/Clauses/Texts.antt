-- The texts of the accessibles and modules of the structure report, as the code writes them. Assumes nothing.
use Rattle.std.specs.Prelude.{ℕ, Bool, cond, List, [], ◌∷◌, ◌++◌, Option}
use Rattle.ascii.specs.Text.{bytes}
use Rattle.json_text.specs.Json.{no_members, quoted, compact_members, more_members}
use Rattle.datainfo.specs.Datainfo.{Datainfo}
use Rattle.table.specs.Table.{Accessible, Module}
use Rattle.report.specs.Report.{argument_member, accessible_member, accessible_members, module_members}

-- whether a parameter is read only, after the member before it, and the key of its datainfo
unfoldable pub readonly_text : Bool → List ℕ
readonly_text b = bytes ",\"readonly\":" ++ cond b (bytes "true") (bytes "false") ++ bytes ",\"datainfo\":"

-- a command's argument, after the member before it
unfoldable pub argument_text : Option Datainfo → List ℕ
argument_text a = more_members (argument_member a)

-- an accessible with its name
unfoldable pub accessible_text : Accessible → List ℕ
accessible_text a = compact_members (accessible_member a no_members)

unfoldable pub accessibles_text : List Accessible → List ℕ
accessibles_text xs = compact_members (accessible_members xs)

-- a module with its name
unfoldable pub module_text : Module → List ℕ
module_text m = compact_members (module_members (m ∷ []))

unfoldable pub modules_text : List Module → List ℕ
modules_text ms = compact_members (module_members ms)

-- what stands after the modules: an equipment id and a description
unfoldable pub texts_text : List ℕ → List ℕ → List ℕ
texts_text id text = bytes "},\"equipment_id\":" ++ quoted id ++ (bytes ",\"description\":" ++ quoted text) ++ bytes "}"
