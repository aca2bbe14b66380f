-- Laws of the accessibles and modules that are written, and of the whole report, one for each way through a function. Assumes nothing.
use Rattle.std.specs.Prelude.{Option, Some, None}
use Prim.Native.Nat.{ℕ, ◌≤◌}
use native.Mathlib.Omega.{arith}
use mathlib.Core.Path.{◌≡◌, refl, sym, ap, ◌∙◌}
use mathlib.Core.Bool.{Bool, true, false, cond}
use mathlib.Core.List.{List, [], ◌∷◌, ◌++◌, append_assoc, append-nil}
use lib.ListN.{length, drop}
use Rattle.ascii.specs.Text.{bytes}
use Rattle.ascii.specs.Bytes.{◌>>=◌}
use Rattle.ascii.specs.Clauses.Reader.{Ends, rest}
use Rattle.ascii.specs.Clauses.Writer.{Puts}
use Rattle.json_text.specs.Json.{quoted, compact, compact_items, compact_members, more_members}
use Rattle.datainfo.specs.Datainfo.{Datainfo}
use Rattle.datainfo.specs.Layout.{datainfo_in}
use Rattle.table.specs.Table as Table
use Rattle.table.specs.Layout.{begins, argument_at, accessibles_at, module_at, modules_at, Readable, table_of}
use Rattle.table.specs.Clauses.At.{bytes_of, Inside, accessible_begins, accessible_at, accessibles_from, modules_from, parameter_of, command_of, module_of, AccessibleIs, HeadingIs, heading_at, HeadRead}
use Rattle.table.specs.declared.layout.ParameterAt.{ParameterAt}
use Rattle.table.specs.declared.layout.CommandAt.{CommandAt}
use Rattle.table.specs.declared.layout.ModuleAt.{ModuleAt}
use Rattle.table.specs.declared.layout.Accessible as A
use Rattle.table.specs.declared.layout.HeadAt.{HeadAt}
use Rattle.table.proofs.Enough.{before, accessibles_stop, accessibles_more, modules_stop, modules_more}
use Rattle.table.proofs.Modules.{with_accessibles, module_is}
use Rattle.table.proofs.Whole.{opened, unread, readable_whole, members_headless}
use Rattle.report.specs.Report.{argument_member, accessible_member, accessible_members, module_members, report_value, report}
use Rattle.emit.specs.Clauses.Emitted.{capped, Emits, comma, told, Says}
use Rattle.describe.specs.Clauses.Room.{RoomFor}
use Rattle.infos.specs.Clauses.Texts.{datainfo_text, own_text}
use Rattle.describe.specs.Clauses.Texts.{readonly_text, argument_text, accessible_text, accessibles_text, module_text, modules_text, texts_text}
use Rattle.emit.proofs.Pieces.{both, after, nothing}
use Rattle.emit.proofs.Says.{says_nothing, says_text, mapped, retold, told_same, rest_told, Leads, parts_none, parts_more}
use Rattle.emit.proofs.Listed.{listed, listed_first, listed_member, list_step}

-- ## Pieces

pub key_and_text : (d e f : List ℕ) (at p q : ℕ) (k l t : List ℕ) → Emits d at (quoted k ++ bytes ":") e p → Emits e p (l ++ quoted t) f q → Emits d at (quoted k ++ bytes ":" ++ (l ++ quoted t)) f q
key_and_text d e f at p q k l t x y = both x y

module _ {d e : List ℕ} {at r : ℕ} (b : Bool) where
  pub readonly_true : b ≡ true → Emits d at (bytes ",\"readonly\":true,\"datainfo\":") e r → Emits d at (readonly_text b) e r
  unfolding readonly_text bytes
  readonly_true z x = rw z x

  pub readonly_false : b ≡ false → Emits d at (bytes ",\"readonly\":false,\"datainfo\":") e r → Emits d at (readonly_text b) e r
  unfolding readonly_text bytes
  readonly_false z x = rw z x

-- ## Accessibles

parameter_pieces : (k l q a b c i z : List ℕ) → k ++ (l ++ q) ++ (a ++ b ++ c) ++ i ++ z ≡ k ++ (l ++ (q ++ (a ++ (b ++ (c ++ (i ++ []))))) ++ z) ++ []
parameter_pieces k l q a b c i z = simp (append_assoc, append-nil)

command_pieces : (k l q m a y z : List ℕ) → k ++ (l ++ q) ++ m ++ a ++ (y ++ z) ≡ k ++ (l ++ (q ++ (m ++ (a ++ y ++ []))) ++ z) ++ []
command_pieces k l q m a y z = simp (append_assoc, append-nil)

module _ {d0 d1 d2 d3 d4 : List ℕ} {p0 p1 p2 p3 p4 : ℕ} where
  parameter_join : (k l q a b c i z : List ℕ) → Emits d0 p0 (k ++ (l ++ q)) d1 p1 → Emits d1 p1 (a ++ b ++ c) d2 p2 → Emits d2 p2 i d3 p3 → Emits d3 p3 z d4 p4 → Emits d0 p0 (k ++ (l ++ (q ++ (a ++ (b ++ (c ++ (i ++ []))))) ++ z) ++ []) d4 p4
  parameter_join k l q a b c i z w x y v = rw (parameter_pieces k l q a b c i z) at (both (both (both w x) y) v)

  command_join : (k l q m a y z : List ℕ) → Emits d0 p0 (k ++ (l ++ q)) d1 p1 → Emits d1 p1 m d2 p2 → Emits d2 p2 a d3 p3 → Emits d3 p3 (y ++ z) d4 p4 → Emits d0 p0 (k ++ (l ++ (q ++ (m ++ (a ++ y ++ []))) ++ z) ++ []) d4 p4
  command_join k l q m a y z w x v u = rw (command_pieces k l q m a y z) at (both (both (both w x) v) u)

  module _ (s : List ℕ) where
    parameter_text : (q : ParameterAt) (i : Datainfo) → Emits d0 p0 (quoted (bytes_of s q.name) ++ bytes ":" ++ (bytes "{\"description\":" ++ quoted (bytes_of s q.description))) d1 p1 → Emits d1 p1 (readonly_text q.readonly) d2 p2 → Emits d2 p2 (own_text i) d3 p3 → Emits d3 p3 (bytes "}") d4 p4 → Emits d0 p0 (accessible_text (Table.parameter (parameter_of s q i))) d4 p4
    unfolding accessible_text accessible_member parameter_of compact compact_members more_members readonly_text own_text quoted bytes
    parameter_text q i w x y v = parameter_join (quoted (bytes_of s q.name) ++ bytes ":") (bytes "{\"description\":") (quoted (bytes_of s q.description)) (bytes ",\"readonly\":") (cond q.readonly (bytes "true") (bytes "false")) (bytes ",\"datainfo\":") (own_text i) (bytes "}") w x y v

    pub parameter_told : (q : ParameterAt) → Emits d0 p0 (quoted (bytes_of s q.name) ++ bytes ":" ++ (bytes "{\"description\":" ++ quoted (bytes_of s q.description))) d1 p1 → Emits d1 p1 (readonly_text q.readonly) d2 p2 → Says (told own_text (datainfo_in 4 (drop q.info s))) d2 p2 d3 p3 → Emits d3 p3 (bytes "}") d4 p4 → Says (told (λ i. accessible_text (Table.parameter (parameter_of s q i))) (datainfo_in 4 (drop q.info s))) d0 p0 d4 p4
    parameter_told q w x y v = retold own_text (λ i. accessible_text (Table.parameter (parameter_of s q i))) (datainfo_in 4 (drop q.info s)) (λ i u. parameter_text q i w x u v) y

    command_text : (q : CommandAt) (a : Option Datainfo) → Emits d0 p0 (quoted (bytes_of s q.name) ++ bytes ":" ++ (bytes "{\"description\":" ++ quoted (bytes_of s q.description))) d1 p1 → Emits d1 p1 (bytes ",\"datainfo\":{\"type\":\"command\"") d2 p2 → Emits d2 p2 (argument_text a) d3 p3 → Emits d3 p3 (bytes "}}") d4 p4 → Emits d0 p0 (accessible_text (Table.command (command_of s q a))) d4 p4
    unfolding accessible_text accessible_member argument_text command_of compact compact_members more_members quoted bytes
    command_text q a w x y v = command_join (quoted (bytes_of s q.name) ++ bytes ":") (bytes "{\"description\":") (quoted (bytes_of s q.description)) (bytes ",\"datainfo\":{\"type\":\"command\"") (argument_text a) (bytes "}") (bytes "}") w x y v

    pub command_told : (q : CommandAt) → Emits d0 p0 (quoted (bytes_of s q.name) ++ bytes ":" ++ (bytes "{\"description\":" ++ quoted (bytes_of s q.description))) d1 p1 → Emits d1 p1 (bytes ",\"datainfo\":{\"type\":\"command\"") d2 p2 → Says (told argument_text (argument_at q.argument (drop q.info s))) d2 p2 d3 p3 → Emits d3 p3 (bytes "}}") d4 p4 → Says (told (λ a. accessible_text (Table.command (command_of s q a))) (argument_at q.argument (drop q.info s))) d0 p0 d4 p4
    command_told q w x y v = retold argument_text (λ a. accessible_text (Table.command (command_of s q a))) (argument_at q.argument (drop q.info s)) (λ a u. command_text q a w x u v) y

module _ (s : List ℕ) (i : ℕ) (has : Bool) {d : List ℕ} {at : ℕ} where
  pub argument_none : has ≡ false → at ≤ 18446744073709551615 → Says (told argument_text (argument_at has (drop i s))) d at d at
  unfolding argument_at argument_text argument_member more_members
  argument_none z w = rw z (says_text refl (nothing d at w))

  pub argument_some : has ≡ true → {e f : List ℕ} {p r : ℕ} → Emits d at (bytes ",\"argument\":") e p → Says (told datainfo_text (datainfo_in 4 (drop i s))) e p f r → Says (told argument_text (argument_at has (drop i s))) d at f r
  unfolding argument_at argument_text argument_member more_members datainfo_text quoted bytes
  argument_some z x y = rw z (mapped datainfo_text Some argument_text (datainfo_in 4 (drop i s)) (λ a u. both x (both u (after u))) y)

-- which of both it is
module _ (s : List ℕ) (i : ℕ) (r : Option A.Accessible) (h : AccessibleIs s r (accessible_at (length s) (drop i s))) {d e : List ℕ} {at z : ℕ} where
  pub accessible_parameter : (q : ParameterAt) → r ≡ Some (A.TheVariants.Parameter q) → Says (told (λ a. accessible_text (Table.parameter (parameter_of s q a))) (datainfo_in 4 (drop q.info s))) d at e z → Says (told accessible_text (accessible_at (length s) (drop i s))) d at e z
  accessible_parameter q k y =
      let x = rw k at h in
      says_text (ap (told accessible_text) x.is) (y.is (ap (told (λ a. accessible_text (Table.parameter (parameter_of s q a)))) x.info))

  pub accessible_command : (q : CommandAt) → r ≡ Some (A.TheVariants.Command q) → Says (told (λ a. accessible_text (Table.command (command_of s q a))) (argument_at q.argument (drop q.info s))) d at e z → Says (told accessible_text (accessible_at (length s) (drop i s))) d at e z
  accessible_command q k y =
      let x = rw k at h in
      says_text (ap (told accessible_text) x.is) (y.is (ap (told (λ a. accessible_text (Table.command (command_of s q a)))) x.info))

  pub accessible_bad : r ≡ None → Says (told accessible_text (accessible_at (length s) (drop i s))) d at e z
  accessible_bad k = says_nothing (ap (told accessible_text) (rw k at h))

-- ## As many records as follow

-- `one` reads a record and `more` the others
module _ {X : Type 0} (f : X → List ℕ) (g : Bool → List X → List ℕ) (same : (first : Bool) (x : X) (xs : List X) → g first (x ∷ xs) ≡ comma first ++ f x ++ g false xs) (more : List ℕ → Option (List X × List ℕ)) (one : Option (X × List ℕ)) (first : Bool) (o : Option (List ℕ × List ℕ)) (d d' : List ℕ) (at p : ℕ) (go : Leads o d at (told (g first) (one >>= λ a. before a.0 (more a.1))) d' p) where
  as_parts : (told f one >>= λ a. told (λ t. comma first ++ a.0 ++ t) (told (g false) (more a.1))) ≡ told (g first) (one >>= λ a. before a.0 (more a.1))
  as_parts = list_step first f (g first) (g false) (λ x xs. x ∷ xs) (same first) more (λ xs. told (g false) (more xs)) (λ xs. refl) one

  records_bad : rest one ≡ None → {h : List ℕ} {r : ℕ} → Says o d at h r
  records_bad z = go.says (says_nothing (sym as_parts ∙ parts_none first (told f one) (λ xs. told (g false) (more xs)) (rest_told f one ∙ z)))

  records_more : (left : List ℕ) → rest one ≡ Some left → {e h : List ℕ} {p1 p2 : ℕ} → Emits d' p (comma first) e p1 → Says (told f one) e p1 h p2 → Leads o d at (told (g false) (more left)) h p2
  records_more left z x y =
      record { says = λ u. go.says (rw (← as_parts) ((parts_more first (told f one) (λ xs. told (g false) (more xs)) (rest_told f one ∙ z) x y).says u)) }

abbrev accessibles_listed : Bool → List Table.Accessible → List ℕ
accessibles_listed first xs = listed first (accessible_members xs)

accessibles_same : (first : Bool) (a : Table.Accessible) (xs : List Table.Accessible) → accessibles_listed first (a ∷ xs) ≡ comma first ++ accessible_text a ++ accessibles_listed false xs
unfolding accessible_text accessible_members accessible_member
accessibles_same first (Table.parameter p) xs = listed_member first _ _ (accessible_members xs)
accessibles_same first (Table.command c) xs = listed_member first _ _ (accessible_members xs)

abbrev modules_listed : Bool → List Table.Module → List ℕ
modules_listed first ms = listed first (module_members ms)

modules_same : (first : Bool) (m : Table.Module) (ms : List Table.Module) → modules_listed first (m ∷ ms) ≡ comma first ++ module_text m ++ modules_listed false ms
unfolding module_text module_members
modules_same first m ms = listed_member first _ _ (module_members ms)

-- those to come from position j on
abbrev pub accessibles_to_come : List ℕ → Bool → ℕ → Option (List ℕ × List ℕ)
accessibles_to_come s first j = told (λ xs. listed first (accessible_members xs)) (accessibles_from s j)

abbrev pub modules_to_come : List ℕ → Bool → ℕ → Option (List ℕ × List ℕ)
modules_to_come s first j = told (λ ms. listed first (module_members ms)) (modules_from s j)

pub accessibles_start : (s : List ℕ) (i : ℕ) (d : List ℕ) (at : ℕ) → Leads (told accessibles_text (accessibles_from s i)) d at (accessibles_to_come s true i) d at
unfolding accessibles_text
accessibles_start s i d at = record { says = λ y. rw (told_same (λ xs. compact_members (accessible_members xs)) (accessibles_listed true) (λ xs. sym (listed_first (accessible_members xs))) (accessibles_from s i)) y }

pub modules_start : (s : List ℕ) (i : ℕ) (d : List ℕ) (at : ℕ) → Leads (told modules_text (modules_from s i)) d at (modules_to_come s true i) d at
unfolding modules_text
modules_start s i d at = record { says = λ y. rw (told_same (λ ms. compact_members (module_members ms)) (modules_listed true) (λ ms. sym (listed_first (module_members ms))) (modules_from s i)) y }

module _ (s : List ℕ) (j : ℕ) (first : Bool) (o : Option (List ℕ × List ℕ)) (d d' : List ℕ) (at p : ℕ) where
  module _ (go : Leads o d at (accessibles_to_come s first j) d' p) (b : Bool) (hb : b ≡ accessible_begins (drop j s)) where
    pub accessibles_end : b ≡ false → p ≤ 18446744073709551615 → Says o d at d' p
    unfolding listed accessible_members
    accessibles_end z w = go.says (rw (accessibles_stop s j (sym hb ∙ z)) (says_text refl (nothing d' p w)))

    module _ (z : b ≡ true) (q : Option ℕ) (e : Ends s q (rest (accessible_at (length s) (drop j s)))) where
      onward : Leads o d at (told (accessibles_listed first) (accessible_at (length s) (drop j s) >>= λ a. before a.0 (accessibles_at (length s) (length a.1) a.1))) d' p
      onward = rw (accessibles_more s j (sym hb ∙ z)) at go

      pub accessibles_bad : q ≡ None → {h : List ℕ} {r : ℕ} → Says o d at h r
      accessibles_bad k = records_bad accessible_text accessibles_listed accessibles_same (λ xs. accessibles_at (length s) (length xs) xs) (accessible_at (length s) (drop j s)) first o d d' at p onward (rw k at e)

      pub accessibles_next : (j' : ℕ) → q ≡ Some j' → {f h : List ℕ} {p1 p2 : ℕ} → Emits d' p (comma first) f p1 → Says (told accessible_text (accessible_at (length s) (drop j s))) f p1 h p2 → Leads o d at (accessibles_to_come s false j') h p2
      accessibles_next j' k x y = records_more accessible_text accessibles_listed accessibles_same (λ xs. accessibles_at (length s) (length xs) xs) (accessible_at (length s) (drop j s)) first o d d' at p onward (drop j' s) (rw k at e).0 x y

  module _ (go : Leads o d at (modules_to_come s first j) d' p) (b : Bool) (hb : b ≡ begins (bytes "MO") (drop j s)) where
    pub modules_end : b ≡ false → p ≤ 18446744073709551615 → Says o d at d' p
    unfolding listed module_members
    modules_end z w = go.says (rw (modules_stop s j (sym hb ∙ z)) (says_text refl (nothing d' p w)))

    module _ (z : b ≡ true) (q : Option ℕ) (e : Ends s q (rest (module_at (length s) (drop j s)))) where
      onwards : Leads o d at (told (modules_listed first) (module_at (length s) (drop j s) >>= λ a. before a.0 (modules_at (length s) (length a.1) a.1))) d' p
      onwards = rw (modules_more s j (sym hb ∙ z)) at go

      pub modules_bad : q ≡ None → {h : List ℕ} {r : ℕ} → Says o d at h r
      modules_bad k = records_bad module_text modules_listed modules_same (λ xs. modules_at (length s) (length xs) xs) (module_at (length s) (drop j s)) first o d d' at p onwards (rw k at e)

      pub modules_next : (j' : ℕ) → q ≡ Some j' → {f h : List ℕ} {p1 p2 : ℕ} → Emits d' p (comma first) f p1 → Says (told module_text (module_at (length s) (drop j s))) f p1 h p2 → Leads o d at (modules_to_come s false j') h p2
      modules_next j' k x y = records_more module_text modules_listed modules_same (λ xs. modules_at (length s) (length xs) xs) (module_at (length s) (drop j s)) first o d d' at p onwards (drop j' s) (rw k at e).0 x y

-- ## Modules

module_pieces : (k l q a t y z : List ℕ) → k ++ (l ++ q) ++ a ++ t ++ (y ++ z) ≡ k ++ (l ++ (q ++ (a ++ (t ++ y ++ []))) ++ z) ++ []
module_pieces k l q a t y z = simp (append_assoc, append-nil)

module _ {d0 d1 d2 d3 d4 : List ℕ} {p0 p1 p2 p3 p4 : ℕ} where
  module_join : (k l q a t y z : List ℕ) → Emits d0 p0 (k ++ (l ++ q)) d1 p1 → Emits d1 p1 a d2 p2 → Emits d2 p2 t d3 p3 → Emits d3 p3 (y ++ z) d4 p4 → Emits d0 p0 (k ++ (l ++ (q ++ (a ++ (t ++ y ++ []))) ++ z) ++ []) d4 p4
  module_join k l q a t y z b c f g = rw (module_pieces k l q a t y z) at (both (both (both b c) f) g)

  module_text_lem : (m : Table.Module) → Emits d0 p0 (quoted m.name ++ bytes ":" ++ (bytes "{\"interface_classes\":[],\"description\":" ++ quoted m.description)) d1 p1 → Emits d1 p1 (bytes ",\"accessibles\":{") d2 p2 → Emits d2 p2 (accessibles_text m.accessibles) d3 p3 → Emits d3 p3 (bytes "}}") d4 p4 → Emits d0 p0 (module_text m) d4 p4
  unfolding module_text module_members accessibles_text compact compact_items compact_members more_members quoted bytes
  module_text_lem m w x y v =
      module_join (quoted m.name ++ bytes ":") (bytes "{\"interface_classes\":[],\"description\":") (quoted m.description) (bytes ",\"accessibles\":{") (accessibles_text m.accessibles) (bytes "}") (bytes "}") w x y v

module _ (s : List ℕ) (i : ℕ) (h : Option ModuleAt) (hh : HeadingIs s h (heading_at (drop i s))) where
  pub module_bad : {d e : List ℕ} {at r : ℕ} → h ≡ None → Says (told module_text (module_at (length s) (drop i s))) d at e r
  module_bad z = says_nothing (ap (told module_text) (members_headless s i h hh z))

  module _ (m : ModuleAt) (z : h ≡ Some m) where
    pub module_name_lem : Inside s m.name
    module_name_lem = (rw z at hh).name

    pub module_told : {d0 d1 d2 d3 d4 : List ℕ} {p0 p1 p2 p3 p4 : ℕ} → Emits d0 p0 (quoted (bytes_of s m.name) ++ bytes ":" ++ (bytes "{\"interface_classes\":[],\"description\":" ++ quoted (bytes_of s m.description))) d1 p1 → Emits d1 p1 (bytes ",\"accessibles\":{") d2 p2 → Says (told accessibles_text (accessibles_from s m.next)) d2 p2 d3 p3 → Emits d3 p3 (bytes "}}") d4 p4 → Says (told module_text (module_at (length s) (drop i s))) d0 p0 d4 p4
    unfolding module_of
    module_told w x y v =
        rw (module_is s i h hh m z)
        (mapped accessibles_text (with_accessibles (module_of s m)) module_text (accessibles_from s m.next) (λ xs u. module_text_lem (with_accessibles (module_of s m) xs) w x u v) y)

-- ## The whole report

report_pieces : (o m a b i c t z : List ℕ) → o ++ m ++ (a ++ b ++ i ++ (c ++ t) ++ z) ≡ o ++ (m ++ a ++ (b ++ (i ++ (c ++ (t ++ [])))) ++ z)
report_pieces o m a b i c t z = simp (append_assoc, append-nil)

module _ {d0 d1 d2 d3 : List ℕ} {p0 p1 p2 p3 : ℕ} where
  pub texts_told : (id text : List ℕ) → Emits d0 p0 (bytes "},\"equipment_id\":" ++ quoted id) d1 p1 → Emits d1 p1 (bytes ",\"description\":" ++ quoted text) d2 p2 → Emits d2 p2 (bytes "}") d3 p3 → Emits d0 p0 (texts_text id text) d3 p3
  unfolding texts_text
  texts_told id text x y z = both (both x y) z

  report_join : (o m a b i c t z : List ℕ) → Emits d0 p0 o d1 p1 → Emits d1 p1 m d2 p2 → Emits d2 p2 (a ++ b ++ i ++ (c ++ t) ++ z) d3 p3 → Emits d0 p0 (o ++ (m ++ a ++ (b ++ (i ++ (c ++ (t ++ [])))) ++ z)) d3 p3
  report_join o m a b i c t z x y w = rw (report_pieces o m a b i c t z) at (both (both x y) w)

  report_text_lem : (t : Table.Table) → Emits d0 p0 (bytes "{\"modules\":{") d1 p1 → Emits d1 p1 (modules_text t.modules) d2 p2 → Emits d2 p2 (texts_text t.equipment_id t.description) d3 p3 → Emits d0 p0 (report t) d3 p3
  unfolding report report_value modules_text texts_text compact compact_members more_members quoted bytes
  report_text_lem t x y z = report_join (bytes "{\"modules\":{") (modules_text t.modules) (bytes "}") (bytes ",\"equipment_id\":") (quoted t.equipment_id) (bytes ",\"description\":") (quoted t.description) (bytes "}") x y z

module _ (s : List ℕ) (g : Readable s) (r : Option HeadAt) (h : HeadRead s r) {d0 d3 : List ℕ} {p0 p3 : ℕ} where
  pub report_none : r ≡ None → Emits d0 p0 (report (table_of s)) d3 p3
  report_none e = absurd (unread s r h (table_of s) (readable_whole s g) e)

  pub report_told : (q : HeadAt) → r ≡ Some q → {d1 d2 : List ℕ} {p1 p2 : ℕ} → Emits d0 p0 (bytes "{\"modules\":{") d1 p1 → Says (told modules_text (modules_from s q.first)) d1 p1 d2 p2 → Emits d2 p2 (texts_text (bytes_of s q.id) (bytes_of s q.description)) d3 p3 → Emits d0 p0 (report (table_of s)) d3 p3
  report_told q e x y z =
      let o = opened s r h (table_of s) (readable_whole s g) q e in
      report_text_lem (table_of s) x (y.is (ap (told modules_text) o.modules)) (rw (o.id, o.description) z)

-- a report that is measured from the start, and one that is written
pub report_measured : (s d e : List ℕ) (r : ℕ) → Emits d 0 (report (table_of s)) e r → r ≡ capped (length (report (table_of s)))
report_measured s d e r x = let y = x.ends in omega arith

pub report_put : (s : List ℕ) (at : ℕ) (d : List ℕ) → RoomFor s at d → (e : List ℕ) (r : ℕ) → Emits d at (report (table_of s)) e r → Puts d at (report (table_of s)) e r
report_put s at d room e r x = x.puts room.room
