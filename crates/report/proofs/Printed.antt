-- The text of a plain value, and so the report of an accepted table, is of bytes 32 to 126. Assumes nothing.
use Prim.Native.Nat.{ℕ}
use mathlib.Core.Bool.{true, false, not, ◌&&◌, ◌||◌}
use mathlib.Core.List.{List, [], ◌∷◌, ◌++◌}
use mathlib.Core.Path.{◌≡◌, refl}
use lib.Dec.{eqb}
use Rattle.ascii.specs.Text.{bytes}
use Rattle.ascii.specs.Bytes.{all, is_in, is_digit, is_printable}
use Rattle.ascii.specs.Names.{is_text_byte, is_text}
use Rattle.ascii.proofs.Lists.{both, all_cons, all_append, all_weaker}
use Rattle.json_text.specs.Json.{Json, null, boolean, number, string, array, object, Items, no_items, item, Members, no_members, member}
use Rattle.json_text.specs.Json.{quoted, compact, compact_items, more_items, compact_members, more_members}
use Rattle.json_text.proofs.Printable.{either, is, digit}
use Rattle.table.specs.Table.{Table}
use Rattle.report.specs.Report.{report, report_value}
use Rattle.report.specs.Judge.{tree_number}
use Rattle.report.proofs.Numbers.{is_numeric}
use Rattle.report.proofs.Read.{Plain, PlainItems, PlainMembers}
use Rattle.report.proofs.Plain.{report_plain}

abbrev pub Printed : List ℕ → Type 0
Printed xs = all is_printable xs ≡ true

text_byte : (b : ℕ) → is_text_byte b ≡ true → is_printable b ≡ true
unfolding is_text_byte
text_byte b e = (both (is_printable b) (not (eqb b 34)) (both (is_printable b && not (eqb b 34)) (not (eqb b 92)) e).0).0

pub text_printed : (xs : List ℕ) → is_text xs ≡ true → Printed xs
unfolding is_text
text_printed xs h = all_weaker is_text_byte is_printable text_byte xs h

numeric_byte : (b : ℕ) → is_numeric b ≡ true → is_printable b ≡ true
unfolding is_numeric is_in
numeric_byte b =
    either (is_digit b || eqb b 45) (eqb b 101) (either (is_digit b) (eqb b 45) (digit b) (is 45 b refl)) (is 101 b refl)

-- a byte, or two texts, one after the other
then : (b : ℕ) (xs : List ℕ) → is_printable b ≡ true → Printed xs → Printed (b ∷ xs)
then b xs e h = all_cons is_printable b xs e h

join : (xs ys : List ℕ) → Printed xs → Printed ys → Printed (xs ++ ys)
join xs ys h i = all_append is_printable xs ys h i

quoted_printed : (s : List ℕ) → is_text s ≡ true → Printed (quoted s)
unfolding quoted is_in all
quoted_printed s h = then 34 (s ++ 34 ∷ []) refl (join s (34 ∷ []) (text_printed s h) refl)

member_printed : (k xs ys : List ℕ) → is_text k ≡ true → Printed xs → Printed ys → Printed (quoted k ++ bytes ":" ++ xs ++ ys)
unfolding bytes is_in all
member_printed k xs ys p q r =
    join (quoted k ++ bytes ":" ++ xs) ys (join (quoted k ++ bytes ":") xs (join (quoted k) (bytes ":") (quoted_printed k p) refl) q) r

mutual
  unfolding compact compact_items more_items compact_members more_members bytes is_in all

  pub value_printed : (v : Json) → Plain v → Printed (compact v)
  value_printed null p = absurd p
  value_printed (boolean true) p = refl
  value_printed (boolean false) p = refl
  value_printed (number t) p = all_weaker is_numeric is_printable numeric_byte t p.0
  value_printed (string s) p = quoted_printed s p
  value_printed (array js) p = then 91 (compact_items js ++ (93 ∷ [])) refl (join (compact_items js) (93 ∷ []) (items_printed js p) refl)
  value_printed (object ms) p = then 123 (compact_members ms ++ (125 ∷ [])) refl (join (compact_members ms) (125 ∷ []) (members_printed ms p) refl)

  items_printed : (js : Items) → PlainItems js → Printed (compact_items js)
  items_printed no_items p = refl
  items_printed (item v js) p = join (compact v) (more_items js) (value_printed v p.0) (more_printed js p.1)

  more_printed : (js : Items) → PlainItems js → Printed (more_items js)
  more_printed no_items p = refl
  more_printed (item v js) p = then 44 (compact v ++ more_items js) refl (join (compact v) (more_items js) (value_printed v p.0) (more_printed js p.1))

  members_printed : (ms : Members) → PlainMembers ms → Printed (compact_members ms)
  members_printed no_members p = refl
  members_printed (member k v ms) p = member_printed k (compact v) (more_members ms) p.0 (value_printed v p.1) (rest_printed ms p.2)

  rest_printed : (ms : Members) → PlainMembers ms → Printed (more_members ms)
  rest_printed no_members p = refl
  rest_printed (member k v ms) p = then 44 (quoted k ++ bytes ":" ++ compact v ++ more_members ms) refl
      (member_printed k (compact v) (more_members ms) p.0 (value_printed v p.1) (rest_printed ms p.2))

pub report_printed : (t : Table) → tree_number t ≡ 0 → Printed (report t)
unfolding report
report_printed t e = value_printed (report_value t) (report_plain t e)
