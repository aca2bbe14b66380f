-- The theorems. Assumes nothing.
use Rattle.std.specs.Prelude.{Some, None}
use Prim.Native.Nat.{ℕ}
use mathlib.Core.Path.{◌≡◌, refl, sym, ap, ap₂, ◌∙◌}
use mathlib.Core.Bool.{Bool, true, false, cond, not, ◌&&◌}
use mathlib.Core.List.{List, [], ◌∷◌, map}
use lib.Dec.{leb}
use lib.ListN.{length}
use borrow.Author.Tests.{not-false}
use Rattle.ascii.specs.Bytes.{all}
use Rattle.ascii.specs.Names.{is_text}
use Rattle.ascii.proofs.Lists.{both, all_parts}
use Rattle.datainfo.specs.Rules.{good_names}
use Rattle.fit.proofs.Shapes.{nothing, just}
use Rattle.table.specs.Table.{Module, Table}
use Rattle.table.specs.Layout.{whole_table, read_table}
use Rattle.table.specs.Rules.{module_names_good, edition_good, names_good, rules_kept, initial_good, datainfos_good, initials_good}
use Rattle.report.specs.Judge.{tree_number, number_of, table_number}
use Rattle.report.proofs.Faults.{no_fault, first_fault_none}
use Rattle.encode.specs.Encode.{encode, placed}
use Rattle.encode.specs.Fits.{accessible_fits, module_fits, head_fits, has_layout, text_fits, option_fits}
use Rattle.encode.specs.Theorems.{EncodedTablesAreReadBack, AcceptedBytesAreEncoded, TablesHaveOneLayout}
use Rattle.encode.proofs.Tables.{AllGood, no_modules, more, table_back}
use Rattle.encode.proofs.Written.{table_written}
use Rattle.encode.proofs.Placed.{number_placed}
use Rattle.encode.proofs.ReadTables.{table_from}

-- ## What an accepted table has

module _ (t : Table) (e : tree_number t ≡ 0) where
  names : names_good t ≡ true
  unfolding tree_number
  names = not-false (names_good t) (no_fault 2 (not (names_good t)) (first_fault_none _ e 1))

  datainfos : datainfos_good t ≡ true
  unfolding tree_number
  datainfos = not-false (datainfos_good t) (no_fault 3 (not (datainfos_good t)) (first_fault_none _ e 2))

  initials : initials_good t ≡ true
  unfolding tree_number
  initials = not-false (initials_good t) (no_fault 4 (not (initials_good t)) (first_fault_none _ e 3))

  module_names : all module_names_good t.modules ≡ true
  unfolding names_good
  module_names =
      let texts = is_text t.equipment_id && is_text t.description && edition_good t.edition in
      (both (texts && good_names (map (λ (m : Module). m.name) t.modules)) (all module_names_good t.modules) names).1

-- ## What a table has that the layout has room for

module _ (t : Table) (h : has_layout t ≡ true) where
  head_fits_lem : head_fits t ≡ true
  unfolding has_layout
  head_fits_lem = (both (head_fits t) (all module_fits t.modules) (both (head_fits t && all module_fits t.modules) (leb (length (encode t)) 16384) h).0).0

  modules_fit : all module_fits t.modules ≡ true
  unfolding has_layout
  modules_fit = (both (head_fits t) (all module_fits t.modules) (both (head_fits t && all module_fits t.modules) (leb (length (encode t)) 16384) h).0).1

  is_short_lem : leb (length (encode t)) 16384 ≡ true
  unfolding has_layout
  is_short_lem = (both (head_fits t && all module_fits t.modules) (leb (length (encode t)) 16384) h).1

all_good : (ms : List Module) → all module_fits ms ≡ true → all (λ (m : Module). all rules_kept m.accessibles) ms ≡ true
    → all (λ (m : Module). all initial_good m.accessibles) ms ≡ true → AllGood ms
unfolding module_fits
all_good [] f k i = no_modules
all_good (m ∷ ms) f k i =
    let f2 = all_parts module_fits m ms f in
    let k2 = all_parts (λ (m : Module). all rules_kept m.accessibles) m ms k in
    let i2 = all_parts (λ (m : Module). all initial_good m.accessibles) m ms i in
    let g = (both (text_fits m.description && option_fits m.note) (all accessible_fits m.accessibles) f2.0).1 in
    more (record { fits = g; kept = k2.0; initials = i2.0 }) (all_good ms f2.1 k2.1 i2.1)

-- ## An encoded table is read back

read_back_lem : (t : Table) → tree_number t ≡ 0 → has_layout t ≡ true → read_table (encode t) ≡ Some (placed t)
unfolding read_table datainfos_good initials_good
read_back_lem t e h = rw (is_short_lem t h) (table_back t (all_good t.modules (modules_fit t h) (datainfos t e) (initials t e)))

pub encoded_tables_are_read_back : EncodedTablesAreReadBack
unfolding table_number number_of
encoded_tables_are_read_back t e h =
    record {
      bytes = table_written t (names t e) (head_fits_lem t h) (modules_fit t h) (datainfos t e) (initials t e);
      read = read_back_lem t e h;
      accepted = rw (read_back_lem t e h) (number_placed t ∙ e);
    }

-- ## Accepted bytes are an encoding

-- readable bytes are not too many
readable : (xs : List ℕ) (t : Table) → read_table xs ≡ Some t → (leb (length xs) 16384 ≡ true) × (whole_table xs ≡ Some t)
unfolding read_table
readable xs t e = go (leb (length xs) 16384) refl e
  where
    go : (b : Bool) → leb (length xs) 16384 ≡ b → cond b (whole_table xs) None ≡ Some t → (b ≡ true) × (whole_table xs ≡ Some t)
    go true q e = (refl, e)
    go false q e = absurd (nothing e)

pub accepted_bytes_are_encoded : AcceptedBytesAreEncoded
unfolding has_layout
accepted_bytes_are_encoded xs t b r e =
    let s = readable xs t r in
    let c = table_from t xs b s.1 (module_names t e) in
    let fits : has_layout t ≡ true = ap₂ ◌&&◌ (ap₂ ◌&&◌ c.head c.modules) (rw c.is at s.0) in
    let back : read_table xs ≡ Some (placed t) = ap read_table c.is ∙ read_back_lem t e fits in
    record { is = sym c.is; fits = fits; places = just (sym back ∙ r) }

pub tables_have_one_layout : TablesHaveOneLayout
tables_have_one_layout xs ys t b c e r s = sym (accepted_bytes_are_encoded xs t b r e).is ∙ (accepted_bytes_are_encoded ys t c s e).is
