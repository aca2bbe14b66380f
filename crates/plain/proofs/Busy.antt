-- The status that a change of `target` sets first: it is another parameter of the same module, and the value is stored as it stands. Assumes
-- nothing.
use Rattle.std.specs.Prelude.{Option, Some, None, slice_get}
use Prim.Native.Nat.{ℕ}
use mathlib.Core.Bool.{Bool, true, false, cond, ◌&&◌, true≢false}
use mathlib.Core.List.{List, [], ◌∷◌, ◌++◌, map}
use mathlib.Core.Path.{◌≡◌, refl, sym, ap, ap₂, subst, ◌∙◌}
use Rattle.ascii.specs.Text.{bytes}
use Rattle.ascii.specs.Bytes.{all, same, head, tail, drop_while, is_in, is_letter}
use Rattle.ascii.specs.Names.{is_name, is_name_byte, unique}
use Rattle.ascii.proofs.Lists.{both, same_self, same_is}
use Rattle.decimal.specs.Token as Token
use Rattle.json_text.specs.Json as Json
use Rattle.json_text.specs.Json.{Json, Items, no_items, item, text, compact}
use Rattle.json_text.specs.Readable.{Readable}
use Rattle.json_text.proofs.ReadBack.{readable_trees}
use Rattle.datainfo.specs.Datainfo.{Variant, Datainfo, double, int, bool, enum, string, array, tuple, struct, scaled, blob, partial, Parts, Elements, no_elements, element}
use Rattle.datainfo.specs.Rules.{good_names, names_good, elements_names_good}
use Rattle.fit.specs.Fit.{member_number, within, as_string, as_array, as_object, map_items, exchanged, numbered, numbered_elements}
use Rattle.fit.specs.Fit.{as_partial, at_top, ordered, in_order, stored, verdict, form_of, stored_form, is_fit, is_stored}
use Rattle.table.specs.Table.{Parameter, Table}
use Rattle.table.specs.Search.{Placed, parameters, find_parameter}
use Rattle.table.proofs.Search.{parameter_there, parameter_named}
use Rattle.plain.specs.Node.{Value, Setting, put, setting_value, set_values}
use Rattle.plain.specs.Answer.{busy, admitting, status_of}
use Rattle.std.proofs.lemmas.Option.{same_Some}

-- ## Which status it is

-- the status s that a change of the parameter p sets first
pub record IsStatus (w : Table) (p : Placed Parameter) (s : ℕ × Placed Parameter) : Type 0 where
  pub target : p.it.name ≡ bytes "target"
  pub found : find_parameter w p.module_name (bytes "status") ≡ Some s
  pub admits : is_fit (verdict s.1.it.datainfo busy) ≡ true
  pub there : slice_get (parameters w) s.0 ≡ Some s.1
  pub home : s.1.module_name ≡ p.module_name
  pub named : s.1.it.name ≡ bytes "status"

admitted : (o : Option (ℕ × Placed Parameter)) (s : ℕ × Placed Parameter) → admitting o ≡ Some s
    → (o ≡ Some s) × (is_fit (verdict s.1.it.datainfo busy) ≡ true)
unfolding admitting
admitted None s e = let z : true ≡ false = cc in absurd (true≢false z)
admitted (Some x) s e = go (is_fit (verdict x.1.it.datainfo busy)) refl e
  where
    go : (q : Bool) → is_fit (verdict x.1.it.datainfo busy) ≡ q → cond q (Some x) None ≡ Some s
        → (Some x ≡ Some s) × (is_fit (verdict s.1.it.datainfo busy) ≡ true)
    go true i e = (e, subst (λ (y : ℕ × Placed Parameter). is_fit (verdict y.1.it.datainfo busy) ≡ true) (same_Some x s e) i)
    go false i e = let z : true ≡ false = cc in absurd (true≢false z)

module _ (w : Table) (p : Placed Parameter) (s : ℕ × Placed Parameter) where
  pub status_is : status_of w p ≡ Some s → IsStatus w p s
  unfolding status_of
  status_is e = go (same p.it.name (bytes "target")) refl e
    where
      found : Option (ℕ × Placed Parameter)
      found = find_parameter w p.module_name (bytes "status")

      go : (q : Bool) → same p.it.name (bytes "target") ≡ q → cond q (admitting found) None ≡ Some s → IsStatus w p s
      go true i e =
          let a = admitted found s e in
          let n = parameter_named w p.module_name (bytes "status") s a.0 in
          record {
            target = same_is p.it.name (bytes "target") i;
            found = a.0;
            admits = a.1;
            there = parameter_there w p.module_name (bytes "status") s a.0;
            home = n.0;
            named = n.1;
          }
      go false i e = let z : true ≡ false = cc in absurd (true≢false z)

  -- the reverse: one that is found and admits the value is set
  pub is_status : p.it.name ≡ bytes "target" → find_parameter w p.module_name (bytes "status") ≡ Some s
      → is_fit (verdict s.1.it.datainfo busy) ≡ true → status_of w p ≡ Some s
  unfolding status_of admitting
  is_status t f a = rw (t, same_self (bytes "target"), f, a)

  -- one that doesn't admit it is not
  pub no_status : find_parameter w p.module_name (bytes "status") ≡ Some s → is_fit (verdict s.1.it.datainfo busy) ≡ false → status_of w p ≡ None
  unfolding status_of admitting
  no_status f a = rw (f, a) (go (same p.it.name (bytes "target")))
    where
      go : (q : Bool) → ◌≡◌ {A = Option (ℕ × Placed Parameter)} (cond q None None) None
      go true = refl
      go false = refl

  -- a status is not the target itself
  pub named_other : p.it.name ≡ bytes "target" → find_parameter w p.module_name (bytes "status") ≡ Some s → (k : ℕ) → slice_get (parameters w) k ≡ Some p
      → s.0 ≡ k → ⊥
  unfolding bytes same
  named_other t f k e z =
      let there = parameter_there w p.module_name (bytes "status") s f in
      let named = (parameter_named w p.module_name (bytes "status") s f).1 in
      let o : Some s.1 ≡ Some p = sym there ∙ ap (slice_get (parameters w)) z ∙ e in
      let n : bytes "status" ≡ bytes "target" = sym named ∙ ap (λ (x : Placed Parameter). x.it.name) (same_Some s.1 p o) ∙ t in
      let q : true ≡ false = sym (same_self (bytes "status")) ∙ ap (same (bytes "status")) n in
      true≢false q

  pub status_other : IsStatus w p s → (k : ℕ) → slice_get (parameters w) k ≡ Some p → s.0 ≡ k → ⊥
  status_other i = named_other i.target i.found

-- ## It is stored as it stands: "a name has no space", so no enum names the string in it

-- the string's bytes
abbrev words : List ℕ
words = bytes "target changed"

no_member : (vs : List Variant) → all is_name (map (λ (v : Variant). v.name) vs) ≡ true → member_number vs words ≡ None
unfolding member_number all bytes is_name is_in head is_name_byte is_letter
no_member [] h = refl
no_member (v ∷ vs) h =
    let b = both (is_name v.name) (all is_name (map (λ (x : Variant). x.name) vs)) h in
    go (same v.name words) refl b.0 (no_member vs b.1)
  where
    go : (q : Bool) → same v.name words ≡ q → is_name v.name ≡ true → member_number vs words ≡ None
        → cond q (Some v.number) (member_number vs words) ≡ None
    go true e g i = let z : true ≡ false = sym g ∙ ap is_name (same_is v.name words e) in absurd (true≢false z)
    go false e g i = i

string_stays : (d : Datainfo) → names_good d ≡ true → numbered d (Json.string words) ≡ Json.string words
unfolding numbered within as_string as_array as_object exchanged names_good good_names
string_stays (double lo hi) h = refl
string_stays (int lo hi) h = refl
string_stays bool h = refl
string_stays (enum vs) h =
    let ks = map (λ (v : Variant). v.name) vs in
    ap (exchanged words) (no_member vs (both (all is_name ks) (unique ks) h).0)
string_stays (string lo hi) h = refl
string_stays (array lo hi d) h = refl
string_stays (tuple ds) h = refl
string_stays (struct fs) h = refl
string_stays (scaled s lo hi) h = refl
string_stays (blob lo hi) h = refl
string_stays (partial ns fs) h = refl

number_stays : (d : Datainfo) (t : List ℕ) → numbered d (Json.number t) ≡ Json.number t
unfolding numbered within as_string as_array as_object
number_stays (double lo hi) t = refl
number_stays (int lo hi) t = refl
number_stays bool t = refl
number_stays (enum vs) t = refl
number_stays (string lo hi) t = refl
number_stays (array lo hi d) t = refl
number_stays (tuple ds) t = refl
number_stays (struct fs) t = refl
number_stays (scaled s lo hi) t = refl
number_stays (blob lo hi) t = refl
number_stays (partial ns fs) t = refl

abbrev pair : Json → Json → Items
pair x y = item x (item y no_items)

-- a number and that string
abbrev halves : Items
halves = pair (Json.number (bytes "300")) (Json.string words)

none_left : (ds : Elements) → numbered_elements ds no_items ≡ no_items
unfolding numbered_elements
none_left no_elements = refl
none_left (element d ds) = refl

elements_stay : (ds : Elements) → elements_names_good ds ≡ true → numbered_elements ds halves ≡ halves
unfolding numbered_elements elements_names_good
elements_stay no_elements h = refl
elements_stay (element d no_elements) h = ap (λ x. pair x (Json.string words)) (number_stays d (bytes "300"))
elements_stay (element d (element e ds)) h =
    let b = (both (names_good d) (names_good e && elements_names_good ds) h).1 in
    rw (number_stays d (bytes "300"), string_stays e (both (names_good e) (elements_names_good ds) b).0, none_left ds)

value_stays : (d : Datainfo) → names_good d ≡ true → numbered d (Json.array halves) ≡ Json.array halves
unfolding numbered within as_string as_array as_object map_items names_good
value_stays (double lo hi) h = refl
value_stays (int lo hi) h = refl
value_stays bool h = refl
value_stays (enum vs) h = refl
value_stays (string lo hi) h = refl
value_stays (array lo hi d) h = rw (number_stays d (bytes "300"), string_stays d h)
value_stays (tuple ds) h = ap Json.array (elements_stay ds h)
value_stays (struct fs) h = refl
value_stays (scaled s lo hi) h = refl
value_stays (blob lo hi) h = refl
value_stays (partial ns fs) h = refl

-- no member is put in another place
order_stays : (d : Datainfo) → in_order d (Json.array halves) ≡ Json.array halves
unfolding in_order at_top within as_object
order_stays d = go (as_partial d)
  where
    go : (o : Option Parts) → at_top o (λ m ms. ordered m.1 ms) (Json.array halves) ≡ Json.array halves
    go None = refl
    go (Some m) = refl

busy_written : compact (Json.array halves) ≡ busy
unfolding busy compact bytes Json.quoted
busy_written = refl

halves_readable : Readable 8 (Json.array halves)
unfolding bytes Token.number Token.int Token.minus Token.digits Token.frac Token.exp head tail drop_while is_in Json.string_end Json.chars Json.char Json.inside
halves_readable = (refl, (refl, tt))

busy_read : text busy ≡ Some (Json.array halves)
busy_read = ap text (sym busy_written) ∙ readable_trees.read_back (Json.array halves) halves_readable

module _ (d : Datainfo) (h : names_good d ≡ true) where
  pub busy_own : stored_form d busy ≡ busy
  unfolding stored_form form_of stored
  busy_own = ap (form_of d) busy_read ∙ ap (λ x. compact (in_order d x)) (value_stays d h) ∙ ap compact (order_stays d) ∙ busy_written

  -- where it is admitted, it is in stored form
  pub busy_stored : is_fit (verdict d busy) ≡ true → is_stored d busy ≡ true
  unfolding is_stored
  busy_stored e = ap₂ ◌&&◌ e (ap (λ x. same x busy) busy_own ∙ same_self busy)

-- ## Settings, one after another

pub set_more : (f : ℕ → Value) (xs ys : List Setting) → set_values f (xs ++ ys) ≡ set_values (set_values f xs) ys
set_more f [] ys = refl
set_more f (x ∷ xs) ys = set_more (put f x.parameter (setting_value x)) xs ys
