-- Flags that are not told enforce nothing: values are judged and stored alike without them. Assumes nothing.
use Rattle.std.specs.Prelude.{Option, Some, None}
use Prim.Native.Nat.{ℕ}
use mathlib.Core.Bool.{Bool, true, false, cond}
use mathlib.Core.List.{List, ◌∷◌}
use mathlib.Core.Path.{◌≡◌, refl, ap, ap₂, ◌∙◌, fun_ext}
use lib.Dec.{leb}
use lib.ListN.{length}
use Rattle.ascii.specs.Bytes.{same}
use Rattle.json_text.specs.Json.{Json, Items, no_items, item, Members, member, text, compact}
use Rattle.datainfo.specs.Datainfo.{Datainfo, double, int, bool, enum, string, array, tuple, struct, scaled, blob, partial, Elements, no_elements, element, Fields, no_fields, field, field_names}
use Rattle.datainfo.specs.Rules.{is_between}
use Rattle.fit.specs.Fit as Fit
use Rattle.fit.specs.Fit.{Verdict, wrongType, worse, in_range, expect, as_array, as_object, item_count, worst_item, keys, each_once, value_at, fit, elements_fit, fields_fit}
use Rattle.fit.specs.Fit.{within, on_items, on_members, map_items, map_members, numbered, numbered_elements, numbered_at, as_partial, at_top, ordered, in_order}
use Rattle.fit.specs.Fit.{keep_members, join_members, is_left_out, members_of, completed, completed_of, form_of, stored_form, value_verdict, verdict_of, verdict, change_verdict, change_form}
use Rattle.report.specs.Theorems.{enforced_datainfo, enforced_elements, enforced_fields}

names_kept : (fs : Fields) → field_names (enforced_fields fs) ≡ field_names fs
unfolding field_names enforced_datainfo
names_kept no_fields = refl
names_kept (field k d fs) = ap (λ ks. k ∷ ks) (names_kept fs)

-- ## How a value fits

members_kept : (fs gs : Fields) → field_names fs ≡ field_names gs → ((ms : Members) → fields_fit fs ms ≡ fields_fit gs ms) → (v : Json)
    → expect (as_object v) (λ ms. cond (each_once (field_names fs) (keys ms)) (fields_fit fs ms) wrongType)
    ≡ expect (as_object v) (λ ms. cond (each_once (field_names gs) (keys ms)) (fields_fit gs ms) wrongType)
members_kept fs gs e h v =
    ap₂ (λ ks (f : Members → Verdict). expect (as_object v) (λ ms. cond (each_once ks (keys ms)) (f ms) wrongType)) e (fun_ext h)

mutual
  unfolding fit enforced_datainfo

  pub fit_kept : (top : Bool) (d : Datainfo) (v : Json) → fit (enforced_datainfo top d) v ≡ fit d v
  fit_kept top (double lo hi) v = refl
  fit_kept top (int lo hi) v = refl
  fit_kept top bool v = refl
  fit_kept top (enum vs) v = refl
  fit_kept top (string lo hi) v = refl
  fit_kept top (array lo hi d) v =
      ap (λ (f : Json → Verdict). expect (as_array v) (λ is. worse (in_range (is_between lo hi (item_count is))) (worst_item (λ w. f w) is)))
      (fun_ext (λ w. fit_kept false d w))
  fit_kept top (tuple ds) v = ap (λ (f : Items → Verdict). expect (as_array v) (λ is. f is)) (fun_ext (λ is. elements_kept ds is))
  fit_kept top (struct fs) v = members_kept (enforced_fields fs) fs (names_kept fs) (λ ms. fields_kept fs ms) v
  fit_kept top (scaled s lo hi) v = refl
  fit_kept top (blob lo hi) v = refl
  fit_kept top (partial ns fs) v = members_kept (enforced_fields fs) fs (names_kept fs) (λ ms. fields_kept fs ms) v

  elements_kept : (ds : Elements) (is : Items) → elements_fit (enforced_elements ds) is ≡ elements_fit ds is
  elements_kept no_elements no_items = refl
  elements_kept no_elements (item v is) = refl
  elements_kept (element d ds) no_items = refl
  elements_kept (element d ds) (item v is) = ap₂ worse (fit_kept false d v) (elements_kept ds is)

  fields_kept : (fs : Fields) (ms : Members) → fields_fit (enforced_fields fs) ms ≡ fields_fit fs ms
  fields_kept no_fields ms = refl
  fields_kept (field k d fs) ms = ap₂ worse (fit_kept false d (value_at k ms)) (fields_kept fs ms)

-- ## What is stored

exchange_kept : (f g : List ℕ → Json → Json) → ((k : List ℕ) (w : Json) → f k w ≡ g k w) → (v : Json)
    → on_members (map_members (λ k w. f k w)) v ≡ on_members (map_members (λ k w. g k w)) v
exchange_kept f g h v = ap (λ (e : List ℕ → Json → Json). on_members (map_members (λ k w. e k w)) v) (fun_ext (λ k. fun_ext (λ w. h k w)))

mutual
  unfolding numbered enforced_datainfo

  numbered_kept : (top : Bool) (d : Datainfo) (v : Json) → numbered (enforced_datainfo top d) v ≡ numbered d v
  numbered_kept top (double lo hi) v = refl
  numbered_kept top (int lo hi) v = refl
  numbered_kept top bool v = refl
  numbered_kept top (enum vs) v = refl
  numbered_kept top (string lo hi) v = refl
  numbered_kept top (array lo hi d) v = ap (λ (f : Json → Json). on_items (map_items (λ w. f w)) v) (fun_ext (λ w. numbered_kept false d w))
  numbered_kept top (tuple ds) v = ap (λ (f : Items → Items). on_items (λ is. f is) v) (fun_ext (λ is. numbered_elements_lem ds is))
  numbered_kept top (struct fs) v = exchange_kept (λ k w. numbered_at k (enforced_fields fs) w) (λ k w. numbered_at k fs w) (λ k w. at_kept fs k w) v
  numbered_kept top (scaled s lo hi) v = refl
  numbered_kept top (blob lo hi) v = refl
  numbered_kept top (partial ns fs) v = exchange_kept (λ k w. numbered_at k (enforced_fields fs) w) (λ k w. numbered_at k fs w) (λ k w. at_kept fs k w) v

  numbered_elements_lem : (ds : Elements) (is : Items) → numbered_elements (enforced_elements ds) is ≡ numbered_elements ds is
  numbered_elements_lem no_elements is = refl
  numbered_elements_lem (element d ds) no_items = refl
  numbered_elements_lem (element d ds) (item v is) = ap₂ item (numbered_kept false d v) (numbered_elements_lem ds is)

  at_kept : (fs : Fields) (k : List ℕ) (v : Json) → numbered_at k (enforced_fields fs) v ≡ numbered_at k fs v
  at_kept no_fields k v = refl
  at_kept (field j d fs) k v = ap₂ (cond (same j k)) (numbered_kept false d v) (at_kept fs k v)

order_kept : (fs : Fields) (ms : Members) → ordered (enforced_fields fs) ms ≡ ordered fs ms
unfolding ordered enforced_datainfo
order_kept no_fields ms = refl
order_kept (field k d fs) ms = ap (member k (value_at k ms)) (order_kept fs ms)

in_order_kept : (top : Bool) (d : Datainfo) (v : Json) → in_order (enforced_datainfo top d) v ≡ in_order d v
unfolding in_order enforced_datainfo as_partial at_top
in_order_kept top (double lo hi) v = refl
in_order_kept top (int lo hi) v = refl
in_order_kept top bool v = refl
in_order_kept top (enum vs) v = refl
in_order_kept top (string lo hi) v = refl
in_order_kept top (array lo hi d) v = refl
in_order_kept top (tuple ds) v = refl
in_order_kept top (struct fs) v = refl
in_order_kept top (scaled s lo hi) v = refl
in_order_kept top (blob lo hi) v = refl
in_order_kept top (partial ns fs) v = ap (λ (f : Members → Members). on_members (λ ms. f ms) v) (fun_ext (λ ms. order_kept fs ms))

stored_kept : (top : Bool) (d : Datainfo) (v : Json) → Fit.stored (enforced_datainfo top d) v ≡ Fit.stored d v
unfolding Fit.stored
stored_kept top d v = in_order_kept top d (numbered (enforced_datainfo top d) v) ∙ ap (in_order d) (numbered_kept top d v)

formed_kept : (top : Bool) (d : Datainfo) (o : Option Json) → form_of (enforced_datainfo top d) o ≡ form_of d o
unfolding form_of
formed_kept top d None = refl
formed_kept top d (Some v) = ap compact (stored_kept top d v)

judged_kept : (top : Bool) (d : Datainfo) (o : Option Json) → verdict_of (enforced_datainfo top d) o ≡ verdict_of d o
unfolding verdict_of value_verdict
judged_kept top d None = refl
judged_kept top d (Some v) = ap₂ (λ a (xs : List ℕ). worse a (in_range (leb (length xs) 256))) (fit_kept top d v) (formed_kept top d (Some v))

-- ## What a change leaves out: a parameter's own flags are told

completed_kept : (shown : Option Json) (d : Datainfo) (v : Json) → completed shown (enforced_datainfo true d) v ≡ completed shown d v
unfolding completed enforced_datainfo as_partial at_top
completed_kept shown (double lo hi) v = refl
completed_kept shown (int lo hi) v = refl
completed_kept shown bool v = refl
completed_kept shown (enum vs) v = refl
completed_kept shown (string lo hi) v = refl
completed_kept shown (array lo hi d) v = refl
completed_kept shown (tuple ds) v = refl
completed_kept shown (struct fs) v = refl
completed_kept shown (scaled s lo hi) v = refl
completed_kept shown (blob lo hi) v = refl
completed_kept shown (partial ns fs) v = refl

whole_kept : (shown : Option Json) (d : Datainfo) (o : Option Json) → completed_of shown (enforced_datainfo true d) o ≡ completed_of shown d o
unfolding completed_of
whole_kept shown d None = refl
whole_kept shown d (Some v) = ap Some (completed_kept shown d v)

-- ## Texts

pub verdict_kept : (top : Bool) (d : Datainfo) (xs : List ℕ) → verdict (enforced_datainfo top d) xs ≡ verdict d xs
unfolding verdict
verdict_kept top d xs = judged_kept top d (text xs)

pub stored_form_kept : (top : Bool) (d : Datainfo) (xs : List ℕ) → stored_form (enforced_datainfo top d) xs ≡ stored_form d xs
unfolding stored_form
stored_form_kept top d xs = formed_kept top d (text xs)

module _ (shown : Option Json) (d : Datainfo) (xs : List ℕ) where
  pub change_kept : change_verdict shown (enforced_datainfo true d) xs ≡ change_verdict shown d xs
  unfolding change_verdict
  change_kept = judged_kept true d (completed_of shown (enforced_datainfo true d) (text xs)) ∙ ap (verdict_of d) (whole_kept shown d (text xs))

  pub form_kept : change_form shown (enforced_datainfo true d) xs ≡ change_form shown d xs
  unfolding change_form
  form_kept = formed_kept true d (completed_of shown (enforced_datainfo true d) (text xs)) ∙ ap (form_of d) (whole_kept shown d (text xs))
