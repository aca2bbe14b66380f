-- Values that have numbers and no names where their datainfo has an enum. Assumes nothing.
use Rattle.std.specs.Prelude.{Bool, true, ◌&&◌, Option, Some, None}
use Rattle.ascii.specs.Bytes.{is_some}
use Rattle.json_text.specs.Json.{Json, Items, no_items, item, Members}
use Rattle.datainfo.specs.Datainfo.{Datainfo, double, int, bool, enum, string, array, tuple, struct, scaled, blob, partial, Elements, no_elements, element}
use Rattle.datainfo.specs.Datainfo.{Fields, no_fields, field}
use Rattle.fit.specs.Fit.{as_number, as_array, as_object, value_at}

-- a test of what a value of one kind holds; any other value passes
unfoldable pub if_any : {A : Type 0} → Option A → (A → Bool) → Bool
if_any None p = true
if_any (Some a) p = p a

unfoldable pub all_items : (Json → Bool) → Items → Bool
all_items p no_items = true
all_items p (item v is) = p v && all_items p is

unfoldable mutual
  pub numbers_only : Datainfo → Json → Bool
  numbers_only (double lo hi) v = true
  numbers_only (int lo hi) v = true
  numbers_only bool v = true
  numbers_only (enum vs) v = is_some (as_number v)
  numbers_only (string lo hi) v = true
  numbers_only (array lo hi d) v = if_any (as_array v) λ is. all_items (λ w. numbers_only d w) is
  numbers_only (tuple ds) v = if_any (as_array v) λ is. elements_numbers_only ds is
  numbers_only (struct fs) v = if_any (as_object v) λ ms. fields_numbers_only fs ms
  numbers_only (scaled s lo hi) v = true
  numbers_only (blob lo hi) v = true
  numbers_only (partial ns fs) v = if_any (as_object v) λ ms. fields_numbers_only fs ms

  pub elements_numbers_only : Elements → Items → Bool
  elements_numbers_only no_elements is = true
  elements_numbers_only (element d ds) no_items = true
  elements_numbers_only (element d ds) (item v is) = numbers_only d v && elements_numbers_only ds is

  pub fields_numbers_only : Fields → Members → Bool
  fields_numbers_only no_fields ms = true
  fields_numbers_only (field k d fs) ms = numbers_only d (value_at k ms) && fields_numbers_only fs ms
