-- The texts of a datainfo and its parts in the structure report, as the code writes them. Assumes nothing.
use Rattle.std.specs.Prelude.{ℕ, zero, suc, ◌≤◌, ◌≡◌, length, drop, Bool, true, false, cond, List, [], ◌++◌, eqb, Option, Some}
use Rattle.ascii.specs.Text.{bytes}
use Rattle.ascii.specs.Bytes.{◌>>=◌}
use Rattle.ascii.specs.Numbers.{decimal, integer, unsigned, signed}
use Rattle.json_text.specs.Json.{quoted, compact, compact_items}
use Rattle.emit.specs.Clauses.Emitted.{comma, told}
use Rattle.datainfo.specs.Datainfo.{Datainfo, Parts}
use Rattle.datainfo.specs.Layout.{entry}
use Rattle.report.specs.Report.{name_items, datainfo_value}

-- a datainfo inside another or of an argument, and a parameter's own
unfoldable pub datainfo_text : Datainfo → List ℕ
datainfo_text d = compact (datainfo_value false d)

unfoldable pub own_text : Datainfo → List ℕ
own_text d = compact (datainfo_value true d)

-- the names of a struct's optional members
unfoldable pub names_text : Parts → List ℕ
names_text m = compact_items (name_items m.0)

-- what an array's text has before the datainfo of its elements
unfoldable pub array_limits : ℕ → ℕ → List ℕ
array_limits lo hi = bytes "{\"type\":\"array\",\"minlen\":" ++ decimal lo ++ (bytes ",\"maxlen\":" ++ decimal hi) ++ bytes ",\"members\":"

-- ## The members of a datainfo, whatever its kind. The kind is the type byte: 4 enum, 7 tuple, 8 struct, 11 struct
-- with optional members

-- position r of s is past the name of a member of the kind k at position i, if one can be read there
pub record NameEnds (s : List ℕ) (i k r : ℕ) : Type 0 where
  pub within : r ≤ length s
  pub is : {a : Bool × List ℕ} {left : List ℕ} → entry k (drop i s) ≡ Some (a, left) → left ≡ drop r s

-- what stands before the members of the kind k, and after them
unfoldable pub opening : ℕ → List ℕ
opening k =
    cond (eqb k 4) (bytes "{\"type\":\"enum\",\"members\":{")
    (cond (eqb k 7) (bytes "{\"type\":\"tuple\",\"members\":[") (bytes "{\"type\":\"struct\",\"members\":{"))

unfoldable pub closing : ℕ → List ℕ
closing k = cond (eqb k 7) (bytes "]}") (cond (eqb k 11) (bytes "},\"optional\":[]}") (bytes "}}"))

-- Datainfos inside are read by `inner`; each reader gives a text with what is left.
module _ (inner : List ℕ → Option (Datainfo × List ℕ)) (k : ℕ) where
  -- the number or the datainfo of a member that has a name
  unfoldable pub held_text : List ℕ → Option (List ℕ × List ℕ)
  held_text xs = cond (eqb k 4) (told integer (signed 4 xs)) (told datainfo_text (inner xs))

  -- a member
  unfoldable pub member_text : List ℕ → Option (List ℕ × List ℕ)
  member_text xs =
      cond (eqb k 7) (told datainfo_text (inner xs))
      (entry k xs >>= λ n. told (λ t. quoted n.0.1 ++ bytes ":" ++ t) (held_text n.1))

  -- n members with commas before all but the first
  unfoldable pub members_text : Bool → ℕ → List ℕ → Option (List ℕ × List ℕ)
  members_text first zero xs = Some ([], xs)
  members_text first (suc n) xs = member_text xs >>= λ p. told (λ t. comma first ++ p.0 ++ t) (members_text false n p.1)

  -- a count byte and as many members, and a datainfo that has these
  unfoldable pub count_text : List ℕ → Option (List ℕ × List ℕ)
  count_text xs = unsigned 1 xs >>= λ n. members_text true n.0 n.1

  unfoldable pub list_text : List ℕ → Option (List ℕ × List ℕ)
  list_text xs = told (λ t. opening k ++ t ++ closing k) (count_text xs)
