-- What the code promises that asks number 3 (good names) or number 4 (its own rules) of a datainfo in the table's bytes. Both are asked of
-- a datainfo and of each inside it; `names` says which one. The steps of the walk say nothing of what can't be read. Assumes nothing.
use Rattle.std.specs.Prelude.{ℕ, zero, suc, ◌≤◌, ◌≡◌, Bool, true, false, cond, not, ◌&&◌, List, [], ◌∷◌, map, length, get_or}
use Rattle.std.specs.Prelude.{take, drop, eqb, ℤ, pos, Option, Some, None, unwrap_or}
use Rattle.ascii.specs.Bytes.{◌>>=◌, all, any, same}
use Rattle.ascii.specs.Names.{is_name, lowercase}
use Rattle.ascii.specs.Numbers.{unsigned, signed}
use Rattle.ascii.specs.Clauses.Reader.{rest}
use Rattle.decimal.specs.Decimal.{Decimal}
use Rattle.datainfo.specs.Datainfo.{Datainfo, double, int, bool, enum, string, array, tuple, struct, scaled, blob, partial, Elements, no_elements}
use Rattle.datainfo.specs.Datainfo.{element, Fields, no_fields, field}
use Rattle.datainfo.specs.Layout.{counted, entry, string_at, array_at, blob_at}
use Rattle.datainfo.specs.Clauses.Members.{after_member}
use Rattle.datainfo.specs.Rules.{names_good, rules_kept, same_integer}

-- ## Answers

-- r is the answer o, if there is one
abbrev pub Agrees : Bool → Option Bool → Type 0
Agrees r None = Unit
Agrees r (Some b) = r ≡ b

-- the answer of a test to what was read
abbrev pub asked : {A : Type 0} → (A → Bool) → Option (A × List ℕ) → Option Bool
asked p o = o >>= λ a. Some (p a.0)

-- a datainfo obeys what number 3 asks (good names), or what number 4 asks (its own rules)
unfoldable pub obeys : Bool → Datainfo → Bool
obeys names d = cond names (names_good d) (rules_kept d)

-- the datainfos inside
unfoldable pub element_list : Elements → List Datainfo
element_list no_elements = []
element_list (element d ds) = d ∷ element_list ds

unfoldable pub field_list : Fields → List Datainfo
field_list no_fields = []
field_list (field k d fs) = d ∷ field_list fs

unfoldable pub inside : Datainfo → List Datainfo
inside (double lo hi) = []
inside (int lo hi) = []
inside bool = []
inside (enum vs) = []
inside (string lo hi) = []
inside (array lo hi d) = d ∷ []
inside (tuple ds) = element_list ds
inside (struct fs) = field_list fs
inside (scaled s lo hi) = []
inside (blob lo hi) = []
inside (partial ns fs) = field_list fs

unfoldable pub inside_obeys : Bool → Datainfo → Bool
inside_obeys names d = all (obeys names) (inside d)

-- r decides what is asked of a datainfo, but for the datainfos inside it
abbrev pub Decides : Bool → Bool → Option (Datainfo × List ℕ) → Type 0
Decides names r None = Unit
Decides names r (Some p) = obeys names p.0 ≡ (r && inside_obeys names p.0)

-- r decides the limits of a string, of a blob, and those of an array whose inner datainfo is read by f
pub record Ordered (r : Bool) (xs : List ℕ) : Type 0 where
  pub string : Decides false r (string_at xs)
  pub blob : Decides false r (blob_at xs)
  pub array : (f : List ℕ → Option (Datainfo × List ℕ)) → Decides false r (array_at f xs)

-- the answer of a reader of a double's limits and of a scale: `Some (m, p, e)` where it reads m times ten to the power p and leaves the bytes from e on
abbrev pub ReadsLimit : List ℕ → Option (ℤ × ℤ × ℕ) → Option (Decimal × List ℕ) → Type 0
ReadsLimit s (Some (m, p, e)) o = (o ≡ Some (record { whole = m; power = p }, drop e s)) × (e ≤ length s)
ReadsLimit s None o = o ≡ None

-- ## Members, by the bytes from each on

-- a name, empty where it is cut off; that of a member of the kind k; and the number of an enum's, then 0
unfoldable pub name_of : List ℕ → List ℕ
name_of xs = unwrap_or (counted xs >>= λ p. Some p.0) []

unfoldable pub name_in : ℕ → List ℕ → List ℕ
name_in k xs = unwrap_or (entry k xs >>= λ p. Some p.0.1) []

unfoldable pub number_of : List ℕ → ℤ
number_of xs = unwrap_or (counted xs >>= λ p. signed 4 p.1 >>= λ q. Some q.0) (pos 0)

-- what makes two members of one datainfo too much alike: the same name when lowercased, or the same number
unfoldable pub same_key : ℕ → Bool → List ℕ → List ℕ → Bool
same_key k names xs ys = cond names (same (lowercase (name_in k xs)) (lowercase (name_in k ys))) (same_integer (number_of xs) (number_of ys))

unfoldable pub key_good : ℕ → Bool → List ℕ → Bool
key_good k names xs = cond names (is_name (name_in k xs)) true

-- each is good, and no two are alike
unfoldable pub keys_good : ℕ → Bool → List (List ℕ) → Bool
keys_good k names [] = true
keys_good k names (x ∷ xs) = key_good k names x && (not (any (same_key k names x) xs) && keys_good k names xs)

-- positions in s
abbrev pub Positions : List ℕ → List ℕ → Type 0
Positions s ps = (j : ℕ) → get_or ps j 0 ≤ length s

-- the bytes from each position on
abbrev pub from_each : List ℕ → List ℕ → List (List ℕ)
from_each s ps = map (λ p. drop p s) ps

-- the first r of the positions noted are those from which the bytes xs are on
pub record Notes (s ps : List ℕ) (r : ℕ) (xs : List (List ℕ)) : Type 0 where
  pub few : r ≤ 255
  pub taken : r ≡ length (take r ps)
  pub inside : Positions s (take r ps)
  pub are : from_each s (take r ps) ≡ xs

-- what is left before the datainfo of a member of the kind k: a tuple's (7) has no name
unfoldable pub before_held : ℕ → List ℕ → Option (List ℕ)
before_held k xs = cond (eqb k 7) (Some xs) (rest (entry k xs))

-- Datainfos inside are read by `inner`; k is the kind.
module _ (inner : List ℕ → Option (Datainfo × List ℕ)) (k : ℕ) where
  -- n members, as far as they can be read
  unfoldable pub starts : ℕ → List ℕ → List (List ℕ)
  starts zero xs = []
  starts (suc n) xs = xs ∷ unwrap_or (after_member inner k xs >>= λ r. Some (starts n r)) []

  -- as many as a count byte says
  unfoldable pub starts_at : List ℕ → List (List ℕ)
  starts_at xs = unwrap_or (unsigned 1 xs >>= λ p. Some (starts p.0 p.1)) []

  module _ (names : Bool) where
    -- the answer to the datainfos of n members
    unfoldable pub held_obeys : ℕ → List ℕ → Option Bool
    held_obeys zero xs = Some true
    held_obeys (suc n) xs =
        before_held k xs >>= λ h. inner h >>= λ p. held_obeys n p.1 >>= λ b. Some (obeys names p.0 && b)

    unfoldable pub held_obeys_at : List ℕ → Option Bool
    held_obeys_at xs = unsigned 1 xs >>= λ p. held_obeys p.0 p.1
