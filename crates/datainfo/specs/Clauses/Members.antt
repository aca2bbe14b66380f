-- The members of a datainfo, whatever its kind: what the code that walks over them promises. The kind is the type byte: 4 enum ("each
-- name and i32"), 7 tuple ("datainfos"), 8 struct ("each name and datainfo"), 11 the same with a flag before each name. Assumes nothing.
use Rattle.std.specs.Prelude.{ℕ, zero, suc, cond, List, eqb, Option, Some}
use Rattle.ascii.specs.Bytes.{◌>>=◌, part}
use Rattle.ascii.specs.Numbers.{unsigned}
use Rattle.ascii.specs.Clauses.Reader.{rest}
use Rattle.datainfo.specs.Datainfo.{Datainfo, Parts}
use Rattle.datainfo.specs.Layout.{entry, fields}

-- Datainfos inside are read by `inner`; k is the kind.
module _ (inner : List ℕ → Option (Datainfo × List ℕ)) (k : ℕ) where
  -- what is left after the i32 or the datainfo of a member
  unfoldable pub after_held : List ℕ → Option (List ℕ)
  after_held xs = cond (eqb k 4) (rest (part 4 xs)) (rest (inner xs))

  -- what is left after a member
  unfoldable pub after_member : List ℕ → Option (List ℕ)
  after_member xs = cond (eqb k 7) (rest (inner xs)) (rest (entry k xs) >>= after_held)

  -- what is left after a member of a struct
  unfoldable pub after_field : List ℕ → Option (List ℕ)
  after_field xs = rest (entry k xs) >>= λ r. rest (inner r)

  -- what is left after n members
  unfoldable pub after_members : ℕ → List ℕ → Option (List ℕ)
  after_members zero xs = Some xs
  after_members (suc n) xs = after_member xs >>= after_members n

  -- what is left after a count byte and as many members
  unfoldable pub after_count : List ℕ → Option (List ℕ)
  after_count xs = unsigned 1 xs >>= λ p. after_members p.0 p.1

  -- a count byte and as many members of a struct, with the names of the optional ones
  unfoldable pub members_at : List ℕ → Option (Parts × List ℕ)
  members_at xs = unsigned 1 xs >>= λ p. fields inner k p.0 p.1
