-- What the code that sizes a text answers. Assumes nothing.
use Rattle.std.specs.Prelude.{ℕ, ◌+◌, Bool, cond, List, eqb, length, get_or, Option, Some, None}
use Rattle.base64_text.specs.Base64.{sextet, is_sextet, is_whole, padded}

-- the six bits of a digit; of any other byte there are none
unfoldable pub six_bits : ℕ → Option ℕ
six_bits b = cond (is_sextet b) (Some (sextet b)) None

-- whether the group at a position is whole; past the end there is no digit
abbrev pub whole_at : List ℕ → ℕ → Bool
whole_at t i = is_whole (get_or t i 0) (get_or t (i + 1) 0) (get_or t (i + 2) 0) (get_or t (i + 3) 0)

-- the size of what follows the whole groups: nothing, or a padded group
unfoldable pub last_size : List ℕ → Option ℕ
last_size xs =
    cond (eqb (length xs) 0) (Some 0)
    (cond (eqb (length xs) 4) (padded (get_or xs 0 0) (get_or xs 1 0) (get_or xs 2 0) (get_or xs 3 0)) None)
