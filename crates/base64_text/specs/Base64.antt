-- The size of what a text is the base64 of (RFC 4648, section 4), padded, "unused bits zero" (M-104). Assumes nothing.
use Rattle.std.specs.Prelude.{ℕ, ◌+◌, ◌-◌, ◌%◌, Bool, cond, ◌&&◌, List, [], ◌∷◌, ltb, eqb, length, Option, Some, None}
use Rattle.ascii.specs.Bytes.{is_in, is_digit}

-- the six bits of a digit: 'A' to 'Z', 'a' to 'z', '0' to '9', '+' (43), '/' (47); 64 for any other byte
unfoldable pub sextet : ℕ → ℕ
sextet b =
    cond (is_in 65 90 b) (b - 65)
    (cond (is_in 97 122 b) (b - 71) (cond (is_digit b) (b + 4) (cond (eqb b 43) 62 (cond (eqb b 47) 63 64))))

unfoldable pub is_sextet : ℕ → Bool
is_sextet b = ltb (sextet b) 64

-- a group of four that stands for three bytes
unfoldable pub is_whole : ℕ → ℕ → ℕ → ℕ → Bool
is_whole a b c d = is_sextet a && is_sextet b && is_sextet c && is_sextet d

-- a last group of four with one or two pads ('=', 61), whose unused bits are zero: how many bytes it is
unfoldable pub padded : ℕ → ℕ → ℕ → ℕ → Option ℕ
padded a b c d =
    cond (is_sextet a && is_sextet b && eqb d 61)
    (cond (eqb c 61)
    (cond (eqb (sextet b % 16) 0) (Some 1) None)
    (cond (is_sextet c && eqb (sextet c % 4) 0) (Some 2) None))
    None

-- n more, where there is a size
unfoldable pub more : ℕ → Option ℕ → Option ℕ
more n None = None
more n (Some m) = Some (n + m)

-- how many bytes a text is the base64 of; none where it is no base64 [V-13]
unfoldable pub blob_size : List ℕ → Option ℕ
blob_size [] = Some 0
blob_size (a ∷ []) = None
blob_size (a ∷ b ∷ []) = None
blob_size (a ∷ b ∷ c ∷ []) = None
blob_size (a ∷ b ∷ c ∷ d ∷ xs) =
    cond (is_whole a b c d) (more 3 (blob_size xs)) (cond (eqb (length xs) 0) (padded a b c d) None)
