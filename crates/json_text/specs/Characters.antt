-- The characters of a string. Document 01: "characters counted after escapes, each escape one". Assumes nothing.
use Rattle.std.specs.Prelude.{ℕ, zero, suc, ◌+◌, ◌*◌, ◌-◌, cond, List, [], ◌∷◌, take, leb, eqb}
use Rattle.ascii.specs.Bytes.{head, tail}

-- the value of a hexadecimal digit
unfoldable pub hex_digit : ℕ → ℕ
hex_digit b = cond (leb 97 b) (b - 87) (cond (leb 65 b) (b - 55) (b - 48))

unfoldable pub hex_from : ℕ → List ℕ → ℕ
hex_from n [] = n
hex_from n (b ∷ bs) = hex_from (n * 16 + hex_digit b) bs

-- what an escape stands for, past its backslash: 'u' (117) and four digits; b, f, n, r, t; else the byte itself
unfoldable pub escaped : List ℕ → ℕ
escaped xs =
    cond (eqb (head xs) 117) (hex_from 0 (take 4 (tail xs)))
    (cond (eqb (head xs) 98) 8
    (cond (eqb (head xs) 102) 12
    (cond (eqb (head xs) 110) 10
    (cond (eqb (head xs) 114) 13
    (cond (eqb (head xs) 116) 9 (head xs))))))

-- the character that begins with the byte b, before bs, and how many bytes of bs belong to it: past a backslash (92), five where
-- a 'u' follows, else one
unfoldable pub character : ℕ → List ℕ → ℕ
character b bs = cond (eqb b 92) (escaped bs) b

unfoldable pub extra : ℕ → List ℕ → ℕ
extra b bs = cond (eqb b 92) (cond (eqb (head bs) 117) 5 1) 0

-- the characters of the bytes between two quotes, after k bytes that belong to the character before
unfoldable pub characters_after : ℕ → List ℕ → List ℕ
characters_after k [] = []
characters_after (suc k) (b ∷ bs) = characters_after k bs
characters_after zero (b ∷ bs) = character b bs ∷ characters_after (extra b bs) bs

-- all characters of the bytes between two quotes [V-12]
unfoldable pub characters : List ℕ → List ℕ
characters s = characters_after 0 s
