-- The night in numbers: figures over a parameter's accepted settings, and the line that tells them (M-111). Assumes nothing.
use Rattle.std.specs.Prelude.{ℕ, Bool, false, cond, ◌&&◌, List, [], ◌∷◌, ◌++◌, map, ltb, ℤ, pos, negsuc, ◌+ℤ◌, length, take}
use Rattle.std.specs.Int.Signed.{le_z}
use Rattle.ascii.specs.Text.{bytes}
use Rattle.ascii.specs.Numbers.{decimal, integer}
use Rattle.decimal.specs.Decimal.{numeral}
use Rattle.datainfo.specs.Datainfo.{Datainfo, double, int, bool, enum, string, array, tuple, struct, scaled, blob, partial}

-- "limits lie within -2,147,483,648 to 2,147,483,647" [R-16]
unfoldable pub is_narrow : ℤ → ℤ → Bool
is_narrow lo hi = le_z (negsuc 2147483647) lo && le_z hi (pos 2147483647)

-- "each int or scaled parameter whose limits lie within .."; "Other parameters: count only" [R-16, R-18]
unfoldable pub is_summed : Datainfo → Bool
is_summed (double lo hi) = false
is_summed (int lo hi) = is_narrow lo hi
is_summed bool = false
is_summed (enum vs) = false
is_summed (string lo hi) = false
is_summed (array lo hi d) = false
is_summed (tuple ds) = false
is_summed (struct fs) = false
is_summed (scaled s lo hi) = is_narrow lo hi
is_summed (blob lo hi) = false
is_summed (partial ns fs) = false

-- "the least, the greatest, and the sum, exact, as whole numbers": of a first number and others [R-16]
unfoldable pub least : ℤ → List ℤ → ℤ
least x [] = x
least x (y ∷ ys) = least (cond (le_z x y) x y) ys

-- the greatest of them [R-16]
unfoldable pub greatest : ℤ → List ℤ → ℤ
greatest x [] = x
greatest x (y ∷ ys) = greatest (cond (le_z y x) x y) ys

-- their sum [R-16]
unfoldable pub total : ℤ → List ℤ → ℤ
total x [] = x
total x (y ∷ ys) = total (x +ℤ y) ys

-- "least 3 greatest 12 sum 15"; "No settings: count 0 and the word `none`." [R-16, R-17]
unfoldable pub numbers_text : List ℤ → List ℕ
numbers_text [] = bytes " none"
numbers_text (x ∷ xs) =
    bytes " least " ++ integer (least x xs) ++ bytes " greatest " ++ integer (greatest x xs) ++ bytes " sum " ++ integer (total x xs)

-- "At 65,535 settings of one parameter the report says `full` for it and keeps the figures of those first 65,535." [R-19]
abbrev pub full : ℕ
full = 65535

-- the settings that the figures are of [R-19]
unfoldable pub first_settings : List (List ℕ) → List (List ℕ)
first_settings vs = take full vs

-- the line of the parameter p of the module m, which had these settings, each by its stored form: "scaled ones as they travel, `-0` as 0"; "a full one
-- ends in a space and `full`" [R-16, R-18, R-19]
unfoldable pub figure_line : List ℕ → List ℕ → Datainfo → List (List ℕ) → List ℕ
figure_line m p d vs =
    m ++ bytes ":" ++ p ++ bytes " count " ++ decimal (length (first_settings vs))
    ++ cond (is_summed d) (numbers_text (map numeral (first_settings vs))) []
    ++ cond (ltb (length (first_settings vs)) full) [] (bytes " full")
    ++ bytes "\n"
