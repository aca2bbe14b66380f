-- What is proved of the definitions: one exact comparison judges the numbers of doubles, of ints and of scaled (M-104). Assumes nothing.
use Rattle.std.specs.Prelude.{ℕ, ◌≡◌, true, List, ℤ}
use Rattle.decimal.specs.Token.{is_whole}
use Rattle.decimal.specs.Decimal.{Decimal, from_integer}
use Rattle.json_text.specs.Json.{Json, number}
use Rattle.datainfo.specs.Datainfo.{double, int, scaled}
use Rattle.fit.specs.Fit.{fit}

-- A scaled lets in what an int of its limits lets in, whatever its scale; and of the tokens without a dot and an 'e' an int lets in those
-- that a double of its limits lets in.
pub record OneComparison : Type 0 where
  pub of_scaled : (s : Decimal) (lo hi : ℤ) (v : Json) → fit (scaled s lo hi) v ≡ fit (int lo hi) v
  pub of_int : (lo hi : ℤ) (t : List ℕ) → is_whole t ≡ true
      → fit (int lo hi) (number t) ≡ fit (double (from_integer lo) (from_integer hi)) (number t)
