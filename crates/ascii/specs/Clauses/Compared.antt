-- What the one comparison of names answers. Assumes nothing.
use Rattle.std.specs.Prelude.{ℕ, List}
use Rattle.ascii.specs.Bytes.{same, looked}
use Rattle.ascii.specs.declared.names.Compared.{Compared}

unfoldable pub compared : List ℕ → List ℕ → Compared
compared xs ys = record { same = same xs ys; pairs = looked xs ys }
