-- Bytes that are put into an area where they have room. Assumes nothing.
use Rattle.std.specs.Prelude.{ℕ, ◌+◌, cond, List, ltb, length}
use Rattle.std.proofs.lemmas.List.Edits.{sets}

-- the area with the bytes from that place on, or as it was if they would go past its end
unfoldable pub within : List ℕ → ℕ → List ℕ → List ℕ
within area place bs = cond (ltb (length area) (place + length bs)) area (sets area place bs)
