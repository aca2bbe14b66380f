-- The pattern that stands in an outbox before a call. Assumes nothing.
use Rattle.std.specs.Prelude.{ℕ, ◌%◌, ◌<◌, List, ◌≡◌, length, get_or}

-- a buffer that is filled with it: as long as it was, and byte i is i modulo 251
pub record Filled (before after : List ℕ) : Type 0 where
  pub size : length after ≡ length before
  pub bytes : (i : ℕ) → i < length before → get_or after i 0 ≡ i % 251
