-- Which library this is, and how its state lies in bytes: rule C-25. Assumes nothing.
use Rattle.std.specs.Prelude.{ℕ, ◌+◌, ◌*◌}

-- a version in three parts, as one number: 1.2.3 is 10203
abbrev pub numbered : ℕ → ℕ → ℕ → ℕ
numbered major minor patch = 10000 * major + 100 * minor + patch

-- the library's version; CHANGELOG.md tells what it has [C-25]
abbrev pub version : ℕ
version = numbered 1 0 0

-- the layout of the state: another number once a state that was stored before can't be handed in any more [C-25]
abbrev pub state_layout : ℕ
state_layout = 1
