-- What an index is good for, beside a table that is accepted. Assumes nothing.
use Rattle.std.specs.Prelude.{ℕ, ◌≤◌, true, List, ◌++◌, ◌≡◌, Some}
use Rattle.hash.specs.Hash.{start_place}
use Rattle.table.specs.Table.{Accessible, Table}
use Rattle.table.specs.Rules.{counts_good, names_good}
use Rattle.table.specs.Search.{Placed, find_parameter, find_command}
use Rattle.index.specs.Index.{around}
use Rattle.index.specs.Search.{looked}
use Rattle.index.specs.Among.{as_one}
use Rattle.index.specs.Accessibles.{accessibles, is_named, find_accessible, index_of, sought, seek_steps, parameter_in, command_in, placed_one}

-- A parameter of two names is the accessible of these names, if that is a parameter. [I-5]
abbrev pub ParametersAreAccessibles : Type 0
ParametersAreAccessibles = (t : Table) (m a : List ℕ) → names_good t ≡ true
    → find_parameter t m a ≡ as_one (placed_one parameter_in) (accessibles t) (find_accessible t m a)

-- And so is a command. [I-5]
abbrev pub CommandsAreAccessibles : Type 0
CommandsAreAccessibles = (t : Table) (m a : List ℕ) → names_good t ≡ true
    → find_command t m a ≡ as_one (placed_one command_in) (accessibles t) (find_accessible t m a)

-- "a stale or scribbled index can't change any answer but its steps": what is found is what is found without one [I-5]
abbrev pub AnswersStand : Type 0
AnswersStand = (t : Table) (lent m a : List ℕ) → names_good t ≡ true → (sought t lent m a).found ≡ find_accessible t m a

-- "at most 192 always": 128 bytes of the index, and 64 accessibles [I-7]
abbrev pub StepsAreFew : Type 0
StepsAreFew = (t : Table) (lent m a : List ℕ) → counts_good t ≡ true → seek_steps t lent m a ≤ 192

-- "at most 64, with no walk, for a present name and an index filled from this table": the search is that among the index's bytes [I-7]
pub record Quick (t : Table) (lent m a : List ℕ) (k : ℕ × Placed Accessible) : Type 0 where
  pub found : (sought t lent m a).found ≡ Some k
  pub unwalked : sought t lent m a ≡ looked (is_named m a) (accessibles t) (around (start_place m a) (index_of t))
  pub few : seek_steps t lent m a ≤ 64

-- bytes past the 128 make no difference [I-7]
abbrev pub PresentNamesAreQuick : Type 0
PresentNamesAreQuick = (t : Table) (m a more : List ℕ) (k : ℕ × Placed Accessible) → counts_good t ≡ true → names_good t ≡ true
    → find_accessible t m a ≡ Some k → Quick t (index_of t ++ more) m a k
