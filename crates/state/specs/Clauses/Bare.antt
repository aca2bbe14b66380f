-- States without their lines, which the code hands on by value, and what is said of a state said of one of them. Assumes nothing.
use Rattle.std.specs.Prelude.{ℕ, List, [], set}
use Rattle.counter.specs.declared.Counts.{Counts}
use Rattle.state.specs.declared.Brief.{Brief}
use Rattle.state.specs.declared.Bare.{Bare}
use Rattle.state.specs.declared.Clients.{Clients}
use Rattle.state.specs.declared.State.{State}

-- the clients with these lines, and a state with them
abbrev pub with_lines : Brief → List ℕ → Clients
with_lines s lines = record { «open» = s.open; overlong = s.overlong; active = s.active; length = s.length; lines = lines }

abbrev pub lined : Bare → List ℕ → State
lined s lines = record { clients = with_lines s.clients lines; settings = s.settings; counts = s.counts }

-- the same with no lines: what a line is answered with doesn't depend on the bytes of unfinished ones
abbrev pub unlined : Bare → State
unlined s = lined s []

-- without the lines
abbrev pub brief_of : Clients → Brief
brief_of s = record { «open» = s.open; overlong = s.overlong; active = s.active; length = s.length }

abbrev pub bare_of : State → Bare
bare_of s = record { clients = brief_of s.clients; settings = s.settings; counts = s.counts }

-- "Activation held as an array by value of eight module masks .., one entry changed per activate": client c's mask becomes another
abbrev pub with_active : Clients → ℕ → ℕ → Clients
with_active s c mask = record { «open» = s.open; overlong = s.overlong; active = set s.active c mask; length = s.length; lines = s.lines }

-- this, and `Changed.with_ended`, without the lines
abbrev pub brief_ended : Brief → ℕ → Brief
brief_ended s c = record { «open» = s.open; overlong = set s.overlong c 0; active = s.active; length = set s.length c 0 }

abbrev pub brief_active : Brief → ℕ → ℕ → Brief
brief_active s c mask = record { «open» = s.open; overlong = s.overlong; active = set s.active c mask; length = s.length }

-- with other masks; with other counts
abbrev pub brief_masks : Brief → List ℕ → Brief
brief_masks s masks = record { «open» = s.open; overlong = s.overlong; active = masks; length = s.length }

abbrev pub bare_counts : Bare → List Counts → Bare
bare_counts s r = record { clients = s.clients; settings = s.settings; counts = r }
