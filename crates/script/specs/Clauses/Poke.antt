-- A kept state changed from outside, past all rules, as an operation of a script asks. Assumes nothing.
use Rattle.std.specs.Prelude.{ℕ, ◌%◌, cond, List, eqb, ltb, set}
use Rattle.state.specs.declared.Clients.{Clients}
use Rattle.state.specs.declared.Settings.{Settings}
use Rattle.state.specs.declared.State.{State}
use Rattle.state.specs.View.{next_clients, next_settings, next_counts}
use Rattle.script.specs.declared.operation.Operation.{Operation}
use Rattle.script.specs.Clauses.Within.{within}

-- of client c, by the code: `o` the open flag, `v` the overlong flag, `a` the active modules, `n` the length of its line becomes v
unfoldable pub with_number : Clients → ℕ → ℕ → ℕ → Clients
with_number s code c v =
    cond (ltb 7 c) s
    record {
      «open» = cond (eqb code 111) (set s.open c (v % 256)) s.open;
      overlong = cond (eqb code 118) (set s.overlong c (v % 256)) s.overlong;
      active = cond (eqb code 97) (set s.active c (v % 65536)) s.active;
      length = cond (eqb code 110) (set s.length c (v % 65536)) s.length;
      lines = s.lines;
    }

-- the lines have the bytes from a place on
abbrev pub with_lines : Clients → ℕ → List ℕ → Clients
with_lines s place bs =
    record { «open» = s.open; overlong = s.overlong; active = s.active; length = s.length; lines = within s.lines place bs }

-- of parameter p: the length of its stored value becomes v; its time becomes v; its error's class becomes v
unfoldable pub with_length : Settings → ℕ → ℕ → Settings
with_length s p v = cond (ltb 63 p) s record { length = set s.length p (v % 65536); error = s.error; time = s.time }

unfoldable pub with_time : Settings → ℕ → ℕ → Settings
with_time s p v = cond (ltb 63 p) s record { length = s.length; error = s.error; time = set s.time p v }

unfoldable pub with_error : Settings → ℕ → ℕ → Settings
with_error s p v = cond (ltb 63 p) s record { length = s.length; error = set s.error p (v % 256); time = s.time }

-- of client c, all three counts become v
unfoldable pub with_counts : State → ℕ → ℕ → State
with_counts s c v =
    let n = v % 4294967296 in
    cond (ltb 7 c) s (next_counts s (set s.counts c (record { lines = n; errors = n; updates = n })))

-- by the code: `z` a length, `t` a time, `e` an error's class, `l` the lines, and else what a client has
unfoldable pub part_poked : State → Operation → List ℕ → State
part_poked s o bs =
    cond (eqb o.code 122) (next_settings s (with_length s.settings o.number o.time))
    (cond (eqb o.code 116) (next_settings s (with_time s.settings o.number o.time))
    (cond (eqb o.code 101) (next_settings s (with_error s.settings o.number o.time))
    (cond (eqb o.code 108) (next_clients s (with_lines s.clients o.number bs))
    (next_clients s (with_number s.clients o.code o.number o.time)))))

-- `k` the counts
unfoldable pub poked_by : State → Operation → List ℕ → State
poked_by s o bs = cond (eqb o.code 107) (with_counts s o.number o.time) (part_poked s o bs)
