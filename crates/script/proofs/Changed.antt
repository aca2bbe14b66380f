-- A state that is changed from outside, one law for each way through the code. Assumes nothing.
use Prim.Native.Nat.{ℕ, ◌%◌, ◌≤◌, ◌<◌}
use borrow.Author.Tests.{lt-ltb, le-ltb, ne_eqb}
use mathlib.Core.List.{List}
use mathlib.Core.Logic.{◌≢◌}
use mathlib.Core.Path.{◌≡◌, refl}
use lib.ListN.{set}
use Rattle.state.specs.declared.Clients.{Clients}
use Rattle.state.specs.declared.Settings.{Settings}
use Rattle.state.specs.declared.State.{State}
use Rattle.state.specs.View.{next_clients, next_settings, next_counts}
use Rattle.script.specs.declared.operation.Operation.{Operation}
use Rattle.script.specs.Clauses.Poke.{with_number, with_lines, with_length, with_time, with_error, with_counts, part_poked, poked_by}

module _ (s : Clients) (code c v : ℕ) where
  pub number_past : 7 < c → s ≡ with_number s code c v
  unfolding with_number
  number_past h = rw (lt-ltb 7 c h) refl

  module _ (h : c ≤ 7) where
    pub number_open : code ≡ 111
        → record { «open» = set s.open c (v % 256); overlong = s.overlong; active = s.active; length = s.length; lines = s.lines }
        ≡ with_number s code c v
    unfolding with_number
    number_open e = rw (le-ltb 7 c h, e) refl

    pub number_overlong : code ≡ 118
        → record { «open» = s.open; overlong = set s.overlong c (v % 256); active = s.active; length = s.length; lines = s.lines }
        ≡ with_number s code c v
    unfolding with_number
    number_overlong e = rw (le-ltb 7 c h, e) refl

    pub number_active : code ≡ 97
        → record { «open» = s.open; overlong = s.overlong; active = set s.active c (v % 65536); length = s.length; lines = s.lines }
        ≡ with_number s code c v
    unfolding with_number
    number_active e = rw (le-ltb 7 c h, e) refl

    pub number_length : code ≡ 110
        → record { «open» = s.open; overlong = s.overlong; active = s.active; length = set s.length c (v % 65536); lines = s.lines }
        ≡ with_number s code c v
    unfolding with_number
    number_length e = rw (le-ltb 7 c h, e) refl

    pub number_other : code ≢ 111 → code ≢ 118 → code ≢ 97 → code ≢ 110 → s ≡ with_number s code c v
    unfolding with_number
    number_other p q u w = rw (le-ltb 7 c h, ne_eqb code 111 p, ne_eqb code 118 q, ne_eqb code 97 u, ne_eqb code 110 w) refl

module _ (s : Settings) (p v : ℕ) where
  pub length_past : 63 < p → s ≡ with_length s p v
  unfolding with_length
  length_past h = rw (lt-ltb 63 p h) refl

  pub length-set : p ≤ 63 → record { length = set s.length p (v % 65536); error = s.error; time = s.time } ≡ with_length s p v
  unfolding with_length
  length-set h = rw (le-ltb 63 p h) refl

  pub time_past : 63 < p → s ≡ with_time s p v
  unfolding with_time
  time_past h = rw (lt-ltb 63 p h) refl

  pub time_set : p ≤ 63 → record { length = s.length; error = s.error; time = set s.time p v } ≡ with_time s p v
  unfolding with_time
  time_set h = rw (le-ltb 63 p h) refl

  pub error_past : 63 < p → s ≡ with_error s p v
  unfolding with_error
  error_past h = rw (lt-ltb 63 p h) refl

  pub error_set : p ≤ 63 → record { length = s.length; error = set s.error p (v % 256); time = s.time } ≡ with_error s p v
  unfolding with_error
  error_set h = rw (le-ltb 63 p h) refl

module _ (s : State) (c v : ℕ) where
  pub counts_past : 7 < c → s ≡ with_counts s c v
  unfolding with_counts
  counts_past h = rw (lt-ltb 7 c h) refl

  pub counts_set : c ≤ 7
      → next_counts s (set s.counts c (record { lines = v % 4294967296; errors = v % 4294967296; updates = v % 4294967296 })) ≡ with_counts s c v
  unfolding with_counts
  counts_set h = rw (le-ltb 7 c h) refl

module _ (s : State) (o : Operation) (bs : List ℕ) where
  pub poked_counts : o.code ≡ 107 → {x : State} → x ≡ with_counts s o.number o.time → x ≡ poked_by s o bs
  unfolding poked_by
  poked_counts e q = rw e q

  pub poked_others : o.code ≢ 107 → {x : State} → x ≡ part_poked s o bs → x ≡ poked_by s o bs
  unfolding poked_by
  poked_others n q = rw (ne_eqb o.code 107 n) q

  pub poked_length : o.code ≡ 122 → {x : Settings} → x ≡ with_length s.settings o.number o.time
      → next_settings s x ≡ part_poked s o bs
  unfolding part_poked
  poked_length e q = rw (e, q) refl

  pub poked_time : o.code ≡ 116 → {x : Settings} → x ≡ with_time s.settings o.number o.time
      → next_settings s x ≡ part_poked s o bs
  unfolding part_poked
  poked_time e q = rw (e, q) refl

  pub poked_error : o.code ≡ 101 → {x : Settings} → x ≡ with_error s.settings o.number o.time
      → next_settings s x ≡ part_poked s o bs
  unfolding part_poked
  poked_error e q = rw (e, q) refl

  pub poked_lines : o.code ≡ 108 → {x : Clients} → x ≡ with_lines s.clients o.number bs
      → next_clients s x ≡ part_poked s o bs
  unfolding part_poked
  poked_lines e q = rw (e, q) refl

  pub poked_client : o.code ≢ 122 → o.code ≢ 116 → o.code ≢ 101 → o.code ≢ 108 → {x : Clients}
      → x ≡ with_number s.clients o.code o.number o.time
      → next_clients s x ≡ part_poked s o bs
  unfolding part_poked
  poked_client u v e w q = rw (ne_eqb o.code 122 u, ne_eqb o.code 116 v, ne_eqb o.code 101 e, ne_eqb o.code 108 w, q) refl
