-- The plain node that a state stands for, with the table and the values area that it is handed in with (document 01, "Numbers a call
-- answers with"; M-102, M-108). Assumes nothing.
use Rattle.std.specs.Prelude.{ℕ, ◌*◌, ◌/◌, ◌%◌, ◌^◌, Bool, cond, not, List, [], ◌∷◌, eqb, length, get_or, set, take, drop, Option, Some, None, slice_get}
use Rattle.std.proofs.lemmas.List.Edits.{sets}
use Rattle.counter.specs.declared.Counts.{Counts}
use Rattle.counter.specs.Counts.{no_counts, all_counted}
use Rattle.message.specs.Line.{Line, whole, overlong}
use Rattle.message.specs.Error.{fault_number, fault_of}
use Rattle.message.specs.Reply.{Held, valued, failed, held_as}
use Rattle.table.specs.Table.{Parameter}
use Rattle.table.specs.Clauses.At.{bytes_of}
use Rattle.table.specs.declared.layout.Part.{Part}
use Rattle.table.specs.Layout.{table_of}
use Rattle.table.specs.Search.{Placed, parameters}
use Rattle.outbox.specs.Outbox.{Record, encode_all}
use Rattle.plain.specs.Node.{Client, closed, connected, Value, Node, Setting, holding, showing}
use Rattle.state.specs.declared.Clients.{Clients}
use Rattle.state.specs.declared.Settings.{Settings}
use Rattle.state.specs.declared.State.{State}

-- ## Clients

-- a flag [C-19]
unfoldable pub is_set : List ℕ → ℕ → Bool
is_set flags c = not (eqb (get_or flags c 0) 0)

-- bit i of a mask
unfoldable pub bit : ℕ → ℕ → Bool
bit mask i = eqb (mask / 2 ^ i % 2) 1

-- the bytes of client c's unfinished line [C-19]
unfoldable pub line_bytes : Clients → ℕ → List ℕ
line_bytes s c = take (get_or s.length c 0) (drop (1024 * c) s.lines)

unfoldable pub line_at : Clients → ℕ → Line
line_at s c = cond (is_set s.overlong c) overlong (whole (line_bytes s c))

unfoldable pub client_at : Clients → ℕ → Client
client_at s c = cond (is_set s.open c) (connected (line_at s c) (bit (get_or s.active c 0))) closed

-- ## Values

-- "Each parameter has 256 bytes of the values area, in order." [C-15]
abbrev pub place_of : ℕ → ℕ
place_of p = 256 * p

unfoldable pub stored_text : Settings → List ℕ → ℕ → List ℕ
stored_text s values p = take (get_or s.length p 0) (drop (place_of p) values)

-- "Length 0 means never set ..": the value shown is then a part of the table's bytes, else a part of the values area [C-9, C-16]
unfoldable pub shown : List ℕ → Settings → List ℕ → ℕ → Parameter → List ℕ
shown table s values p x =
    cond (eqb (get_or s.length p 0) 0) (take (length x.initial) (drop x.place table)) (stored_text s values p)

-- the same by where the initial value lies in the table [C-9, C-16]
unfoldable pub shown_bytes : List ℕ → Settings → List ℕ → ℕ → Part → List ℕ
shown_bytes table s values p initial = cond (eqb (get_or s.length p 0) 0) (bytes_of table initial) (stored_text s values p)

-- "holds either a value or such an error, with its time" (M-102): while there is one, the value is not shown. Past the last parameter nothing is
-- looked at [L-28, C-19, H-1]
unfoldable pub value_at : List ℕ → Settings → List ℕ → ℕ → Option (Placed Parameter) → Value
value_at table s values p None = showing [] 0
value_at table s values p (Some x) =
    holding (held_as (fault_of (get_or s.error p 0)) (shown table s values p x.it)) (get_or s.time p 0)

-- ## Counts

-- client c's, of the eight. A count is a u32, and so at most where it stops: nothing is cut off here [H-1, H-5]
unfoldable pub counts_at : List Counts → ℕ → Counts
counts_at xs c = all_counted (get_or xs c no_counts) 0 0 0

-- ## States

-- a state with other clients; with other settings; with other counts
abbrev pub next_clients : State → Clients → State
next_clients s r = record { clients = r; settings = s.settings; counts = s.counts }

abbrev pub next_settings : State → Settings → State
next_settings s r = record { clients = s.clients; settings = r; counts = s.counts }

abbrev pub next_counts : State → List Counts → State
next_counts s r = record { clients = s.clients; settings = s.settings; counts = r }

-- the plain node that a state stands for: its clients, what each parameter holds, and the counts [H-1, H-5]
unfoldable pub view : List ℕ → State → List ℕ → Node
view table s values =
    record {
      clients = client_at s.clients;
      values = λ p. value_at table s.settings values p (slice_get (parameters (table_of table)) p);
      counts = counts_at s.counts;
    }

-- "An accepted setting writes its stored form ..": from the parameter's place on, and nothing else is written [C-15]
unfoldable pub with_stored : List ℕ → ℕ → List ℕ → List ℕ
with_stored values p text = sets values (place_of p) text

-- "A stored value carries the time of the event that set it.": lengths, errors and times after parameter p was set to a value of so many bytes.
-- "The next value stored clears it", the error [L-28]
abbrev pub with_length : Settings → ℕ → ℕ → ℕ → Settings
with_length s p size time = record { length = set s.length p size; error = set s.error p 0; time = set s.time p time }

-- after parameter p was reported unreadable, with the number of a class: what is stored stays
abbrev pub with_error : Settings → ℕ → ℕ → ℕ → Settings
with_error s p class time = record { length = s.length; error = set s.error p class; time = set s.time p time }

-- a setting to a value or to an error. "the values area isn't written" by an error [L-28, C-8, H-1]
unfoldable pub with_held : List ℕ → ℕ → Held → List ℕ
with_held values p (valued v) = with_stored values p v
with_held values p (failed f) = values

-- and lengths, errors and times after it [L-28, H-1]
unfoldable pub with_setting : Settings → ℕ → Held → ℕ → Settings
with_setting s p (valued v) t = with_length s p (length v) t
with_setting s p (failed f) t = with_error s p (fault_number f) t

-- the values area, where what is set is stored, one setting after another, and nothing else is written [C-8, C-15]
unfoldable pub area_with : List ℕ → List Setting → List ℕ
area_with values [] = values
area_with values (x ∷ xs) = area_with (with_held values x.parameter x.held) xs

-- lengths, errors and times, where what is set gets its time [C-15]
unfoldable pub settings_with : Settings → List Setting → Settings
settings_with s [] = s
settings_with s (x ∷ xs) = settings_with (with_setting s x.parameter x.held x.time) xs

-- "An accepted call leaves outbox bytes past its written length untouched.": the outbox after a call that writes these records, and the
-- written length [C-13]
unfoldable pub outbox_after : List ℕ → List Record → List ℕ
outbox_after outbox rs = sets outbox 0 (encode_all rs)

-- how many bytes these records are [C-13]
unfoldable pub written : List Record → ℕ
written rs = length (encode_all rs)
