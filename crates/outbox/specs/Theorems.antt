-- What is proved of the definitions of this layer. Assumes nothing.
use Rattle.std.specs.Prelude.{ℕ, true, not, List, [], ◌∷◌, ◌≡◌, Option, Some, None}
use Rattle.ascii.specs.Text.{bytes}
use Rattle.ascii.specs.Bytes.{is_some, after, all, is_space}
use Rattle.ascii.specs.Names.{is_name}
use Rattle.message.specs.Reply.{Held, valued, failed, DataReport, Reply, identification, describing, pong, active, inactive, reply, changed}
use Rattle.message.specs.Reply.{done, counted, error, checked}
use Rattle.outbox.specs.Outbox.{Record, final, update, order_change, order_command, encode_all}

-- a word of a line: no space in it
abbrev pub Word : List ℕ → Type 0
Word xs = all (λ b. not (is_space b)) xs ≡ true

abbrev pub Named : Option (List ℕ) → Type 0
Named None = Unit {0}
Named (Some m) = is_name m ≡ true

-- a report by good names
abbrev pub NamedReport : DataReport → Type 0
NamedReport r = (is_name r.module_name ≡ true) × (is_name r.accessible ≡ true)

-- a report of a value
abbrev pub IsValue : Held → Type 0
IsValue (valued v) = Unit {0}
IsValue (failed f) = ⊥

abbrev pub ValueReport : DataReport → Type 0
ValueReport r = NamedReport r × IsValue r.held

-- an identification that a table gives: no other line begins so [C-21]
abbrev pub Edition : Option (List ℕ) → Type 0
Edition None = Unit {0}
Edition (Some x) = is_some (after (bytes "ISSE,SECoP,") x) ≡ true

-- records as a node writes them: names are names, what was sent as a word is a word, a reply with a report tells a value, and an identification
-- that a table gives begins as its edition has to [C-21]
abbrev pub WellFormedReply : Reply → Type 0
WellFormedReply (identification e) = Edition e
WellFormedReply (describing r) = Unit {0}
WellFormedReply (pong token now) = Word token
WellFormedReply (active m) = Named m
WellFormedReply (inactive m) = Named m
WellFormedReply (reply r) = ValueReport r
WellFormedReply (changed r) = ValueReport r
WellFormedReply (done r) = ValueReport r
WellFormedReply (checked r) = ValueReport r
WellFormedReply (counted x n now) = Unit {0}
WellFormedReply (error a s d) = Word a × Word s

abbrev pub WellFormed : Record → Type 0
WellFormed (final c r) = WellFormedReply r
WellFormed (update c r) = NamedReport r
WellFormed (order_change c p v) = Unit {0}
WellFormed (order_command c p v) = Unit {0}

abbrev pub AllWellFormed : List Record → Type 0
AllWellFormed [] = Unit {0}
AllWellFormed (r ∷ rs) = WellFormed r × AllWellFormed rs

-- The encoding can be read back: equal bytes, equal records. What is said of records is said of the bytes that are sent.
abbrev pub EncodingIsReadBack : Type 0
EncodingIsReadBack = (rs ss : List Record) → AllWellFormed rs → AllWellFormed ss → encode_all rs ≡ encode_all ss → rs ≡ ss
