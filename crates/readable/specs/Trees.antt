-- The values that the node's reports are texts of (document 01, "Lines"; M-102, M-108). Only theorems speak of them: what is sent are the texts of
-- `message/specs/Reply`. Assumes nothing.
use Rattle.std.specs.Prelude.{ℕ, Option, Some}
use Rattle.ascii.specs.Text.{bytes}
use Rattle.ascii.specs.Bytes.{◌>>=◌}
use Rattle.ascii.specs.Numbers.{decimal, seconds}
use Rattle.counter.specs.declared.Counts.{Counts}
use Rattle.json_text.specs.Json.{Json, number, string, array, object, no_items, item, no_members, member, text}
use Rattle.message.specs.Error.{Class, class_name, class_text, Fault, fault_name, Denial, class, fault}
use Rattle.message.specs.Reply.{Held, valued, failed}

-- `{"t":time}`
unfoldable pub time_value : ℕ → Json
time_value t = object (member (bytes "t") (number (seconds t)) no_members)

-- `[value,{"t":time}]` [L-12]
unfoldable pub data_value : Json → ℕ → Json
data_value v t = array (item v (item (time_value t) no_items))

-- "`["CLASS","CLASS",{"t":time}]`" (M-102) [L-28]
unfoldable pub fault_value : Fault → ℕ → Json
fault_value f t = array (item (string (fault_name f)) (item (string (fault_name f)) (item (time_value t) no_items)))

-- `["CLASS","TEXT",{}]` [L-9]
unfoldable pub class_value : Class → Json
class_value c = array (item (string (class_name c)) (item (string (class_text c)) (item (object no_members) no_items)))

-- of an error reply: one of these two [L-9, L-28]
unfoldable pub denial_value : Denial → Json
denial_value (class c) = class_value c
denial_value (fault f t) = fault_value f t

-- "`[lines,errors,updates,active]`" (M-108) [L-25]
unfoldable pub counts_value : Counts → ℕ → Json
counts_value x n =
    array (item (number (decimal x.lines)) (item (number (decimal x.errors)) (item (number (decimal x.updates)) (item (number (decimal n)) no_items))))

-- of what a parameter holds: the data report of the value that its text is, or the report of why it can't be read [L-12, L-28]
unfoldable pub held_value : Held → ℕ → Option Json
held_value (valued v) t = text v >>= λ w. Some (data_value w t)
held_value (failed f) t = Some (fault_value f t)
