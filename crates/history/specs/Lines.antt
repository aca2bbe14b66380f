-- What clients are sent, line by line (document 01, "Outbox"). Assumes nothing.
use Rattle.std.specs.Prelude.{ℕ, true, ◌≡◌}
use mathlib.Core.List.{List, ◌++◌, Memᴰ}
use Rattle.ascii.specs.Text.{bytes}
use Rattle.ascii.specs.Bytes.{all, is_printable}
use Rattle.table.specs.Layout.{table_of}
use Rattle.outbox.specs.Outbox.{Record, final, update, order_change, order_command, body}
use Rattle.plain.specs.Node.{begin}
use Rattle.plain.specs.Calls.{start_number}
use Rattle.plain.specs.History.{sent}
use Rattle.lists.specs.Histories.{Act, results, answers_of}

-- "a line with its line feed": bytes 32 to 126, and then a line feed, which so is the only one [C-21]
pub record OneLine (bs : List ℕ) : Type 0 where
  pub line : List ℕ
  pub is : bs ≡ line ++ bytes "\n"
  pub printable : all is_printable line ≡ true

-- "`RP` final reply and `UP` update have a line .."
abbrev pub Lined : Record → Type 0
Lined (final c r) = OneLine (body (final c r))
Lined (update c r) = OneLine (body (update c r))
Lined (order_change c p v) = Unit {0}
Lined (order_command c p v) = Unit {0}

-- After an accepted start, each final reply and each update that any call or list sends is one line.
abbrev pub LinesAreSent : Type 0
LinesAreSent = (table : List ℕ) (area time : ℕ) → start_number table area time ≡ 0 → (h : List Act) (x : Record)
    → Memᴰ x (sent (answers_of (results table (begin (table_of table) time) h))) → Lined x
