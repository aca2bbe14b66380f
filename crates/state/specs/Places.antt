-- What a call that is accepted leaves of the clients, exactly: flags, lengths, and the places of their lines, of which no byte changes but those that join
-- a line. The masks follow from the plain node that the next state stands for and, of closed clients, from its being fit. Assumes nothing.
use Rattle.std.specs.Prelude.{ℕ, cond, List}
use Rattle.plain.specs.Calls.{Event, Open, Close, Piece, Reading, Unreadable, has_feed}
use Rattle.state.specs.declared.Clients.{Clients}
use Rattle.state.specs.Changed.{with_opened, with_closed, with_ended, with_joined}

-- the clients with other masks of active modules
abbrev pub with_masks : Clients → List ℕ → Clients
with_masks s masks = record { «open» = s.open; overlong = s.overlong; active = masks; length = s.length; lines = s.lines }

-- "Open begins with an empty line and nothing active; close forgets both."; a piece's bytes join the line, or a line feed ends it [C-4, C-5, C-6, C-19, L-2]
unfoldable pub places_after : Clients → Event → Clients
places_after s (Open c t) = with_opened s c
places_after s (Close c t) = with_closed s c
places_after s (Piece c bs t) = cond (has_feed bs) (with_ended s c) (with_joined s c bs)
places_after s (Reading p bs t) = s
places_after s (Unreadable p k t) = s
