-- What the clients are after a change of one of them (document 01, "Events a node takes", and what its plain node holds).
-- Of a line that is ended, dropped or forgotten the length becomes 0; its bytes stay in their place, and are not looked at. Assumes nothing.
use Rattle.std.specs.Prelude.{ℕ, ◌+◌, ◌*◌, cond, List, ltb, length, get_or, set}
use Rattle.std.proofs.lemmas.List.Edits.{sets}
use Rattle.state.specs.declared.Clients.{Clients}
use Rattle.state.specs.View.{is_set}

-- "Open begins with an empty line and nothing active" [C-4]
abbrev pub with_opened : Clients → ℕ → Clients
with_opened s c =
    record {
      «open» = set s.open c 1;
      overlong = set s.overlong c 0;
      active = set s.active c 0;
      length = set s.length c 0;
      lines = s.lines;
    }

-- "close forgets both": the line and what is active [C-5]
abbrev pub with_closed : Clients → ℕ → Clients
with_closed s c =
    record {
      «open» = set s.open c 0;
      overlong = set s.overlong c 0;
      active = set s.active c 0;
      length = set s.length c 0;
      lines = s.lines;
    }

-- "a line feed ends a line, which is carried out .., and no bytes stay" [C-6]
abbrev pub with_ended : Clients → ℕ → Clients
with_ended s c =
    record {
      «open» = s.open;
      overlong = set s.overlong c 0;
      active = s.active;
      length = set s.length c 0;
      lines = s.lines;
    }

-- "once over 1,024, only that": of the line no bytes are kept [L-2]
unfoldable pub with_overlong : Clients → ℕ → Clients
with_overlong s c =
    record {
      «open» = s.open;
      overlong = set s.overlong c 1;
      active = s.active;
      length = set s.length c 0;
      lines = s.lines;
    }

-- "The bytes a piece uses join its client's": they stand after those that client c's place, of 1,024 bytes, has [C-6]
unfoldable pub with_bytes : Clients → ℕ → List ℕ → Clients
with_bytes s c bytes =
    record {
      «open» = s.open;
      overlong = s.overlong;
      active = s.active;
      length = set s.length c (get_or s.length c 0 + length bytes);
      lines = sets s.lines (1024 * c + get_or s.length c 0) bytes;
    }

-- bytes join a line: inside an overlong one "the rest is dropped up to the line feed", with them it gets "over 1,024 bytes", or neither [L-2, C-6]
unfoldable pub with_joined : Clients → ℕ → List ℕ → Clients
with_joined s c bytes =
    cond (is_set s.overlong c) s
    (cond (ltb 1024 (get_or s.length c 0 + length bytes)) (with_overlong s c) (with_bytes s c bytes))
