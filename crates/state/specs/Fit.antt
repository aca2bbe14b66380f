-- When a state is unfit for a table and a values area: number 9 (document 01, "State is unfit if"; M-102). Assumes nothing.
use Rattle.std.specs.Prelude.{ℕ, suc, ◌/◌, ◌^◌, Bool, false, not, ◌&&◌, ◌||◌, List, [], ◌∷◌, eqb, ltb, length, get_or}
use Rattle.ascii.specs.Bytes.{any}
use Rattle.ascii.specs.Numbers.{latest}
use Rattle.fit.specs.Fit.{is_stored}
use Rattle.table.specs.Table.{Parameter, Table}
use Rattle.table.specs.Search.{Placed, parameters}
use Rattle.plain.specs.Node.{client_numbers}
use Rattle.state.specs.declared.Clients.{Clients}
use Rattle.state.specs.declared.Settings.{Settings}
use Rattle.state.specs.declared.State.{State}
use Rattle.state.specs.View.{is_set, line_bytes, stored_text}

-- "a stored length is over 256 ..": that, or a value is stored (its length is not 0) and is no stored form that fits, or the time is above the
-- limit; "State is also unfit if an error's class is not 1 to 4", where 0 is no error [C-17]
unfoldable pub setting_unfit : Settings → List ℕ → ℕ → Parameter → Bool
setting_unfit s values p x =
    ltb 256 (get_or s.length p 0)
    || (not (eqb (get_or s.length p 0) 0) && not (is_stored x.datainfo (stored_text s values p)))
    || ltb latest (get_or s.time p 0)
    || ltb 4 (get_or s.error p 0)

-- of these parameters, of which the first has the number p. "Places past the last parameter are not looked at." [C-19]
unfoldable pub settings_unfit : Settings → List ℕ → ℕ → List (Placed Parameter) → Bool
settings_unfit s values p [] = false
settings_unfit s values p (x ∷ xs) = setting_unfit s values p x.it || settings_unfit s values (suc p) xs

-- "a module past the last is active" [C-18]
unfoldable pub past_last : ℕ → ℕ → Bool
past_last mask modules = not (eqb (mask / 2 ^ modules) 0)

-- "an unfinished line is over 1,024 bytes ..": of client c the faults of a line, bytes of an overlong one, modules past the last, and whatever a
-- closed client holds, in document 01's order [C-18]
unfoldable pub client_unfit : ℕ → Clients → ℕ → Bool
client_unfit modules s c =
    ltb 1024 (get_or s.length c 0)
    || any (λ b. eqb b 10) (line_bytes s c)
    || (is_set s.overlong c && is_set s.length c)
    || past_last (get_or s.active c 0) modules
    || (not (is_set s.open c) && (is_set s.length c || is_set s.overlong c || is_set s.active c))

-- "State is unfit if, for this table: ..": a stored value is at fault, or a client is [C-17, C-18]
unfoldable pub is_unfit : Table → State → List ℕ → Bool
is_unfit w s values =
    settings_unfit s.settings values 0 (parameters w)
    || any (client_unfit (length w.modules) s.clients) client_numbers
