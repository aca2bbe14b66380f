-- All that the program writes. Assumes nothing.
use Rattle.std.specs.Prelude.{ℕ, zero, suc, cond, List, [], ◌∷◌, ◌++◌, eqb}
use Rattle.ascii.specs.Text.{bytes}
use Rattle.ascii.specs.Numbers.{decimal}
use Rattle.table.specs.Table.{Parameter, Table}
use Rattle.table.specs.Layout.{table_of}
use Rattle.table.specs.Search.{Placed, parameters}
use Rattle.message.specs.Error.{fault_name}
use Rattle.message.specs.Reply.{Held, valued, failed}
use Rattle.plain.specs.Node.{Value}
use Rattle.plain.specs.Calls.{start_number, started}
use Rattle.trace.specs.Reader.{Progress, End, clean, half, wrongly, end_of, unread, take_bytes}
use Rattle.replay.specs.Replay.{play_all, refusals}
use Rattle.replay.specs.Settings.{set_by_all}
use Rattle.figures.specs.Figures.{figure_line}

-- "one line each, as `t1:target 12`" [R-9]
unfoldable pub value_line : List ℕ → List ℕ → List ℕ → List ℕ
value_line m p v = m ++ bytes ":" ++ p ++ bytes " " ++ v ++ bytes "\n"

-- "every parameter's last shown value, or its error class's name" [R-9]
unfoldable pub held_text : Held → List ℕ
held_text (valued v) = v
held_text (failed f) = fault_name f

-- "in table order": of these parameters, of which the first has the number k [R-9]
unfoldable pub value_lines : (ℕ → Value) → ℕ → List (Placed Parameter) → List ℕ
value_lines f k [] = []
value_lines f k (p ∷ ps) = value_line p.module_name p.it.name (held_text (f k).held) ++ value_lines f (suc k) ps

-- "then `refused 12 3` (number, count) for each number met" [R-10]
unfoldable pub refused_line : ℕ → ℕ → List ℕ
refused_line k n = cond (eqb n 0) [] (bytes "refused " ++ decimal k ++ bytes " " ++ decimal n ++ bytes "\n")

-- "lowest first": of k numbers from j on [R-10]
unfoldable pub refused_lines : ℕ → ℕ → (ℕ → ℕ) → List ℕ
refused_lines zero j f = []
refused_lines (suc k) j f = refused_line j (f j) ++ refused_lines k (suc j) f

-- "then `wrong` or `half`, a space and the offset, if so" [R-11]
unfoldable pub end_line : End → ℕ → List ℕ
end_line clean n = []
end_line half n = bytes "half " ++ decimal n ++ bytes "\n"
end_line wrongly n = bytes "wrong " ++ decimal n ++ bytes "\n"

unfoldable pub summary : Table → (ℕ → Value) → (ℕ → ℕ) → Progress → List ℕ
summary w values refused p = value_lines values 0 (parameters w) ++ refused_lines 18 1 refused ++ end_line (end_of p) p.offset

-- M-111's lines, "Table order, one line each, ..": of these parameters, of which the first has the number k, by what each was set to [R-14]
unfoldable pub figure_lines : (ℕ → List (List ℕ)) → ℕ → List (Placed Parameter) → List ℕ
figure_lines sets k [] = []
figure_lines sets k (p ∷ ps) = figure_line p.module_name p.it.name p.it.datainfo (sets k) ++ figure_lines sets (suc k) ps

-- "A refused start writes only `start 5`, its number." [R-12]
unfoldable pub start_line : ℕ → List ℕ
start_line n = bytes "start " ++ decimal n ++ bytes "\n"

-- all of it, figures "after all of M-110's lines", "none after a refused start", for a replay that lends areas of 16,384 bytes and outboxes of
-- 32,768 [R-4, R-14]
unfoldable pub replay_text : List ℕ → ℕ → List ℕ → List ℕ
replay_text table time trace =
    let read = take_bytes unread trace in
    let played = play_all table 16384 32768 (started table 16384 time) read.1 in
    cond (eqb (start_number table 16384 time) 0)
    (summary (table_of table) played.node.values (refusals played.answers) read.0
    ++ figure_lines (λ k. set_by_all (table_of table) k played.calls played.answers) 0 (parameters (table_of table)))
    (start_line (start_number table 16384 time))
