-- A client's counts, and how they grow (M-108). Assumes nothing.
use Rattle.std.specs.Prelude.{ℕ, ◌+◌, min}
use Rattle.counter.specs.declared.Counts.{Counts}

-- "Start and open set them to 0"
abbrev pub no_counts : Counts
no_counts = record { lines = 0; errors = 0; updates = 0 }

-- "each stops at 4,294,967,295" [L-30]
abbrev pub highest : ℕ
highest = 4294967295

-- a count of k after n more [L-30]
abbrev pub stopping : ℕ → ℕ → ℕ
stopping k n = min (k + n) highest

-- n "lines completed" [L-29]
abbrev pub lines_counted : Counts → ℕ → Counts
lines_counted c n = record { lines = stopping c.lines n; errors = c.errors; updates = c.updates }

-- n "errors replied" [L-29]
abbrev pub errors_counted : Counts → ℕ → Counts
errors_counted c n = record { lines = c.lines; errors = stopping c.errors n; updates = c.updates }

-- n "updates sent" [L-29]
abbrev pub updates_counted : Counts → ℕ → Counts
updates_counted c n = record { lines = c.lines; errors = c.errors; updates = stopping c.updates n }

-- all three [L-29]
abbrev pub all_counted : Counts → ℕ → ℕ → ℕ → Counts
all_counted c lines errors updates =
    record { lines = stopping c.lines lines; errors = stopping c.errors errors; updates = stopping c.updates updates }
