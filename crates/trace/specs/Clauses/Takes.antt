-- What the code that reads a trace answers. Assumes nothing.
use Rattle.std.specs.Prelude.{ℕ, ◌+◌, ◌≤◌, false, List, [], ◌∷◌, ◌≡◌, length, take, drop, Option, Some, None}
use Rattle.trace.specs.declared.Kind.{Kind}
use Rattle.trace.specs.declared.Head.{Head}
use Rattle.trace.specs.declared.Found.{Found}
use Rattle.trace.specs.declared.Found.TheVariants.{More, Wrong, Whole}
use Rattle.trace.specs.declared.Reader.{Reader}
use Rattle.trace.specs.declared.Taken.{Taken}
use Rattle.trace.specs.Trace.{Entry, Judged, more, wrong, whole, judge}
use Rattle.trace.specs.Reader.{Progress, take_bytes}

abbrev pub marked_as : Option Kind → Option Kind
marked_as (Some k) = Some k
marked_as None = None

-- the record of this head that stands at the front of the bytes
abbrev pub entry_in : Head → List ℕ → Entry
entry_in h xs = record { kind = h.kind; number = h.number; time = h.time; offered = take h.size (drop 13 xs) }

abbrev pub judged_as : Found → List ℕ → Judged
judged_as More xs = more
judged_as Wrong xs = wrong
judged_as (Whole h) xs = whole (entry_in h xs)

-- what the bytes xs of a record come to; of a whole record they are all there
abbrev pub Within : Found → ℕ → Type 0
Within More n = Unit {0}
Within Wrong n = Unit {0}
Within (Whole h) n = 13 + h.size ≤ n

pub record Judges (xs : List ℕ) (r : Found) : Type 0 where
  pub is : judged_as r xs ≡ judge xs
  pub within : Within r (length xs)

-- the records that were found to be whole
abbrev pub entries_in : Found → List ℕ → List Entry
entries_in More xs = []
entries_in Wrong xs = []
entries_in (Whole h) xs = entry_in h xs ∷ []

-- what a reader stands for
abbrev pub progress_of : Reader → Progress
progress_of r = record { held = take r.size r.held; offset = r.offset; stopped = r.stopped }

-- what is held is a record that has begun: it is neither whole nor wrong
pub record Begun (r : Reader) : Type 0 where
  pub is : r.stopped ≡ false → judge (progress_of r).held ≡ more

-- of these bytes all were used, or those up to the end of a record, whose bytes are still held
abbrev pub Used : Found → ℕ → ℕ → Type 0
Used More used size = used ≡ size
Used Wrong used size = used ≡ size
Used (Whole h) used size = (1 ≤ used) × ((used ≤ size) × (13 + h.size ≤ 4109))

-- the bytes that were used are read as the definition says
pub record Takes (before : Reader) (bs : List ℕ) (r : Taken) : Type 0 where
  pub used : Used r.found r.used (length bs)
  pub is : take_bytes (progress_of before) (take r.used bs) ≡ (progress_of r.reader, entries_in r.found r.reader.held)
  pub begun : Begun r.reader
