-- Every history after an accepted start: the node stays sound, and each call's records are well formed and short. Assumes nothing.
use Prim.Native.Nat.{ℕ}
use mathlib.Core.List.{List, [], ◌∷◌}
use mathlib.Core.Path.{◌≡◌}
use Rattle.table.specs.Layout.{table_of}
use Rattle.report.proofs.Faults.{first_fault_none}
use Rattle.plain.specs.Node.{Node, begin}
use Rattle.plain.specs.Calls.{Call, start_number}
use Rattle.plain.specs.History.{step, answers, finish}
use Rattle.sound.specs.Theorems.{Sound, AllShort, AllAnswersWellFormed, AlwaysSound, WritesAreShort, WritesAreWellFormed, CallsKeepSound}
use Rattle.sound.proofs.Accepted.{Accepted, accepted, time_low}
use Rattle.sound.proofs.Held.{begun}
use Rattle.sound.proofs.Steps.{stepped}

-- what holds of a history from the node n on
record Runs (table : List ℕ) (n : Node) (h : List Call) : Type 0 where
  sound : Sound (table_of table) (finish table n h)
  short : AllShort (answers table n h)
  formed : AllAnswersWellFormed (answers table n h)

module _ (table : List ℕ) where
  runs : Accepted (table_of table) → (h : List Call) (n : Node) → Sound (table_of table) n → Runs table n h
  unfolding finish answers
  runs a [] n s = record { sound = s; short = tt; formed = tt }
  runs a (e ∷ h) n s =
      let k = stepped table a n s e in
      let r = runs a h (step table n e).0 k.sound in
      record { sound = r.sound; short = (k.written.short, r.short); formed = (k.written.formed, r.formed) }

  started : (area time : ℕ) → start_number table area time ≡ 0 → (h : List Call) → Runs table (begin (table_of table) time) h
  unfolding start_number
  started area time z h =
      let a = accepted table (first_fault_none _ z 0) in
      runs a h (begin (table_of table) time)
      (begun (table_of table) a time (time_low time (first_fault_none _ z 2)))

pub always_sound : AlwaysSound
always_sound table area time z h = (started table area time z h).sound

pub writes_are_short : WritesAreShort
writes_are_short table area time z h = (started table area time z h).short

pub writes_are_well_formed : WritesAreWellFormed
writes_are_well_formed table area time z h = (started table area time z h).formed

pub calls_keep_sound : CallsKeepSound
calls_keep_sound table z n s e =
    let k = stepped table (accepted table z) n s e in
    record { sound = k.sound; short = k.written.short; formed = k.written.formed }
