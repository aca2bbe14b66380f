-- The contracts that the check generates from src/ promise what runs of calls are made of: `Reads.Post` of a function is what its `ensures`
-- says, as the logic reads it, and `Reads.Pre` what it asks of its caller. Where a contract and the runs of demand 3 drift apart, this file
-- is refused. Assumes nothing.
use denote.Triple.Clauses.{AtExit}
use denote.Triple.Entry.{Args}
use seplogic.Ra.Ura.{Ura}
use base.Logic.{SProp}
use prog.Memory.{Memory}
use prog.Routine.{Routine}
use types.Logic.{Logic}
use contract.Lifetimes.{Lfts}
use contract.Monad.{Fun, fact}
use borrow.Fn.Kinds.{Dens, res_t, ended_of}
use mathlib.Core.List.{[]}
use mathlib.Core.Path.{◌≡◌, refl}
use lib.ListN.{length}
use Rattle.plain.specs.Calls.{Open, Close, Piece, Reading, Unreadable, with_area, with_outbox, beside}
use Rattle.promise.specs.Promise.{Begins}
use Rattle.lists.specs.Histories.{list}
use Rattle.promise.specs.declared.Listed.{Listed}
use Rattle.promise.specs.Listed.{listing, KeptList}
use Rattle.promise.specs.Run.{kit, hears, Called, by_open, by_close, by_piece, by_reading, by_unreadable, notices, Acted, by_readings}
use Rattle.node.specs.contracts.list.jihfasul_readings as readings
use Rattle.node.proofs.start.jihfasul_start.Kinds as start-kinds
use Rattle.node.proofs.start.jihfasul_start.Reads as start-reads
use Rattle.node.proofs.clients.jihfasul_open.Kinds as open-kinds
use Rattle.node.proofs.clients.jihfasul_open.Reads as open-reads
use Rattle.node.proofs.clients.jihfasul_close.Kinds as close-kinds
use Rattle.node.proofs.clients.jihfasul_close.Reads as close-reads
use Rattle.node.proofs.pieces.jihfasul_piece.Kinds as piece-kinds
use Rattle.node.proofs.pieces.jihfasul_piece.Reads as piece_reads
use Rattle.node.proofs.readings.jihfasul_reading.Kinds as reading-kinds
use Rattle.node.proofs.readings.jihfasul_reading.Reads as reading-reads
use Rattle.node.proofs.unreadable.jihfasul_unreadable.Kinds as unreadable-kinds
use Rattle.node.proofs.unreadable.jihfasul_unreadable.Reads as unreadable-reads

-- ## Table and values area are lent

module _ (κs : Lfts 2) where
  start_asks_nothing : (a : Dens κs start-kinds.ps) → start-reads.Pre κs a
  start_asks_nothing a = tt

  start_begins : (a : Dens κs start-kinds.ps) (r : (res_t start-kinds.r κs).Denot) (x : AtExit (ended_of 2 start-kinds.ps start-kinds.r) κs)
      → start-reads.Post κs a r x → Begins a.0.now a.1.0.now a.1.1.0 r
  start_begins a r x k = k

-- ## An index is lent, too

module _ (κs : Lfts 3) where
  open_asks_nothing : (a : Dens κs open-kinds.ps) → open-reads.Pre κs a
  open_asks_nothing a = tt

  open_called : (a : Dens κs open-kinds.ps) (r : (res_t open-kinds.r κs).Denot) (x : AtExit (ended_of 3 open-kinds.ps open-kinds.r) κs)
      → open-reads.Post κs a r x
      → Called
      a.0.now
      (kit a.1.1.0 a.1.0.now)
      (beside a.1.1.1.1.1.0.now (with_area (Open a.1.1.1.0 a.1.1.1.1.0) (length a.1.0.now)))
      (kit r.state a.1.0.now)
      (hears r [])
  open_called a r x k = by_open a.1.1.0 a.1.0.now a.1.1.1.1.1.0.now a.1.1.1.0 a.1.1.1.1.0 r k

  close_asks_nothing : (a : Dens κs close-kinds.ps) → close-reads.Pre κs a
  close_asks_nothing a = tt

  close_called : (a : Dens κs close-kinds.ps) (r : (res_t close-kinds.r κs).Denot) (x : AtExit (ended_of 3 close-kinds.ps close-kinds.r) κs)
      → close-reads.Post κs a r x
      → Called
      a.0.now
      (kit a.1.1.0 a.1.0.now)
      (beside a.1.1.1.1.1.0.now (with_area (Close a.1.1.1.0 a.1.1.1.1.0) (length a.1.0.now)))
      (kit r.state a.1.0.now)
      (hears r [])
  close_called a r x k = by_close a.1.1.0 a.1.0.now a.1.1.1.1.1.0.now a.1.1.1.0 a.1.1.1.1.0 r k

-- ## Outbox and bytes are lent, too

module _ (κs : Lfts 5) where
  piece_asks_nothing : (a : Dens κs piece-kinds.ps) → piece_reads.Pre κs a
  piece_asks_nothing a = tt

  piece_called : (a : Dens κs piece-kinds.ps) (r : (res_t piece-kinds.r κs).Denot) (x : AtExit (ended_of 5 piece-kinds.ps piece-kinds.r) κs)
      → piece_reads.Post κs a r x
      → Called
      a.0.now
      (kit a.1.1.1.0 a.1.0.now)
      (beside a.1.1.1.1.1.1.1.0.now
      (with_outbox (Piece a.1.1.1.1.0 a.1.1.1.1.1.1.0.now a.1.1.1.1.1.0) (length a.1.0.now) (length a.1.1.0.now)))
      (kit r.state x.1.0.now)
      (hears r x.1.1.0.now)
  piece_called a r x k =
      by_piece a.1.1.1.0 a.1.0.now a.1.1.0.now a.1.1.1.1.1.1.1.0.now a.1.1.1.1.0 a.1.1.1.1.1.1.0.now a.1.1.1.1.1.0 r x.1.0.now x.1.1.0.now k

  reading_asks_nothing : (a : Dens κs reading-kinds.ps) → reading-reads.Pre κs a
  reading_asks_nothing a = tt

  reading_called : (a : Dens κs reading-kinds.ps) (r : (res_t reading-kinds.r κs).Denot) (x : AtExit (ended_of 5 reading-kinds.ps reading-kinds.r) κs)
      → reading-reads.Post κs a r x
      → Called
      a.0.now
      (kit a.1.1.1.0 a.1.0.now)
      (beside a.1.1.1.1.1.1.1.0.now
      (with_outbox (Reading a.1.1.1.1.0 a.1.1.1.1.1.1.0.now a.1.1.1.1.1.0) (length a.1.0.now) (length a.1.1.0.now)))
      (kit r.state x.1.0.now)
      (hears r x.1.1.0.now)
  reading_called a r x k =
      by_reading a.1.1.1.0 a.1.0.now a.1.1.0.now a.1.1.1.1.1.1.1.0.now a.1.1.1.1.0 a.1.1.1.1.1.1.0.now a.1.1.1.1.1.0 r x.1.0.now x.1.1.0.now k

-- ## An outbox is lent, too, and no bytes

module _ (κs : Lfts 4) where
  unreadable_asks_nothing : (a : Dens κs unreadable-kinds.ps) → unreadable-reads.Pre κs a
  unreadable_asks_nothing a = tt

  unreadable_called : (a : Dens κs unreadable-kinds.ps) (r : (res_t unreadable-kinds.r κs).Denot) (x : AtExit (ended_of 4 unreadable-kinds.ps unreadable-kinds.r) κs)
      → unreadable-reads.Post κs a r x
      → Called
      a.0.now
      (kit a.1.1.1.0 a.1.0.now)
      (beside a.1.1.1.1.1.1.1.0.now
      (with_outbox (Unreadable a.1.1.1.1.0 a.1.1.1.1.1.1.0 a.1.1.1.1.1.0) (length a.1.0.now) (length a.1.1.0.now)))
      (kit r.state a.1.0.now)
      (hears r x.1.1.0.now)
  unreadable_called a r x k =
      by_unreadable a.1.1.1.0 a.1.0.now a.1.1.0.now a.1.1.1.1.1.1.1.0.now a.1.1.1.1.0 a.1.1.1.1.1.1.0 a.1.1.1.1.1.0 r x.1.1.0.now k

-- ## A list of structs is lent, too

-- the function for lists is walked by hand, so its contract is read as the walk reads it: what it ensures is that the list's promise is kept
module _ {M : Type 1} {𝓤 : Ura M} (𝓛 : Logic 𝓤) (at_mem : Memory → SProp 𝓤) (run : Routine → Fun 𝓤) (κs : Lfts 6) (a : Args readings.signature κs) where
  readings_ensures : (g : (readings.clauses 𝓛 at_mem run κs a).ghost) (r : Listed) (x : AtExit readings.ended κs)
      → (readings.clauses 𝓛 at_mem run κs a).ensures g r x
      ≡ fact 𝓤 (KeptList a.0.now
      (listing a.1.1.1.1.0.now a.1.1.1.1.1.0.now a.1.0.now a.1.1.0.now a.1.1.1.1.1.1.0.now)
      a.1.1.1.0 a.1.0.now a.1.1.0.now r x.1.0.now x.1.1.0.now)
  readings_ensures g r x = refl

  readings_acted : (r : Listed) (x : AtExit readings.ended κs)
      → KeptList a.0.now
      (listing a.1.1.1.1.0.now a.1.1.1.1.1.0.now a.1.0.now a.1.1.0.now a.1.1.1.1.1.1.0.now)
      a.1.1.1.0 a.1.0.now a.1.1.0.now r x.1.0.now x.1.1.0.now
      → Acted
      a.0.now
      (kit a.1.1.1.0 a.1.0.now)
      (list (listing a.1.1.1.1.0.now a.1.1.1.1.1.0.now a.1.0.now a.1.1.0.now a.1.1.1.1.1.1.0.now))
      (kit r.state x.1.0.now)
      (notices r x.1.1.0.now)
  readings_acted r x k =
      by_readings a.1.1.1.0 a.1.0.now a.1.1.0.now a.1.1.1.1.0.now a.1.1.1.1.1.0.now a.1.1.1.1.1.1.0.now r
      x.1.0.now x.1.1.0.now k
