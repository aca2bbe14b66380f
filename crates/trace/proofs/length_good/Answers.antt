-- `trace::length_good` meets its contract: each arm is the test of its kinds. Assumes nothing.
use mathlib.Core.Logic.{inl, inr}
use Rattle.trace.specs.Trace.{length_good}
use Rattle.trace.proofs.length_good.Goals as goal

pub returns-in-Opening : goal.returns-in-Opening
unfolding length_good
returns-in-Opening c = elim c.in-Opening.is [ inl e ↦ simp e | inr e ↦ simp e ]

pub returns-in-Piece : goal.returns-in-Piece
unfolding length_good
returns-in-Piece c = elim c.in-Piece.is [ inl e ↦ simp e | inr e ↦ simp e ]

pub returns-in-Unreadable : goal.returns-in-Unreadable
unfolding length_good
returns-in-Unreadable c = simp c.in-Unreadable.is
