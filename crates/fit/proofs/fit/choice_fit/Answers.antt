-- `fit::fit::choice_fit` meets its contract: a name is known by its first byte, a number by where its token ends. Assumes nothing.
use Prim.Native.Nat.{◌≤◌}
use native.Mathlib.Omega.{arith}
use lib.ListN.{length}
use Rattle.ascii.proofs.Bytes.{ended_within}
use Rattle.std.proofs.lemmas.Result.{err_from_is_err_and}
use Rattle.fit.proofs.Asked.{was_none, was_some, was_wrong}
use Rattle.fit.proofs.Figures.{number_room, number_token}
use Rattle.fit.proofs.Choices.{choice_named, choice_none}
use Rattle.fit.proofs.fit.choice_fit.Goals as goal

pub returns-then-byte-eq34 : goal.returns-then-byte-eq34
returns-then-byte-eq34 c = search choice_named

pub returns-in_err-e : goal.returns-in_err-e
returns-in_err-e c = let p = err_from_is_err_and c.from_residual.result c.from_residual.ensures.1 in rw (p.1, p.2, was_wrong _ c.ok_or.ensures.value c.in_err-e.was) (search (choice_none, was_none c.ok_or.ensures.value c.in_err-e.was))

pub slice_bounds-enum_fit-count : goal.slice_bounds-enum_fit-count
slice_bounds-enum_fit-count c = search (number_room, was_some c.ok_or.ensures.value c.in_ok-e.was)

pub slice_bounds-enum_fit-start : goal.slice_bounds-enum_fit-start
slice_bounds-enum_fit-start c = let h : c.args.p ≤ c.in_ok-e.e = search (number_room, was_some c.ok_or.ensures.value c.in_ok-e.was) in omega arith

pub slice_bounds-enum_fit-end : goal.slice_bounds-enum_fit-end
slice_bounds-enum_fit-end c = let h : c.args.p ≤ c.in_ok-e.e = search (number_room, was_some c.ok_or.ensures.value c.in_ok-e.was) in let g : c.in_ok-e.e ≤ length c.args.v.now = search (ended_within, was_some c.ok_or.ensures.value c.in_ok-e.was) in omega arith

pub returns : goal.returns
returns c = search (number_token, was_some c.ok_or.ensures.value c.in_ok-e.was)
