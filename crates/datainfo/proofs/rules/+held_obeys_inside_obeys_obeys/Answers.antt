use Prim.Native.Nat.{◌+◌, ◌-◌, ◌≤◌, ◌<◌}
use lib.ListN.{get_or}
use mathlib.Core.Path.{◌≡◌, refl}
use mathlib.Core.Bool.{true, false, not}
use native.Mathlib.Omega.{arith}
use Rattle.ascii.proofs.Bytes.{ended_within}
use Rattle.datainfo.proofs.Inside.{held_none, held_start, held_end, held_nameless, held_bad, held_cut, held_more, inside_cut, inside_array, inside_tuple, inside_struct, inside_partial, inside_none, obeys_fifth, obeys_none, obeys_bad, obeys_good}
use Rattle.datainfo.proofs.rules.+held_obeys_inside_obeys_obeys.Goals as goal

pub held_obeys-returns-then-s-at : goal.held_obeys-returns-then-s-at
held_obeys-returns-then-s-at t c = search held_none

pub held_obeys-loop-init : goal.held_obeys-loop-init
held_obeys-loop-init t c = let z : get_or c.args.s.now c.args.at 0 - 0 ≡ get_or c.args.s.now c.args.at 0 = omega arith in (omega arith, rw z (held_start c.args.s.now c.args.at c.args.levels c.args.k c.args.names (get_or c.args.s.now c.args.at 0) (omega arith) refl))

pub held_obeys-returns-in_default : goal.held_obeys-returns-in_default
held_obeys-returns-in_default t c = let h : 0 < get_or c.args.s.now c.args.at 0 - c.loop.counter = omega arith in search held_nameless

pub held_obeys-obeys-requires : goal.held_obeys-obeys-requires
held_obeys-obeys-requires t c = (omega arith, search ended_within)

pub held_obeys-returns-then-not-obeys : goal.held_obeys-returns-then-not-obeys
held_obeys-returns-then-not-obeys t c = let h : 0 < get_or c.args.s.now c.args.at 0 - c.loop.counter = omega arith in search held_bad

pub held_obeys-datainfo_end-requires : goal.held_obeys-datainfo_end-requires
held_obeys-datainfo_end-requires t c = search ended_within

pub held_obeys-returns-in_default-datainfo_end : goal.held_obeys-returns-in_default-datainfo_end
held_obeys-returns-in_default-datainfo_end t c = let h : 0 < get_or c.args.s.now c.args.at 0 - c.loop.counter = omega arith in search held_cut

pub held_obeys-loop-preserved : goal.held_obeys-loop-preserved
held_obeys-loop-preserved t c = let h : 0 < get_or c.args.s.now c.args.at 0 - c.loop.counter = omega arith in let e : get_or c.args.s.now c.args.at 0 - (c.loop.counter + 1) ≡ get_or c.args.s.now c.args.at 0 - c.loop.counter - 1 = omega arith in (search ended_within, rw e (search held_more))

pub held_obeys-returns : goal.held_obeys-returns
held_obeys-returns t c = let o : get_or c.args.s.now c.args.at 0 - c.loop.counter ≤ 0 = omega arith in search held_end

pub inside_obeys-returns-in_default-part_end : goal.inside_obeys-returns-in_default-part_end
inside_obeys-returns-in_default-part_end t c = search inside_cut

pub inside_obeys-obeys-requires : goal.inside_obeys-obeys-requires
inside_obeys-obeys-requires t c = (omega arith, search ended_within)

pub inside_obeys-returns-in-Some : goal.inside_obeys-returns-in-Some
inside_obeys-returns-in-Some t c = search inside_array

pub inside_obeys-held_obeys-requires : goal.inside_obeys-held_obeys-requires
inside_obeys-held_obeys-requires t c = (omega arith, omega arith)

pub inside_obeys-returns-in-7 : goal.inside_obeys-returns-in-7
inside_obeys-returns-in-7 t c = search inside_tuple

pub inside_obeys-held_obeys-requires-in-8 : goal.inside_obeys-held_obeys-requires-in-8
inside_obeys-held_obeys-requires-in-8 t c = (omega arith, omega arith)

pub inside_obeys-returns-in-8 : goal.inside_obeys-returns-in-8
inside_obeys-returns-in-8 t c = search inside_struct

pub inside_obeys-held_obeys-requires-in-11 : goal.inside_obeys-held_obeys-requires-in-11
inside_obeys-held_obeys-requires-in-11 t c = (omega arith, omega arith)

pub inside_obeys-returns-in-11 : goal.inside_obeys-returns-in-11
inside_obeys-returns-in-11 t c = search inside_partial

pub inside_obeys-returns-in_default : goal.inside_obeys-returns-in_default
inside_obeys-returns-in_default t c = search inside_none

pub obeys-returns-then-levels-eq0 : goal.obeys-returns-then-levels-eq0
obeys-returns-then-levels-eq0 t c = search obeys_fifth

pub obeys-returns-then-s-at : goal.obeys-returns-then-s-at
obeys-returns-then-s-at t c = search obeys_none

pub obeys-returns-else-own_obeys : goal.obeys-returns-else-own_obeys
obeys-returns-else-own_obeys t c = let n : not c.own_obeys.result ≡ true = rw c.if-own_obeys.false refl in rw c.if-own_obeys.false (search obeys_bad)

pub obeys-inside_obeys-requires : goal.obeys-inside_obeys-requires
obeys-inside_obeys-requires t c = (omega arith, omega arith)

pub obeys-returns-then-own_obeys : goal.obeys-returns-then-own_obeys
obeys-returns-then-own_obeys t c = let n : not c.own_obeys.result ≡ false = rw c.if-own_obeys.true refl in search obeys_good
