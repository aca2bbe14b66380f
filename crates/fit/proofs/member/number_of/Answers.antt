use Prim.Native.Nat.{◌+◌, ◌-◌, ◌≤◌, ◌<◌}
use mathlib.Core.Path.{◌≡◌}
use mir.Syntax.{w64}
use mir.Facts.{to_z-of_z}
use borrow.Author.Rules.{sfits_of}
use native.Mathlib.Omega.{arith}
use Rattle.ascii.proofs.Bytes.{ended_within}
use Rattle.datainfo.proofs.Own.{unsigned_within, signed_within}
use Rattle.fit.proofs.Choices.{number_short, number_first, number_over, number_nameless, number_cut, number_hit, number_more}
use Rattle.fit.proofs.member.number_of.Goals as goal

pub unsigned-requires : goal.unsigned-requires
unsigned-requires c = (omega arith, omega arith)

pub returns-in_err-count : goal.returns-in_err-count
returns-in_err-count c = search (number_short, c.in_err-count.was)

pub loop-init : goal.loop-init
loop-init c = let z : c.in_ok-count.count - 0 ≡ c.in_ok-count.count = omega arith in (search (unsigned_within, c.in_ok-count.was), rw z (search (number_first, c.in_ok-count.was)))

pub returns-in_err-n : goal.returns-in_err-n
returns-in_err-n c = let h : 0 < c.in_ok-count.count - c.loop.counter = omega arith in search (number_nameless, c.in_err-n.was)

pub signed-requires : goal.signed-requires
signed-requires c = (search (ended_within, c.in_ok-n.was), omega arith)

pub returns-in_err-number : goal.returns-in_err-number
returns-in_err-number c = let h : 0 < c.in_ok-count.count - c.loop.counter = omega arith in search (number_cut, c.in_ok-n.was, c.in_err-number.was)

pub returns-then-same : goal.returns-then-same
returns-then-same c = let h : 0 < c.in_ok-count.count - c.loop.counter = omega arith in
    rw (to_z-of_z {w = w64} {z = c.in_ok-number.number} (search sfits_of)) (search (number_hit, c.in_ok-n.was, c.in_ok-number.was))

pub loop-preserved : goal.loop-preserved
loop-preserved c =
    let h : 0 < c.in_ok-count.count - c.loop.counter = omega arith in
    let e : c.in_ok-count.count - (c.loop.counter + 1) ≡ c.in_ok-count.count - c.loop.counter - 1 = omega arith in
    (search (signed_within, c.in_ok-number.was), rw e (search (number_more, c.in_ok-n.was, c.in_ok-number.was)))

pub returns : goal.returns
returns c = let h : c.in_ok-count.count - c.loop.counter ≤ 0 = omega arith in search number_over
