use Prim.Native.Nat.{◌+◌, ◌-◌, ◌≤◌, ◌<◌}
use mathlib.Core.Path.{◌≡◌}
use Rattle.ascii.proofs.Bytes.{ended_within}
use borrow.Author.Rules.{sfits_of}
use native.Mathlib.Omega.{arith}
use Rattle.decimal.proofs.Values.{roomy}
use Rattle.datainfo.proofs.Own.{unsigned_within, signed_within}
use Rattle.fit.proofs.Asked.{was_none, was_some}
use Rattle.fit.proofs.Figures.{members_short, members_first, members_over, members_nameless, members_cut, members_found, members_more}
use Rattle.fit.proofs.fit.member_fit.Goals as goal

pub returns-in_err-members : goal.returns-in_err-members
returns-in_err-members c = search (members_short, was_none c.ok_or.ensures.value c.in_err-members.was)

pub loop-init : goal.loop-init
loop-init c = let z : c.in_ok-members.members - 0 ≡ c.in_ok-members.members = omega arith in (search (unsigned_within, was_some c.ok_or.ensures.value c.in_ok-members.was), rw z (search (members_first, was_some c.ok_or.ensures.value c.in_ok-members.was)))

pub returns-in_err-n : goal.returns-in_err-n
returns-in_err-n c = let h : 0 < c.in_ok-members.members - c.loop.counter = omega arith in search (members_nameless, was_none c.ok_or-in-loop.ensures.value c.in_err-n.was)

pub signed-requires : goal.signed-requires
signed-requires c = (search (ended_within, was_some c.ok_or-in-loop.ensures.value c.in_ok-n.was), omega arith)

pub returns-in_err-value : goal.returns-in_err-value
returns-in_err-value c = let h : 0 < c.in_ok-members.members - c.loop.counter = omega arith in search (members_cut, was_some c.ok_or-in-loop.ensures.value c.in_ok-n.was, was_none c.ok_or-in-loop-2.ensures.value c.in_err-value.was)

pub lies_between-requires : goal.lies_between-requires
lies_between-requires c = search roomy

pub returns-then-lies_between : goal.returns-then-lies_between
returns-then-lies_between c = let h : 0 < c.in_ok-members.members - c.loop.counter = omega arith in search (members_found, sfits_of, was_some c.ok_or-in-loop.ensures.value c.in_ok-n.was, was_some c.ok_or-in-loop-2.ensures.value c.in_ok-value.was)

pub loop-preserved : goal.loop-preserved
loop-preserved c = let h : 0 < c.in_ok-members.members - c.loop.counter = omega arith in let e : c.in_ok-members.members - (c.loop.counter + 1) ≡ c.in_ok-members.members - c.loop.counter - 1 = omega arith in (search (signed_within, was_some c.ok_or-in-loop-2.ensures.value c.in_ok-value.was), rw e (search (members_more, sfits_of, was_some c.ok_or-in-loop.ensures.value c.in_ok-n.was, was_some c.ok_or-in-loop-2.ensures.value c.in_ok-value.was)))

pub returns : goal.returns
returns c = let z : c.in_ok-members.members - c.loop.counter ≤ 0 = omega arith in search members_over
