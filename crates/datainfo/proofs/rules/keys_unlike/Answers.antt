use native.Mathlib.Omega.{arith}
use Prim.Native.Nat.{◌+◌}
use Rattle.datainfo.proofs.Keys.{positions_later, keys_bad, keys_repeated, keys_more, keys_end}
use Rattle.datainfo.proofs.rules.keys_unlike.Goals as goal

pub key_good-requires : goal.key_good-requires
key_good-requires c = c.requires _

pub returns-then-not-key_good : goal.returns-then-not-key_good
returns-then-not-key_good c = search keys_bad

pub is_repeated-requires : goal.is_repeated-requires
is_repeated-requires c = (c.requires _, positions_later c.args.s.now c.args.from.now (c.loop-j.j + 1) c.requires)

pub returns-then-is_repeated : goal.returns-then-is_repeated
returns-then-is_repeated c = search keys_repeated

pub loop-j-preserved : goal.loop-j-preserved
loop-j-preserved c = (omega arith, search keys_more)

pub returns : goal.returns
returns c = search keys_end
