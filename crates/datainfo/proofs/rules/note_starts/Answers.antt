use borrow.Author.Rules.{rules}
use native.Mathlib.Omega.{arith}
use mathlib.Core.Path.{refl}
use lib.ListN.{length-set}
use Rattle.datainfo.proofs.Keys.{noting_start, noted_last, noted_more, noted_full}
use Rattle.datainfo.proofs.rules.note_starts.Goals as goal

pub loop-m-init : goal.loop-m-init
loop-m-init c = (refl, noting_start _ _ _ _ _ _ (search rules) (omega arith) c.requires.1.1.1)

pub shape_of-notes-in_default : goal.shape_of-notes-in_default
shape_of-notes-in_default c = simp length-set c.loop-m.invariant.0

pub returns-in_default : goal.returns-in_default
returns-in_default c = search noted_last

pub loop-m-preserved : goal.loop-m-preserved
loop-m-preserved c = (simp length-set c.loop-m.invariant.0, search noted_more)

pub shape_of-notes : goal.shape_of-notes
shape_of-notes c = c.loop-m.invariant.0

pub returns : goal.returns
returns c = search noted_full
