-- `rule::one_reply_for_each_line` promises the theorem of `Replies`. Assumes nothing.
use mathlib.Core.Path.{refl}
use Rattle.rule.proofs.Replies.{one_reply_for_each_line}
use Rattle.rule.proofs.one_reply_for_each_line.Goals as goal

pub returns : goal.returns
returns c = (refl, one_reply_for_each_line)
