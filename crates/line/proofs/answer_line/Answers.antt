-- `line::answer_line` meets its contract. Assumes nothing.
use native.Mathlib.Omega.{arith}
use mathlib.Core.Path.{subst}
use mathlib.Core.List.{[]}
use Rattle.message.specs.Clauses.Parsed.{Parses}
use Rattle.line.proofs.Carried.{error_room}
use Rattle.line.proofs.Answers.{bad_replied}
use Rattle.line.proofs.answer_line.Goals as goal

pub put_final_error-written-requires : goal.put_final_error-written-requires
put_final_error-written-requires c = error_room c.args.out.now c.args.client c.requires.0.lent.room [] [] _ (omega arith) (omega arith)

pub returns-in_default : goal.returns-in_default
returns-in_default c = search bad_replied

pub reply_parts-requires : goal.reply_parts-requires
reply_parts-requires c = (c.requires.0, (c.requires.1.0, (c.requires.1.1, subst (Parses c.args.line.now) c.in-Some.is c.part_line.ensures)))
