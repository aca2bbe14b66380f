-- `line::reply_parts` meets its contract. Assumes nothing.
use Rattle.line.proofs.Seeks.{found_located}
use Rattle.line.proofs.Answers.{parts_replied}
use borrow.Author.Rules.{rules}
use Rattle.line.proofs.reply_parts.Goals as goal

pub answer_parts-answered-requires : goal.answer_parts-answered-requires
answer_parts-answered-requires c = (search rules, (search rules, (search rules, (search rules, (search rules, search found_located)))))

pub returns : goal.returns
returns c = let given = c.requires in
    search (parts_replied, given)
