-- `json_text::read::word_end` meets its contract. Assumes nothing.
use Rattle.json_text.proofs.Strings.{word_there, word_other}
use Rattle.json_text.proofs.read.word_end.Goals as goal

pub returns-then-starts_with : goal.returns-then-starts_with
returns-then-starts_with c =
    let word = c.starts_with.ensures in
    word_there c.args.s.now c.args.at c.args.w.now word.value c.if-starts_with.true (word.bound c.if-starts_with.true) c.requires

pub returns-else-starts_with : goal.returns-else-starts_with
returns-else-starts_with c = word_other c.args.s.now c.args.at c.args.w.now c.starts_with.ensures.value c.if-starts_with.false
