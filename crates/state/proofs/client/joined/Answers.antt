-- `state::client::joined` meets its contract. Assumes nothing.
use borrow.Author.Rules.{rules}
use Rattle.state.specs.Clauses.Bare.{with_lines}
use Rattle.state.proofs.Joins.{joined_stays, joined_over, joined_on}
use Rattle.state.proofs.client.joined.Goals as goal

pub returns-then-overlong-c-ne0 : goal.returns-then-overlong-c-ne0
returns-then-overlong-c-ne0 c = search joined_stays

pub returns-then-size-bytes : goal.returns-then-size-bytes
returns-then-size-bytes c = joined_over (with_lines c.args.s c.args.lines.now) c.args.c c.args.bytes.now (search rules) c.requires.1.0 (search rules)

pub returns : goal.returns
returns c = joined_on (with_lines c.args.s c.args.lines.now) c.args.c c.args.bytes.now (search rules) c.requires.1.0 (search rules) c.put.ensures
