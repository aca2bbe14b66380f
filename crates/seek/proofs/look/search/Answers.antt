-- `seek::look::search` meets its contract. Assumes nothing.
use Rattle.seek.proofs.Seeking.{start_fits, search_looked, search_walked, search_fits}
use borrow.Author.Rules.{rules}
use Rattle.seek.proofs.look.search.Goals as goal

pub look-looked-requires : goal.look-looked-requires
look-looked-requires c = (search rules, (search rules, search start_fits))

pub returns-in-Some : goal.returns-in-Some
returns-in-Some c = search search_looked

pub overflow_add-result : goal.overflow_add-result
overflow_add-result c = search search_fits

pub returns : goal.returns
returns c = search search_walked
