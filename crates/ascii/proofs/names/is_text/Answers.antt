-- `ascii::names::is_text` meets its contract. Assumes nothing.
use Rattle.std.proofs.Common.{◌∙◌, rules, tests}
use Rattle.std.proofs.lemmas.Iterator.{YieldsList-from_slice}
use Rattle.std.proofs.lemmas.Iterator.Search.{all_from_yields_List}
use Rattle.ascii.specs.Names.{is_text, is_text_byte}
use Rattle.ascii.proofs.Walk.{all_is}
use Rattle.ascii.proofs.names.is_text.Goals as goal

pub returns : goal.returns
unfolding is_text
returns c = let s = c.args.s.now in
    all_from_yields_List is_text_byte _ _ c.all.result c.all.ensures.ran (YieldsList-from_slice s cc) (λ x b q k. search (rules, tests)) ∙ all_is is_text_byte s
