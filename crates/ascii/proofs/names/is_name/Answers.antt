-- `ascii::names::is_name` meets its contract. Assumes nothing.
use Rattle.std.proofs.Common.{◌∙◌, sym, ap, rules, tests, not}
use Rattle.std.proofs.lemmas.Bool.{true≢false}
use Rattle.std.proofs.lemmas.Iterator.{YieldsList-from_slice}
use Rattle.std.proofs.lemmas.Iterator.Search.{all_from_yields_List}
use borrow.Author.Tests.{le-leb, lt-leb}
use Rattle.ascii.specs.Bytes.{head, is_in}
use Rattle.ascii.specs.Names.{is_name, is_name_byte}
use Rattle.ascii.proofs.Walk.{all_is}
use Rattle.ascii.proofs.names.is_name.Goals as goal
use Rattle.ascii.proofs.names.is_name.Goals.{then-s-le-NAME, else-s-le-NAME}

pub returns-in-empty : goal.returns-in-empty
unfolding is_name
returns-in-empty c = simp (lt-leb _ _ c.in-empty.len_below)

pub returns-then-not-is_ascii_digit : goal.returns-then-not-is_ascii_digit
unfolding is_name head is_in
returns-then-not-is_ascii_digit c = let s = c.args.s.now in
    let named = all_from_yields_List is_name_byte _ _ c.all.result c.all.ensures.ran (YieldsList-from_slice s cc) (λ x b q k. search (rules, tests)) ∙ all_is is_name_byte s in
    elim c.if-s-le-NAME.branch [
      | then-s-le-NAME w ↦
          let other = ap not (sym w.is_ascii_digit.ensures.value) ∙ sym w.value-is ∙ c.if-not-is_ascii_digit.true in
          simp (le-leb _ _ c.in-len1-up.len_at_least, le-leb _ _ w.if-s-le-NAME.true, other) named
      | else-s-le-NAME w ↦ absurd (true≢false (sym c.if-not-is_ascii_digit.true ∙ w.value-is ∙ lt-leb _ _ w.if-s-le-NAME.false))
    ]

pub returns-else-not-is_ascii_digit : goal.returns-else-not-is_ascii_digit
unfolding is_name head is_in
returns-else-not-is_ascii_digit c =
    elim c.if-s-le-NAME.branch [
      | then-s-le-NAME w ↦ simp
          (le-leb _ _ c.in-len1-up.len_at_least, le-leb _ _ w.if-s-le-NAME.true, ap not (sym w.is_ascii_digit.ensures.value) ∙ sym w.value-is ∙ c.if-not-is_ascii_digit.false) c.if-not-is_ascii_digit.false
      | else-s-le-NAME w ↦ w.value-is ∙ simp (le-leb _ _ c.in-len1-up.len_at_least, lt-leb _ _ w.if-s-le-NAME.false)
    ]
