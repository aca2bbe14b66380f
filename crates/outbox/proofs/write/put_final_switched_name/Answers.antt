-- `outbox::write::put_final_switched_name` meets its contract. Assumes nothing.
use native.Mathlib.Omega.{arith}
use mathlib.Core.Path.{ap, ◌∙◌}
use lib.ListN.{length}
use Rattle.ascii.specs.Text.{bytes}
use Rattle.std.specs.Prelude.{Some}
use Rattle.outbox.proofs.Written.{line_of, final_0, final_1, final_2, final_3, final_all, word_names}
use Rattle.outbox.proofs.write.put_final_switched_name.Goals as goal

pub word_name_length-size-requires : goal.word_name_length-size-requires
unfolding bytes
word_name_length-size-requires c =
    let w = c.switched_word-word.ensures (Some c.args.name.now) in
    word_names _ _ _ _ _ _ (rw (← w) at (line_of _ _ _ _ c.requires))

pub overflow_add-size : goal.overflow_add-size
overflow_add-size c =
    let w = c.switched_word-word.ensures (Some c.args.name.now) in
    omega (arith, final_0 _ _ _ _ _ (c.word_name_length-size.ensures ∙ ap length w) c.requires)

pub put_header-line-requires : goal.put_header-line-requires
unfolding bytes
put_header-line-requires c =
    let e = c.word_name_length-size.ensures ∙ ap length (c.switched_word-word.ensures (Some c.args.name.now)) in
    (final_1 _ _ _ _ _ e c.requires, final_0 _ _ _ _ _ e c.requires)

pub put_word_name-end-requires : goal.put_word_name-end-requires
unfolding bytes
put_word_name-end-requires c =
    let w = c.switched_word-word.ensures (Some c.args.name.now) in
    rw w (final_2 _ _ _ _ _ (c.word_name_length-size.ensures ∙ ap length w) c.requires _ _ c.put_header-line.ensures)

pub put_byte-requires : goal.put_byte-requires
unfolding bytes
put_byte-requires c =
    let w = c.switched_word-word.ensures (Some c.args.name.now) in
    final_3 _ _ _ _ _ (c.word_name_length-size.ensures ∙ ap length w) c.requires _ _ c.put_header-line.ensures _ _ (rw w at c.put_word_name-end.ensures)

pub returns : goal.returns
unfolding bytes
returns c =
    let w = c.switched_word-word.ensures (Some c.args.name.now) in
    final_all _ _ _ _ _ (c.word_name_length-size.ensures ∙ ap length w) _ _ _ _ _ _ c.put_header-line.ensures (rw w at c.put_word_name-end.ensures) c.put_byte.ensures
