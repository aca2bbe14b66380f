-- `outbox::write::put_final_switched` meets its contract. Assumes nothing.
use mathlib.Core.Path.{ap}
use lib.ListN.{length}
use Rattle.ascii.specs.Text.{bytes}
use Rattle.std.specs.Prelude.{None}
use Rattle.message.specs.Reply.{optionally}
use Rattle.outbox.proofs.Written.{final_0, final_1, final_2, final_3, final_all}
use Rattle.outbox.proofs.write.put_final_switched.Goals as goal

pub put_header-line-requires : goal.put_header-line-requires
unfolding bytes optionally
put_header-line-requires c =
    let e = ap length (c.switched_word-word.ensures None) in
    (final_1 _ _ _ _ _ e c.requires, final_0 _ _ _ _ _ e c.requires)

pub put_word-end-requires : goal.put_word-end-requires
unfolding bytes optionally
put_word-end-requires c =
    let w = c.switched_word-word.ensures None in
    rw w (final_2 _ _ _ _ _ (ap length w) c.requires _ _ c.put_header-line.ensures)

pub put_byte-requires : goal.put_byte-requires
unfolding bytes optionally
put_byte-requires c =
    let w = c.switched_word-word.ensures None in
    final_3 _ _ _ _ _ (ap length w) c.requires _ _ c.put_header-line.ensures _ _ (rw w at c.put_word-end.ensures)

pub returns : goal.returns
unfolding bytes optionally
returns c =
    let w = c.switched_word-word.ensures None in
    final_all _ _ _ _ _ (ap length w) _ _ _ _ _ _ c.put_header-line.ensures (rw w at c.put_word-end.ensures) c.put_byte.ensures
