-- `outbox::write::put_final_edition` meets its contract. Assumes nothing.
use Rattle.std.specs.Prelude.{Some}
use Rattle.ascii.specs.Text.{bytes}
use mathlib.Core.Path.{refl}
use Rattle.message.specs.Reply.{identity, reply_line, identification}
use Rattle.outbox.proofs.Written.{final_0, final_1, final_2, final_3, final_all}
use Rattle.outbox.proofs.write.put_final_edition.Goals as goal

pub put_header-line-requires : goal.put_header-line-requires
unfolding reply_line identity bytes
put_header-line-requires c = (search final_1, search final_0)

pub put-end-requires : goal.put-end-requires
unfolding reply_line identity bytes
put-end-requires c = final_2 _ _ _ (identification (Some _)) _ refl c.requires _ _
    c.put_header-line.ensures

pub put_byte-requires : goal.put_byte-requires
unfolding reply_line identity bytes
put_byte-requires c = final_3 _ _ _ (identification (Some _)) _ refl c.requires _ _ c.put_header-line.ensures _ _
    c.put-end.ensures

pub returns : goal.returns
unfolding reply_line identity bytes
returns c = final_all _ _ _ (identification (Some _)) _ refl _ _ _ _ _ _ c.put_header-line.ensures c.put-end.ensures
    c.put_byte.ensures
