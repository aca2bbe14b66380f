-- `switch::deactivate` meets its contract. Assumes nothing.
use Rattle.std.specs.Prelude.{Some}
use Rattle.switch.proofs.Switches.{inactive_room, one_inactive}
use Rattle.switch.proofs.deactivate.Goals as goal

pub without_bit-fewer-requires : goal.without_bit-fewer-requires
without_bit-fewer-requires c = c.requires.1.low

pub put_final_switched_name-end-requires : goal.put_final_switched_name-end-requires
put_final_switched_name-end-requires c = inactive_room _ _ (Some _) c.requires.1.named c.requires.0

pub returns : goal.returns
returns c = λ w n t values low h.
    one_inactive w n _ t _ _ values c.args.«module».now c.args.i c.args.mask low h _
    c.without_bit-fewer.ensures _ c.put_final_switched_name-end.ensures
