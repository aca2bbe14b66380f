-- What is told is told of a replay that is under way. Assumes nothing.
use Rattle.std.proofs.Common.{arith}
use Rattle.replay.proofs.Drives.{running_start, running_accepted, running_area, running_fit}
use Rattle.night.proofs.night.Goals as goal

pub feed_all-fed-requires : goal.feed_all-fed-requires
feed_all-fed-requires g c = search running_start

pub put_summary-size-requires : goal.put_summary-size-requires
put_summary-size-requires g c =
    let fed = c.feed_all-fed in
    record {
      accepted = running_accepted fed.ensures;
      area = running_area fed.ensures;
      fit = running_fit fed.ensures;
      room = omega (arith, fed.auto.outbox, c.outbox-outbox.type_inv);
    }

pub tell_figures-requires : goal.tell_figures-requires
tell_figures-requires g c =
    let fed = c.feed_all-fed in
    record {
      accepted = running_accepted fed.ensures;
      bounded = fed.ensures.sound.bounded;
      room = omega (arith, c.put_summary-size.auto.out, fed.auto.outbox, c.outbox-outbox.type_inv);
    }
