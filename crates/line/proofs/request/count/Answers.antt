-- `line::request::count` meets its contract. Assumes nothing.
use Rattle.line.proofs.Carried.{counted_room, counted_told}
use Rattle.line.proofs.request.count.Goals as goal

pub put_final_counted-requires : goal.put_final_counted-requires
put_final_counted-requires c = counted_room c.args.out.now c.args.client c.requires.0 c.args.client c.args.state.counts _
    c.counts_of-counts.ensures c.bit_count-modules.ensures c.requires.1.1

pub returns : goal.returns
returns c = counted_told c.counts_of-counts.ensures c.bit_count-modules.ensures
    c.put_final_counted.ensures
