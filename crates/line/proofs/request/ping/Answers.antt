-- `line::request::ping` meets its contract. Assumes nothing.
use Rattle.line.proofs.Carried.{pong_room, ponged}
use Rattle.line.proofs.request.ping.Goals as goal

pub put_final_pong-requires : goal.put_final_pong-requires
put_final_pong-requires c = pong_room c.args.out.now c.args.client c.requires.0 c.args.time c.requires.1.0 c.args.token.now c.requires.1.1

pub returns : goal.returns
returns c = ponged _ _ c.put_final_pong.ensures
