-- `ip_write::lay::put_packet` meets its contract: the data behind the header. Assumes nothing.
use native.Mathlib.Omega.{arith}
use Rattle.ip_queue.proofs.Places.{waiting}
use Rattle.ip_write.proofs.Laying.{packet_put}
use Rattle.ip_write.proofs.lay.put_packet.Goals as goal

pub put_part-requires : goal.put_part-requires
put_part-requires c =
    omega (arith, (waiting c.args.queue.now c.args.from c.requires.0.0 c.requires.0.1).ends, c.requires.1)

pub returns : goal.returns
returns c =
    packet_put c.args.queue.now c.args.from c.requires.0 c.args.payload.now c.put_header.new.payload c.put_part.new.payload
    c.args.at c.args.n c.requires.1 c.requires.2 c.put_header.ensures c.put_part.ensures
