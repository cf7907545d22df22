-- `ip_read::taking::put_packet` meets its contract. Assumes nothing.
use Rattle.ip_read.proofs.Hands.{packet_put}
use Rattle.ip_read.proofs.taking.put_packet.Goals as goal

pub returns : goal.returns
returns c =
    let a = c.args in
    packet_put a.packets.now c.put_four.new.packets c.copy.new.out a.run.now a.out a.kind a.error c.requires.0 c.put_four.ensures c.copy.ensures
