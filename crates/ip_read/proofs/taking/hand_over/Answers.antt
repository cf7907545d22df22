-- `ip_read::taking::hand_over` meets its contract. Assumes nothing.
use native.Mathlib.Omega.{arith}
use Rattle.ip_read.proofs.Takes.{ended_put}
use Rattle.ip_read.proofs.taking.hand_over.Goals as goal

pub returns : goal.returns
returns c =
    let o = c.args.o in
    ended_put c.args.packets.now c.put_four.new.packets c.copy.new.out c.copy-2.new.out c.args.memory.now c.args.payload.now
    o.kind o.error o.length o.sofar c.args.rest c.told-memory c.requires.0 c.requires.1 (omega arith) c.requires.3 c.put_four.ensures c.copy.ensures c.copy-2.ensures
