-- `ip_write::lay::put_end` meets its contract. Assumes nothing.
use native.Mathlib.Omega.{arith}
use Rattle.ip_write.proofs.Laying.{begun_last, padding_last}
use Rattle.ip_write.proofs.lay.put_end.Goals as goal

pub overflow_sub-at : goal.overflow_sub-at
overflow_sub-at c = omega (arith, (c.begins.ensures.0 c.if-begins.true).1)

pub put_packet-requires : goal.put_packet-requires
put_packet-requires c =
    let b = c.begins.ensures.0 c.if-begins.true in
    ((c.requires.0.clean, b.0), omega (arith, c.requires.1 b.0, b.1), omega (arith, b.1, c.requires.0.size))

pub returns-then-begins : goal.returns-then-begins
returns-then-begins c =
    let b = c.begins.ensures.0 c.if-begins.true in
    begun_last c.args.queue.now c.args.payload.now c.args.place.at c.args.place.from c.requires.0 b.0 c.put_packet.new.payload
    (c.requires.1 b.0) b.1 c.put_packet.ensures

pub returns : goal.returns
returns c =
    padding_last c.args.queue.now c.args.payload.now c.args.place.at c.args.place.from c.requires.0
    (c.begins.ensures.1 c.if-begins.false) c.fill.new.out c.fill.ensures
