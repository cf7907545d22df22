-- `ip_write::lay::put_packets` meets its contract: what the payload holds in the end stays the same from packet to packet. Assumes nothing.
use mathlib.Core.Path.{sym, ◌∙◌}
use native.Mathlib.Omega.{arith}
use borrow.Author.Rules.{rules}
use Rattle.ip_queue.proofs.Places.{waiting}
use Rattle.ip_write.proofs.Laying.{same_none, packet_more}
use Rattle.ip_write.proofs.lay.put_packets.Goals as goal

pub loop-from-init : goal.loop-from-init
loop-from-init c =
    (c.requires, same_none c.args.queue.now c.args.payload.now c.args.place.at c.args.place.from)

pub length_at-n-requires : goal.length_at-n-requires
length_at-n-requires c =
    omega (arith, (waiting c.args.queue.now c.loop-from.from c.loop-from.invariant.0.clean (search rules)).ends)

pub shape_of-payload-then-at-n : goal.shape_of-payload-then-at-n
shape_of-payload-then-at-n c =
    c.loop-from.invariant.0.size ∙ sym c.requires.size

pub returns-then-at-n : goal.returns-then-at-n
returns-then-at-n c =
    (c.loop-from.invariant.0, c.loop-from.invariant.1, λ h. omega (arith, c.if-at-n.true, c.length_at-n.ensures.0))

pub put_packet-requires : goal.put_packet-requires
put_packet-requires c =
    ((c.loop-from.invariant.0.clean, search rules), omega (arith, c.length_at-n.ensures.0), omega (arith, c.if-at-n.false, c.loop-from.invariant.0.size, c.loop-from.invariant.0.at_most))

pub overflow_add-from-in-loop-from : goal.overflow_add-from-in-loop-from
overflow_add-from-in-loop-from c =
    omega (arith, c.loop-from.invariant.0.small, c.loop-from.invariant.0.at_most, c.length_at-n.ensures.1)

pub loop-from-smaller : goal.loop-from-smaller
loop-from-smaller c =
    omega (arith, c.loop-from-test)

pub loop-from-preserved : goal.loop-from-preserved
loop-from-preserved c =
    packet_more c.args.queue.now c.loop-from.payload c.loop-from.at c.loop-from.from c.loop-from.invariant.0 (omega (arith, c.loop-from-test))
    c.args.payload.now c.args.place.at c.args.place.from c.put_packet.new.payload c.length_at-n.result c.length_at-n.ensures.0
    (omega (arith, c.if-at-n.false)) c.put_packet.ensures c.loop-from.invariant.1

pub shape_of-payload : goal.shape_of-payload
shape_of-payload c = c.loop-from.invariant.0.size ∙ sym c.requires.size

pub returns : goal.returns
returns c =
    (c.loop-from.invariant.0, c.loop-from.invariant.1, λ h. omega (arith, c.loop-from-test))
