-- `ip_read::taking::hand_out` meets its contract: what is left to hand out leads to all of it. Assumes nothing.
use native.Mathlib.Omega.{arith}
use Rattle.ip_read.proofs.Hands.{step_at, hand_none, hand_end, hand_runs, hand_room, hand_fits, hand_more}
use Rattle.ip_read.proofs.taking.hand_out.Goals as goal

pub loop-at-init : goal.loop-at-init
loop-at-init c = hand_none c.args.payload.now c.args.from c.args.start c.args.packets.now c.requires.0

pub returns-then-end-gt1504 : goal.returns-then-end-gt1504
returns-then-end-gt1504 c =
    hand_runs (step_at c.loop-at.invariant c.requires.1 c.told-payload c.loop-at-test.true c.head_of-h.ensures.0) (omega (arith, c.if-end-gt1504.true, c.told-payload))

pub put_packet-requires : goal.put_packet-requires
put_packet-requires c =
    hand_room (step_at c.loop-at.invariant c.requires.1 c.told-payload c.loop-at-test.true c.head_of-h.ensures.0) (omega (arith, c.if-end-gt1504.false, c.told-payload))

pub overflow_add-out-in-loop-at : goal.overflow_add-out-in-loop-at
overflow_add-out-in-loop-at c =
    omega (arith, hand_fits (step_at c.loop-at.invariant c.requires.1 c.told-payload c.loop-at-test.true c.head_of-h.ensures.0) (omega (arith, c.if-end-gt1504.false, c.told-payload)), c.well_formed)

pub loop-at-preserved : goal.loop-at-preserved
loop-at-preserved c =
    hand_more (step_at c.loop-at.invariant c.requires.1 c.told-payload c.loop-at-test.true c.head_of-h.ensures.0) (omega (arith, c.if-end-gt1504.false, c.told-payload))
    c.put_packet.new.packets c.put_packet.ensures

pub returns : goal.returns
returns c =
    hand_end c.args.payload.now c.args.from c.args.start c.args.packets.now c.loop-at.at c.loop-at.out c.loop-at.packets c.loop-at.invariant
    (omega (arith, c.loop-at-test.false, c.told-payload))
