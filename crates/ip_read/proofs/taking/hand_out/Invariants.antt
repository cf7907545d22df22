-- `ip_read::taking::hand_out` meets its contract: what is left to hand out leads to all of it. Assumes nothing.
use Prim.Native.Nat.{◌-◌}
use Rattle.ip_read.proofs.Hands.{Handing}
use Rattle.ip_read.proofs.taking.hand_out.Given as goal

abbrev pub invariant-loop-at : goal.invariant-loop-at
invariant-loop-at l = Handing l.payload l.from l.start l.initial.packets l.at l.out l.packets

abbrev pub decreases-loop-at : goal.decreases-loop-at
decreases-loop-at l = 1504 - l.at
