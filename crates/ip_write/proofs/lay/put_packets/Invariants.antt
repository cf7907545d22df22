-- `ip_write::lay::put_packets` meets its contract: what the payload holds in the end stays the same from packet to packet. Assumes nothing.
use Prim.Native.Nat.{◌-◌}
use lib.ListN.{length}
use Rattle.ip_write.specs.Steps.{Laid, Same}
use Rattle.ip_write.proofs.lay.put_packets.Given as goal

abbrev pub invariant-loop-from : goal.invariant-loop-from
invariant-loop-from l = Laid l.queue l.payload l.at l.from × Same l.queue l.initial.payload l.initial.at l.initial.from l.payload l.at l.from

abbrev pub decreases-loop-from : goal.decreases-loop-from
decreases-loop-from l = length l.queue - l.from
