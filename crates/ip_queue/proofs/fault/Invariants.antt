-- `ip_queue::fault` meets its contract: what is wrong in the queue is wrong in what is left of it. Assumes nothing.
use mathlib.Core.Path.{◌≡◌}
use lib.ListN.{length}
use Rattle.ip.specs.Memory.{queue_in}
use Rattle.ip_queue.proofs.fault.Given as goal

abbrev pub invariant-loop-rest : goal.invariant-loop-rest
invariant-loop-rest l = (queue_in 0 l.queue).number ≡ (queue_in 0 l.rest).number

abbrev pub decreases-loop-rest : goal.decreases-loop-rest
decreases-loop-rest l = length l.rest
