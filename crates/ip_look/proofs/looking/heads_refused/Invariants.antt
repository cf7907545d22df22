-- `ip_look::looking::heads_refused` meets its contract: the headers that are left answer for all of them. Assumes nothing.
use mathlib.Core.Path.{◌≡◌}
use lib.ListN.{length}
use Rattle.ip.specs.Read.{walk}
use Rattle.ip_look.proofs.looking.heads_refused.Given as goal

abbrev pub invariant-loop-left : goal.invariant-loop-left
invariant-loop-left l = (walk 0 l.bytes).refused ≡ (walk 0 l.left).refused

abbrev pub decreases-loop-left : goal.decreases-loop-left
decreases-loop-left l = length l.left
