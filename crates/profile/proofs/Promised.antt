-- What the promise of the profile's writer says of the numbers that it leaves.
-- Assumes nothing.
use mathlib.Core.Path.{◌≡◌}
use contract.Lifetimes.{Lfts}
use borrow.Fn.World.{ArgsD, ResD}
use borrow.Fn.Kinds.{ended_of}
use denote.Triple.Clauses.{AtExit}
use Rattle.ground.specs.Refusals.{status}
use Rattle.profile.specs.Wanted.{Bounded}
use Rattle.profile.proofs.Giving.{call_bounded}
use Rattle.profile.specs.contracts.write as write
use Rattle.profile.proofs.write.Kinds as write_kinds
use Rattle.profile.proofs.write.Reads as write_reads

-- after a call write(pipe, out) that answered 0 no length passes the greatest delay, and that is at most 6,160
pub write_bounded : (κs : Lfts 2) (a : ArgsD write.signature κs) (r : ResD write.signature κs) (s : AtExit (ended_of 2 write_kinds.ps write_kinds.r) κs)
    → write_reads.Post κs a r s → status r ≡ 0 → Bounded s.1.0.now
write_bounded κs a r s p z = call_bounded a.0.now a.1.0.now s.1.0.now (status r) p z
