-- Of every public function of this crate: any two outcomes that its promise allows agree.
-- Assumes nothing.
use mathlib.Core.Path.{◌≡◌}
use contract.Lifetimes.{Lfts}
use borrow.Fn.World.{ArgsD, ResD}
use borrow.Fn.Kinds.{ended_of}
use denote.Triple.Clauses.{AtExit}
use Rattle.ground.proofs.Outcome.{same}
use Rattle.ground.proofs.Refusals.{agree_status}
use Rattle.profile.proofs.Giving.{told_inj}
use Rattle.profile.specs.contracts.of as of
use Rattle.profile.proofs.of.Kinds as of_kinds
use Rattle.profile.proofs.of.Reads as of_reads
use Rattle.profile.specs.contracts.write as write
use Rattle.profile.proofs.write.Kinds as write_kinds
use Rattle.profile.proofs.write.Reads as write_reads

module _ (κs : Lfts 1) (a : ArgsD of.signature κs) where
  pub of_agrees : (r r' : ResD of.signature κs) (s s' : AtExit (ended_of 1 of_kinds.ps of_kinds.r) κs) →
      of_reads.Post κs a r s → of_reads.Post κs a r' s' → r ≡ r'
  of_agrees r r' s s' p q = told_inj r r' (same p q)

module _ (κs : Lfts 2) (a : ArgsD write.signature κs) where
  pub write_agrees : (r r' : ResD write.signature κs) (s s' : AtExit (ended_of 2 write_kinds.ps write_kinds.r) κs) →
      write_reads.Post κs a r s → write_reads.Post κs a r' s' → (r ≡ r') × (s.1.0.now ≡ s'.1.0.now)
  write_agrees r r' s s' p q = agree_status p q
