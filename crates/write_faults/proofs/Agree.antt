-- Of every public function of this crate: any two outcomes that its promise allows agree.
-- Assumes nothing.
use mathlib.Core.Path.{◌≡◌}
use contract.Lifetimes.{Lfts}
use borrow.Fn.World.{ArgsD, ResD}
use borrow.Fn.Kinds.{ended_of}
use denote.Triple.Clauses.{AtExit}
use Rattle.ground.proofs.Outcome.{same}
use Rattle.ground.proofs.Refusals.{status_same}
use Rattle.write_faults.specs.contracts.refusal as refusal
use Rattle.write_faults.proofs.refusal.Kinds as refusal_kinds
use Rattle.write_faults.proofs.refusal.Reads as refusal_reads

module _ (κs : Lfts 0) (a : ArgsD refusal.signature κs) where
  pub refusal_agrees : (r r' : ResD refusal.signature κs) (s s' : AtExit (ended_of 0 refusal_kinds.ps refusal_kinds.r) κs) →
      refusal_reads.Post κs a r s → refusal_reads.Post κs a r' s' → r ≡ r'
  refusal_agrees r r' s s' p q = status_same r r' (same p q)
