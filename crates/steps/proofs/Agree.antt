-- Of every public function of this crate: any two outcomes that its promise allows agree.
-- Assumes nothing.
use mathlib.Core.Path.{◌≡◌}
use contract.Lifetimes.{Lfts}
use borrow.Fn.World.{ArgsD, ResD}
use borrow.Fn.Kinds.{ended_of}
use denote.Triple.Clauses.{AtExit}
use Rattle.ground.proofs.Outcome.{same}
use Rattle.steps.specs.contracts.bits_at as bits_at
use Rattle.steps.proofs.bits_at.Kinds as bits_at_kinds
use Rattle.steps.proofs.bits_at.Reads as bits_at_reads
use Rattle.steps.specs.contracts.pipes_at as pipes_at
use Rattle.steps.proofs.pipes_at.Kinds as pipes_at_kinds
use Rattle.steps.proofs.pipes_at.Reads as pipes_at_reads
use Rattle.steps.specs.contracts.owned_by as owned_by
use Rattle.steps.proofs.owned_by.Kinds as owned_by_kinds
use Rattle.steps.proofs.owned_by.Reads as owned_by_reads
use Rattle.steps.specs.contracts.onward as onward
use Rattle.steps.proofs.onward.Kinds as onward_kinds
use Rattle.steps.proofs.onward.Reads as onward_reads
use Rattle.steps.specs.contracts.with_tail as with_tail
use Rattle.steps.proofs.with_tail.Kinds as with_tail_kinds
use Rattle.steps.proofs.with_tail.Reads as with_tail_reads

module _ (κs : Lfts 1) (a : ArgsD bits_at.signature κs) where
  pub bits_at_agrees : (r r' : ResD bits_at.signature κs) (s s' : AtExit (ended_of 1 bits_at_kinds.ps bits_at_kinds.r) κs) →
      bits_at_reads.Post κs a r s → bits_at_reads.Post κs a r' s' → r ≡ r'
  bits_at_agrees r r' s s' p q = same p q

module _ (κs : Lfts 1) (a : ArgsD pipes_at.signature κs) where
  pub pipes_at_agrees : (r r' : ResD pipes_at.signature κs) (s s' : AtExit (ended_of 1 pipes_at_kinds.ps pipes_at_kinds.r) κs) →
      pipes_at_reads.Post κs a r s → pipes_at_reads.Post κs a r' s' → r ≡ r'
  pipes_at_agrees r r' s s' p q = same p q

module _ (κs : Lfts 1) (a : ArgsD owned_by.signature κs) where
  pub owned_by_agrees : (r r' : ResD owned_by.signature κs) (s s' : AtExit (ended_of 1 owned_by_kinds.ps owned_by_kinds.r) κs) →
      owned_by_reads.Post κs a r s → owned_by_reads.Post κs a r' s' → r ≡ r'
  owned_by_agrees r r' s s' p q = same p q

module _ (κs : Lfts 0) (a : ArgsD onward.signature κs) where
  pub onward_agrees : (r r' : ResD onward.signature κs) (s s' : AtExit (ended_of 0 onward_kinds.ps onward_kinds.r) κs) →
      onward_reads.Post κs a r s → onward_reads.Post κs a r' s' → r ≡ r'
  onward_agrees r r' s s' p q = same p q

module _ (κs : Lfts 0) (a : ArgsD with_tail.signature κs) where
  pub with_tail_agrees : (r r' : ResD with_tail.signature κs) (s s' : AtExit (ended_of 0 with_tail_kinds.ps with_tail_kinds.r) κs) →
      with_tail_reads.Post κs a r s → with_tail_reads.Post κs a r' s' → r ≡ r'
  with_tail_agrees r r' s s' p q = same p q
