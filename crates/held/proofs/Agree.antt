-- Of every public function of this crate: any two outcomes that its promise allows agree.
-- Assumes nothing.
use mathlib.Core.Path.{◌≡◌}
use contract.Lifetimes.{Lfts}
use borrow.Fn.World.{ArgsD, ResD}
use borrow.Fn.Kinds.{ended_of}
use denote.Triple.Clauses.{AtExit}
use Rattle.ground.proofs.Outcome.{same}
use Rattle.held.specs.contracts.sum as sum
use Rattle.held.proofs.sum.Kinds as sum_kinds
use Rattle.held.proofs.sum.Reads as sum_reads
use Rattle.held.specs.contracts.of as of
use Rattle.held.proofs.of.Kinds as of_kinds
use Rattle.held.proofs.of.Reads as of_reads
use Rattle.held.specs.contracts.clip_all as clip_all
use Rattle.held.proofs.clip_all.Kinds as clip_all_kinds
use Rattle.held.proofs.clip_all.Reads as clip_all_reads

module _ (κs : Lfts 1) (a : ArgsD sum.signature κs) where
  pub sum_agrees : (r r' : ResD sum.signature κs) (s s' : AtExit (ended_of 1 sum_kinds.ps sum_kinds.r) κs) → sum_reads.Post κs a r s → sum_reads.Post κs a r' s' → r ≡ r'
  sum_agrees r r' s s' p q = same p q

module _ (κs : Lfts 1) (a : ArgsD of.signature κs) where
  pub of_agrees : (r r' : ResD of.signature κs) (s s' : AtExit (ended_of 1 of_kinds.ps of_kinds.r) κs) → of_reads.Post κs a r s → of_reads.Post κs a r' s' → r ≡ r'
  of_agrees r r' s s' p q = same p q

module _ (κs : Lfts 1) (a : ArgsD clip_all.signature κs) where
  pub clip_all_agrees : (r r' : ResD clip_all.signature κs) (s s' : AtExit (ended_of 1 clip_all_kinds.ps clip_all_kinds.r) κs) →
      clip_all_reads.Post κs a r s → clip_all_reads.Post κs a r' s' → s.0.now ≡ s'.0.now
  clip_all_agrees r r' s s' p q = same p q
