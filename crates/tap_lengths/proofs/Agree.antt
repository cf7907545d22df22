-- Of every public function of this crate: any two outcomes that its promise allows agree.
-- Assumes nothing.
use mathlib.Core.Path.{◌≡◌}
use contract.Lifetimes.{Lfts}
use borrow.Fn.World.{ArgsD, ResD}
use borrow.Fn.Kinds.{ended_of}
use denote.Triple.Clauses.{AtExit}
use Rattle.ground.proofs.Outcome.{same}
use Rattle.tap_lengths.specs.contracts.total as total
use Rattle.tap_lengths.proofs.total.Kinds as total_kinds
use Rattle.tap_lengths.proofs.total.Reads as total_reads
use Rattle.tap_lengths.specs.contracts.lengths as lengths
use Rattle.tap_lengths.proofs.lengths.Kinds as lengths_kinds
use Rattle.tap_lengths.proofs.lengths.Reads as lengths_reads

module _ (κs : Lfts 1) (a : ArgsD total.signature κs) where
  pub total_agrees : (r r' : ResD total.signature κs) (s s' : AtExit (ended_of 1 total_kinds.ps total_kinds.r) κs) →
      total_reads.Post κs a r s → total_reads.Post κs a r' s' → r ≡ r'
  total_agrees r r' s s' p q = same p q

module _ (κs : Lfts 1) (a : ArgsD lengths.signature κs) where
  pub lengths_agrees : (r r' : ResD lengths.signature κs) (s s' : AtExit (ended_of 1 lengths_kinds.ps lengths_kinds.r) κs) →
      lengths_reads.Post κs a r s → lengths_reads.Post κs a r' s' → r ≡ r'
  lengths_agrees r r' s s' p q = same p q
