-- Of every public function of this crate: any two outcomes that its promise allows agree.
-- Assumes nothing.
use mathlib.Core.Path.{◌≡◌}
use contract.Lifetimes.{Lfts}
use borrow.Fn.World.{ArgsD, ResD}
use borrow.Fn.Kinds.{ended_of}
use denote.Triple.Clauses.{AtExit}
use Rattle.ground.proofs.Outcome.{same}
use Rattle.ground.proofs.Refusals.{status_same}
use Rattle.patterns.specs.contracts.units as units
use Rattle.patterns.proofs.units.Kinds as units_kinds
use Rattle.patterns.proofs.units.Reads as units_reads
use Rattle.patterns.specs.contracts.code_length as code_length
use Rattle.patterns.proofs.code_length.Kinds as code_length_kinds
use Rattle.patterns.proofs.code_length.Reads as code_length_reads
use Rattle.patterns.specs.contracts.block_by as block_by
use Rattle.patterns.proofs.block_by.Kinds as block_by_kinds
use Rattle.patterns.proofs.block_by.Reads as block_by_reads
use Rattle.patterns.specs.contracts.unfit as unfit
use Rattle.patterns.proofs.unfit.Kinds as unfit_kinds
use Rattle.patterns.proofs.unfit.Reads as unfit_reads

module _ (κs : Lfts 0) (a : ArgsD units.signature κs) where
  pub units_agrees : (r r' : ResD units.signature κs) (s s' : AtExit (ended_of 0 units_kinds.ps units_kinds.r) κs) →
      units_reads.Post κs a r s → units_reads.Post κs a r' s' → r ≡ r'
  units_agrees r r' s s' p q = same p q

module _ (κs : Lfts 0) (a : ArgsD code_length.signature κs) where
  pub code_length_agrees : (r r' : ResD code_length.signature κs) (s s' : AtExit (ended_of 0 code_length_kinds.ps code_length_kinds.r) κs) →
      code_length_reads.Post κs a r s → code_length_reads.Post κs a r' s' → r ≡ r'
  code_length_agrees r r' s s' p q = same p q

module _ (κs : Lfts 0) (a : ArgsD unfit.signature κs) where
  pub unfit_agrees : (r r' : ResD unfit.signature κs) (s s' : AtExit (ended_of 0 unfit_kinds.ps unfit_kinds.r) κs) →
      unfit_reads.Post κs a r s → unfit_reads.Post κs a r' s' → r ≡ r'
  unfit_agrees r r' s s' p q = status_same r r' (same p q)

module _ (κs : Lfts 0) (a : ArgsD block_by.signature κs) where
  pub block_by_agrees : (r r' : ResD block_by.signature κs) (s s' : AtExit (ended_of 0 block_by_kinds.ps block_by_kinds.r) κs) →
      block_by_reads.Post κs a r s → block_by_reads.Post κs a r' s' → r ≡ r'
  block_by_agrees r r' s s' p q = same p q
