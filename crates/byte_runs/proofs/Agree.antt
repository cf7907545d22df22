-- Of every public function of this crate: any two outcomes that its promise allows agree.
-- Assumes nothing.
use mathlib.Core.Path.{◌≡◌}
use contract.Lifetimes.{Lfts}
use borrow.Fn.World.{ArgsD, ResD}
use borrow.Fn.Kinds.{ended_of}
use denote.Triple.Clauses.{AtExit}
use Rattle.ground.proofs.Outcome.{same}
use Rattle.byte_runs.specs.contracts.copy as copy
use Rattle.byte_runs.proofs.copy.Kinds as copy_kinds
use Rattle.byte_runs.proofs.copy.Reads as copy_reads
use Rattle.byte_runs.specs.contracts.copy_between as copy_between
use Rattle.byte_runs.proofs.copy_between.Kinds as copy_between_kinds
use Rattle.byte_runs.proofs.copy_between.Reads as copy_between_reads
use Rattle.byte_runs.specs.contracts.fill as fill
use Rattle.byte_runs.proofs.fill.Kinds as fill_kinds
use Rattle.byte_runs.proofs.fill.Reads as fill_reads
use Rattle.byte_runs.specs.contracts.two as two
use Rattle.byte_runs.proofs.two.Kinds as two_kinds
use Rattle.byte_runs.proofs.two.Reads as two_reads

module _ (κs : Lfts 2) (a : ArgsD copy.signature κs) where
  pub copy_agrees : (r r' : ResD copy.signature κs) (s s' : AtExit (ended_of 2 copy_kinds.ps copy_kinds.r) κs) →
      copy_reads.Post κs a r s → copy_reads.Post κs a r' s' → s.1.0.now ≡ s'.1.0.now
  copy_agrees r r' s s' p q = same p q

module _ (κs : Lfts 2) (a : ArgsD copy_between.signature κs) where
  pub copy_between_agrees : (r r' : ResD copy_between.signature κs) (s s' : AtExit (ended_of 2 copy_between_kinds.ps copy_between_kinds.r) κs) →
      copy_between_reads.Post κs a r s → copy_between_reads.Post κs a r' s' → s.1.1.1.0.now ≡ s'.1.1.1.0.now
  copy_between_agrees r r' s s' p q = same p q

module _ (κs : Lfts 1) (a : ArgsD fill.signature κs) where
  pub fill_agrees : (r r' : ResD fill.signature κs) (s s' : AtExit (ended_of 1 fill_kinds.ps fill_kinds.r) κs) →
      fill_reads.Post κs a r s → fill_reads.Post κs a r' s' → s.0.now ≡ s'.0.now
  fill_agrees r r' s s' p q = same p q

module _ (κs : Lfts 0) (a : ArgsD two.signature κs) where
  pub two_agrees : (r r' : ResD two.signature κs) (s s' : AtExit (ended_of 0 two_kinds.ps two_kinds.r) κs) →
      two_reads.Post κs a r s → two_reads.Post κs a r' s' → r ≡ r'
  two_agrees r r' s s' p q = same p.0 q.0
