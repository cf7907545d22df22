-- Of every public function of this crate: any two outcomes that its promise allows agree.
-- Assumes nothing.
use mathlib.Core.Path.{◌≡◌}
use contract.Lifetimes.{Lfts}
use borrow.Fn.World.{ArgsD, ResD}
use borrow.Fn.Kinds.{ended_of}
use denote.Triple.Clauses.{AtExit}
use Rattle.ground.proofs.Outcome.{same}
use Rattle.records.specs.contracts.multiplex_at as multiplex_at
use Rattle.records.proofs.multiplex_at.Kinds as multiplex_at_kinds
use Rattle.records.proofs.multiplex_at.Reads as multiplex_at_reads
use Rattle.records.specs.contracts.pipe_at as pipe_at
use Rattle.records.proofs.pipe_at.Kinds as pipe_at_kinds
use Rattle.records.proofs.pipe_at.Reads as pipe_at_reads
use Rattle.records.specs.contracts.tail_at as tail_at
use Rattle.records.proofs.tail_at.Kinds as tail_at_kinds
use Rattle.records.proofs.tail_at.Reads as tail_at_reads

module _ (κs : Lfts 1) (a : ArgsD multiplex_at.signature κs) where
  pub multiplex_at_agrees : (r r' : ResD multiplex_at.signature κs) (s s' : AtExit (ended_of 1 multiplex_at_kinds.ps multiplex_at_kinds.r) κs) →
      multiplex_at_reads.Post κs a r s → multiplex_at_reads.Post κs a r' s' → r ≡ r'
  multiplex_at_agrees r r' s s' p q = same p q

module _ (κs : Lfts 1) (a : ArgsD pipe_at.signature κs) where
  pub pipe_at_agrees : (r r' : ResD pipe_at.signature κs) (s s' : AtExit (ended_of 1 pipe_at_kinds.ps pipe_at_kinds.r) κs) →
      pipe_at_reads.Post κs a r s → pipe_at_reads.Post κs a r' s' → r ≡ r'
  pipe_at_agrees r r' s s' p q = same p q

module _ (κs : Lfts 1) (a : ArgsD tail_at.signature κs) where
  pub tail_at_agrees : (r r' : ResD tail_at.signature κs) (s s' : AtExit (ended_of 1 tail_at_kinds.ps tail_at_kinds.r) κs) →
      tail_at_reads.Post κs a r s → tail_at_reads.Post κs a r' s' → r ≡ r'
  tail_at_agrees r r' s s' p q = same p q
