-- Of every public function of this crate: any two outcomes that its promise allows agree.
-- Assumes nothing.
use mathlib.Core.Path.{◌≡◌}
use contract.Lifetimes.{Lfts}
use borrow.Fn.World.{ArgsD, ResD}
use borrow.Fn.Kinds.{ended_of}
use denote.Triple.Clauses.{AtExit}
use Rattle.ground.proofs.Outcome.{same}
use Rattle.ending.specs.contracts.close as close
use Rattle.ending.proofs.close.Kinds as close_kinds
use Rattle.ending.proofs.close.Reads as close_reads

module _ (κs : Lfts 1) (a : ArgsD close.signature κs) where
  pub close_agrees : (r r' : ResD close.signature κs) (s s' : AtExit (ended_of 1 close_kinds.ps close_kinds.r) κs) →
      close_reads.Post κs a r s → close_reads.Post κs a r' s' → s.0.now ≡ s'.0.now
  close_agrees r r' s s' p q = same p q
