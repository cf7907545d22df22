-- Of every public function of this crate: any two outcomes that its promise allows agree.
-- Assumes nothing.
use mathlib.Core.Path.{◌≡◌}
use contract.Lifetimes.{Lfts}
use borrow.Fn.World.{ArgsD, ResD}
use borrow.Fn.Kinds.{ended_of}
use denote.Triple.Clauses.{AtExit}
use Rattle.ground.proofs.Outcome.{same}
use Rattle.tail.specs.contracts.run_of as run_of
use Rattle.tail.proofs.run_of.Kinds as run_of_kinds
use Rattle.tail.proofs.run_of.Reads as run_of_reads

module _ (κs : Lfts 1) (a : ArgsD run_of.signature κs) where
  pub run_of_agrees : (r r' : ResD run_of.signature κs) (s s' : AtExit (ended_of 1 run_of_kinds.ps run_of_kinds.r) κs) →
      run_of_reads.Post κs a r s → run_of_reads.Post κs a r' s' → r ≡ r'
  run_of_agrees r r' s s' p q = same p q
