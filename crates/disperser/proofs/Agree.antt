-- Of every public function of this crate: any two outcomes that its promise allows agree.
-- Assumes nothing.
use mathlib.Core.Path.{◌≡◌}
use contract.Lifetimes.{Lfts}
use borrow.Fn.World.{ArgsD, ResD}
use borrow.Fn.Kinds.{ended_of}
use denote.Triple.Clauses.{AtExit}
use Rattle.ground.proofs.Outcome.{same}
use Rattle.disperser.specs.contracts.disperse as disperse
use Rattle.disperser.proofs.disperse.Kinds as disperse_kinds
use Rattle.disperser.proofs.disperse.Reads as disperse_reads

module _ (κs : Lfts 2) (a : ArgsD disperse.signature κs) where
  pub disperse_agrees : (r r' : ResD disperse.signature κs) (s s' : AtExit (ended_of 2 disperse_kinds.ps disperse_kinds.r) κs) →
      disperse_reads.Post κs a r s → disperse_reads.Post κs a r' s' → s.1.1.1.0.now ≡ s'.1.1.1.0.now
  disperse_agrees r r' s s' p q = same p q
