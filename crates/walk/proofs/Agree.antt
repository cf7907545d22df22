-- Of every public function of this crate: any two outcomes that its promise allows agree.
-- Assumes nothing.
use mathlib.Core.Path.{◌≡◌}
use contract.Lifetimes.{Lfts}
use borrow.Fn.World.{ArgsD, ResD}
use borrow.Fn.Kinds.{ended_of}
use denote.Triple.Clauses.{AtExit}
use Rattle.ground.proofs.Outcome.{same}
use Rattle.walk.specs.contracts.tour as tour
use Rattle.walk.proofs.tour.Kinds as tour_kinds
use Rattle.walk.proofs.tour.Reads as tour_reads

module _ (κs : Lfts 1) (a : ArgsD tour.signature κs) where
  pub tour_agrees : (r r' : ResD tour.signature κs) (s s' : AtExit (ended_of 1 tour_kinds.ps tour_kinds.r) κs) →
      tour_reads.Post κs a r s → tour_reads.Post κs a r' s' → r ≡ r'
  tour_agrees r r' s s' p q = same p q
