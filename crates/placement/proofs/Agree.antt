-- Of every public function of this crate: any two outcomes that its promise allows agree.
-- Assumes nothing.
use mathlib.Core.Path.{◌≡◌}
use contract.Lifetimes.{Lfts}
use borrow.Fn.World.{ArgsD, ResD}
use borrow.Fn.Kinds.{ended_of}
use denote.Triple.Clauses.{AtExit}
use Rattle.ground.proofs.Refusals.{agree_status}
use Rattle.placement.specs.contracts.place as place
use Rattle.placement.proofs.place.Kinds as place_kinds
use Rattle.placement.proofs.place.Reads as place_reads

module _ (κs : Lfts 2) (a : ArgsD place.signature κs) where
  pub place_agrees : (r r' : ResD place.signature κs) (s s' : AtExit (ended_of 2 place_kinds.ps place_kinds.r) κs) →
      place_reads.Post κs a r s → place_reads.Post κs a r' s' → (r ≡ r') × (s.1.1.0.now ≡ s'.1.1.0.now)
  place_agrees r r' s s' p q = agree_status p q
