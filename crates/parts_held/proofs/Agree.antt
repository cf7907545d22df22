-- Of every public function of this crate: any two outcomes that its promise allows agree.
-- Assumes nothing.
use mathlib.Core.Path.{◌≡◌}
use contract.Lifetimes.{Lfts}
use borrow.Fn.World.{ArgsD, ResD}
use borrow.Fn.Kinds.{ended_of}
use denote.Triple.Clauses.{AtExit}
use Rattle.ground.proofs.Outcome.{same}
use Rattle.parts_held.specs.contracts.held as held
use Rattle.parts_held.proofs.held.Kinds as held_kinds
use Rattle.parts_held.proofs.held.Reads as held_reads

module _ (κs : Lfts 1) (a : ArgsD held.signature κs) where
  pub held_agrees : (r r' : ResD held.signature κs) (s s' : AtExit (ended_of 1 held_kinds.ps held_kinds.r) κs) →
      held_reads.Post κs a r s → held_reads.Post κs a r' s' → r ≡ r'
  held_agrees r r' s s' p q = same p q
