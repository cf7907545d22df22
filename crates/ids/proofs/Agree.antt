-- Of every public function of this crate: any two outcomes that its promise allows agree.
-- Assumes nothing.
use mathlib.Core.Path.{◌≡◌}
use contract.Lifetimes.{Lfts}
use borrow.Fn.World.{ArgsD, ResD}
use borrow.Fn.Kinds.{ended_of}
use denote.Triple.Clauses.{AtExit}
use Rattle.ground.proofs.Outcome.{same}
use Rattle.ids.specs.contracts.id_twice as id_twice
use Rattle.ids.proofs.id_twice.Kinds as id_twice_kinds
use Rattle.ids.proofs.id_twice.Reads as id_twice_reads

module _ (κs : Lfts 1) (a : ArgsD id_twice.signature κs) where
  pub id_twice_agrees : (r r' : ResD id_twice.signature κs) (s s' : AtExit (ended_of 1 id_twice_kinds.ps id_twice_kinds.r) κs) →
      id_twice_reads.Post κs a r s → id_twice_reads.Post κs a r' s' → r ≡ r'
  id_twice_agrees r r' s s' p q = same p q
