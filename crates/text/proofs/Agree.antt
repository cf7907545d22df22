-- Of every public function of this crate: any two outcomes that its promise allows agree.
-- Assumes nothing.
use mathlib.Core.Path.{◌≡◌}
use contract.Lifetimes.{Lfts}
use borrow.Fn.World.{ArgsD, ResD}
use borrow.Fn.Kinds.{ended_of}
use denote.Triple.Clauses.{AtExit}
use Rattle.ground.proofs.Outcome.{agree}
use Rattle.text.proofs.Told.{told_one}
use Rattle.text.specs.contracts.list as list
use Rattle.text.proofs.list.Kinds as list_kinds
use Rattle.text.proofs.list.Reads as list_reads

module _ (κs : Lfts 2) (a : ArgsD list.signature κs) where
  pub list_agrees : (r r' : ResD list.signature κs) (s s' : AtExit (ended_of 2 list_kinds.ps list_kinds.r) κs) →
      list_reads.Post κs a r s → list_reads.Post κs a r' s' → (r ≡ r') × (s.1.0.now ≡ s'.1.0.now)
  list_agrees r r' s s' p q = let g = agree p.0 q.0 in (told_one r r' g.0, g.1)
