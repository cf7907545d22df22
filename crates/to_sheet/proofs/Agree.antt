-- Of every public function of this crate: any two outcomes that its promise allows agree.
-- Assumes nothing.
use mathlib.Core.Path.{◌≡◌}
use contract.Lifetimes.{Lfts}
use borrow.Fn.World.{ArgsD, ResD}
use borrow.Fn.Kinds.{ended_of}
use denote.Triple.Clauses.{AtExit}
use Rattle.ground.proofs.Outcome.{agree}
use Rattle.sheets.proofs.Told.{told_one}
use Rattle.to_sheet.specs.contracts.read as read
use Rattle.to_sheet.proofs.read.Kinds as read_kinds
use Rattle.to_sheet.proofs.read.Reads as read_reads

module _ (κs : Lfts 2) (a : ArgsD read.signature κs) where
  pub read_agrees : (r r' : ResD read.signature κs) (s s' : AtExit (ended_of 2 read_kinds.ps read_kinds.r) κs) →
      read_reads.Post κs a r s → read_reads.Post κs a r' s' → (r ≡ r') × (s.1.0.now ≡ s'.1.0.now)
  read_agrees r r' s s' p q = let g = agree p.0 q.0 in (told_one r r' g.0, g.1)
