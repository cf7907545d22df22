-- Of every public function of this crate: any two outcomes that its promise allows agree.
-- Assumes nothing.
use mathlib.Core.Path.{◌≡◌}
use contract.Lifetimes.{Lfts}
use borrow.Fn.World.{ArgsD, ResD}
use borrow.Fn.Kinds.{ended_of}
use denote.Triple.Clauses.{AtExit}
use Rattle.ground.proofs.Outcome.{same}
use Rattle.parts.specs.contracts.part as part
use Rattle.parts.proofs.part.Kinds as part_kinds
use Rattle.parts.proofs.part.Reads as part_reads
use Rattle.parts.specs.contracts.parts as parts
use Rattle.parts.proofs.parts.Kinds as parts_kinds
use Rattle.parts.proofs.parts.Reads as parts_reads

module _ (κs : Lfts 1) (a : ArgsD part.signature κs) where
  pub part_agrees : (r r' : ResD part.signature κs) (s s' : AtExit (ended_of 1 part_kinds.ps part_kinds.r) κs) →
      part_reads.Post κs a r s → part_reads.Post κs a r' s' → r ≡ r'
  part_agrees r r' s s' p q = same p q

module _ (κs : Lfts 1) (a : ArgsD parts.signature κs) where
  pub parts_agrees : (r r' : ResD parts.signature κs) (s s' : AtExit (ended_of 1 parts_kinds.ps parts_kinds.r) κs) →
      parts_reads.Post κs a r s → parts_reads.Post κs a r' s' → r ≡ r'
  parts_agrees r r' s s' p q = same p q
