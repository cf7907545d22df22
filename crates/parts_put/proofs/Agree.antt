-- Of every public function of this crate: any two outcomes that its promise allows agree.
-- Assumes nothing.
use mathlib.Core.Path.{◌≡◌}
use contract.Lifetimes.{Lfts}
use borrow.Fn.World.{ArgsD, ResD}
use borrow.Fn.Kinds.{ended_of}
use denote.Triple.Clauses.{AtExit}
use Rattle.ground.proofs.Outcome.{same}
use Rattle.parts_put.specs.contracts.put_parts as put_parts
use Rattle.parts_put.proofs.put_parts.Kinds as put_parts_kinds
use Rattle.parts_put.proofs.put_parts.Reads as put_parts_reads

module _ (κs : Lfts 1) (a : ArgsD put_parts.signature κs) where
  pub put_parts_agrees : (r r' : ResD put_parts.signature κs) (s s' : AtExit (ended_of 1 put_parts_kinds.ps put_parts_kinds.r) κs) →
      put_parts_reads.Post κs a r s → put_parts_reads.Post κs a r' s' → s.0.now ≡ s'.0.now
  put_parts_agrees r r' s s' p q = same p q
