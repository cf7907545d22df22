-- Of every public function of this crate: any two outcomes that its promise allows agree.
-- Assumes nothing.
use mathlib.Core.Path.{◌≡◌}
use contract.Lifetimes.{Lfts}
use borrow.Fn.World.{ArgsD, ResD}
use borrow.Fn.Kinds.{ended_of}
use denote.Triple.Clauses.{AtExit}
use Rattle.ground.proofs.Outcome.{same}
use Rattle.pairs.specs.contracts.unpack as unpack
use Rattle.pairs.proofs.unpack.Kinds as unpack_kinds
use Rattle.pairs.proofs.unpack.Reads as unpack_reads

module _ (κs : Lfts 2) (a : ArgsD unpack.signature κs) where
  pub unpack_agrees : (r r' : ResD unpack.signature κs) (s s' : AtExit (ended_of 2 unpack_kinds.ps unpack_kinds.r) κs) →
      unpack_reads.Post κs a r s → unpack_reads.Post κs a r' s' → s.1.0.now ≡ s'.1.0.now
  unpack_agrees r r' s s' p q = same p q
