-- Of every public function of this crate: any two outcomes that its promise allows agree.
-- Assumes nothing.
use mathlib.Core.Path.{◌≡◌}
use contract.Lifetimes.{Lfts}
use borrow.Fn.World.{ArgsD, ResD}
use borrow.Fn.Kinds.{ended_of}
use denote.Triple.Clauses.{AtExit}
use Rattle.ground.proofs.Outcome.{same}
use Rattle.header_bytes.specs.contracts.put_header as put_header
use Rattle.header_bytes.proofs.put_header.Kinds as put_header_kinds
use Rattle.header_bytes.proofs.put_header.Reads as put_header_reads

module _ (κs : Lfts 1) (a : ArgsD put_header.signature κs) where
  pub put_header_agrees : (r r' : ResD put_header.signature κs) (s s' : AtExit (ended_of 1 put_header_kinds.ps put_header_kinds.r) κs) →
      put_header_reads.Post κs a r s → put_header_reads.Post κs a r' s' → s.0.now ≡ s'.0.now
  put_header_agrees r r' s s' p q = same p q
