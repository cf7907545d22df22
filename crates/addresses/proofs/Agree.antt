-- Of every public function of this crate: any two outcomes that its promise allows agree.
-- Assumes nothing.
use mathlib.Core.Path.{◌≡◌}
use contract.Lifetimes.{Lfts}
use borrow.Fn.World.{ArgsD, ResD}
use borrow.Fn.Kinds.{ended_of}
use denote.Triple.Clauses.{AtExit}
use Rattle.ground.proofs.Outcome.{same}
use Rattle.addresses.specs.contracts.signalling as signalling
use Rattle.addresses.proofs.signalling.Kinds as signalling_kinds
use Rattle.addresses.proofs.signalling.Reads as signalling_reads

module _ (κs : Lfts 0) (a : ArgsD signalling.signature κs) where
  pub signalling_agrees : (r r' : ResD signalling.signature κs) (s s' : AtExit (ended_of 0 signalling_kinds.ps signalling_kinds.r) κs) →
      signalling_reads.Post κs a r s → signalling_reads.Post κs a r' s' → r ≡ r'
  signalling_agrees r r' s s' p q = same p q
