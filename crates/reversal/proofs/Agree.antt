-- Of every public function of this crate: any two outcomes that its promise allows agree.
-- Assumes nothing.
use mathlib.Core.Path.{◌≡◌}
use contract.Lifetimes.{Lfts}
use borrow.Fn.World.{ArgsD, ResD}
use borrow.Fn.Kinds.{ended_of}
use denote.Triple.Clauses.{AtExit}
use Rattle.ground.proofs.Outcome.{same}
use Rattle.reversal.specs.contracts.reversed as reversed
use Rattle.reversal.proofs.reversed.Kinds as reversed_kinds
use Rattle.reversal.proofs.reversed.Reads as reversed_reads

module _ (κs : Lfts 0) (a : ArgsD reversed.signature κs) where
  pub reversed_agrees : (r r' : ResD reversed.signature κs) (s s' : AtExit (ended_of 0 reversed_kinds.ps reversed_kinds.r) κs) →
      reversed_reads.Post κs a r s → reversed_reads.Post κs a r' s' → r ≡ r'
  reversed_agrees r r' s s' p q = same p q
