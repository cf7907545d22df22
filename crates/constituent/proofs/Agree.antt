-- Of every public function of this crate: any two outcomes that its promise allows agree.
-- Assumes nothing.
use mathlib.Core.Path.{◌≡◌}
use contract.Lifetimes.{Lfts}
use borrow.Fn.World.{ArgsD, ResD}
use borrow.Fn.Kinds.{ended_of}
use denote.Triple.Clauses.{AtExit}
use Rattle.ground.proofs.Outcome.{same}
use Rattle.constituent.specs.contracts.impulses as impulses
use Rattle.constituent.proofs.impulses.Kinds as impulses_kinds
use Rattle.constituent.proofs.impulses.Reads as impulses_reads

module _ (κs : Lfts 0) (a : ArgsD impulses.signature κs) where
  pub impulses_agrees : (r r' : ResD impulses.signature κs) (s s' : AtExit (ended_of 0 impulses_kinds.ps impulses_kinds.r) κs) →
      impulses_reads.Post κs a r s → impulses_reads.Post κs a r' s' → r ≡ r'
  impulses_agrees r r' s s' p q = same p q
