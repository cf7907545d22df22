-- Of every public function of this crate: any two outcomes that its promise allows agree.
-- Assumes nothing.
use mathlib.Core.Path.{◌≡◌}
use contract.Lifetimes.{Lfts}
use borrow.Fn.World.{ArgsD, ResD}
use borrow.Fn.Kinds.{ended_of}
use denote.Triple.Clauses.{AtExit}
use Rattle.ground.proofs.Outcome.{same}
use Rattle.tables.specs.contracts.plan_into as plan_into
use Rattle.tables.proofs.plan_into.Kinds as plan_into_kinds
use Rattle.tables.proofs.plan_into.Reads as plan_into_reads
use Rattle.tables.specs.contracts.plan_of as plan_of
use Rattle.tables.proofs.plan_of.Kinds as plan_of_kinds
use Rattle.tables.proofs.plan_of.Reads as plan_of_reads

module _ (κs : Lfts 2) (a : ArgsD plan_into.signature κs) where
  pub plan_into_agrees : (r r' : ResD plan_into.signature κs) (s s' : AtExit (ended_of 2 plan_into_kinds.ps plan_into_kinds.r) κs) →
      plan_into_reads.Post κs a r s → plan_into_reads.Post κs a r' s' → s.1.0.now ≡ s'.1.0.now
  plan_into_agrees r r' s s' p q = same p q

module _ (κs : Lfts 1) (a : ArgsD plan_of.signature κs) where
  pub plan_of_agrees : (r r' : ResD plan_of.signature κs) (s s' : AtExit (ended_of 1 plan_of_kinds.ps plan_of_kinds.r) κs) →
      plan_of_reads.Post κs a r s → plan_of_reads.Post κs a r' s' → r ≡ r'
  plan_of_agrees r r' s s' p q = same p q
