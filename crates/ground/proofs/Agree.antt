-- Of every public function of this crate: any two outcomes that its promise allows agree.
-- Assumes nothing.
use mathlib.Core.Path.{◌≡◌}
use contract.Lifetimes.{Lfts}
use borrow.Fn.World.{ArgsD, ResD}
use borrow.Fn.Kinds.{ended_of}
use denote.Triple.Clauses.{AtExit}
use denote.RattleType.{RattleType}
use denote.Param.Laws.{Laws, IsCopy}
use mir.Syntax.{Dict}
use Rattle.std.specs.declared.clone.Clone.{Ghosts}
use Rattle.ground.proofs.Outcome.{same}
use Rattle.ground.specs.contracts.refusal.Refusal.number as number
use Rattle.ground.proofs.refusal.Refusal.number.Kinds as number_kinds
use Rattle.ground.proofs.refusal.Refusal.number.Reads as number_reads
use Rattle.ground.specs.contracts.refusal.status as status
use Rattle.ground.proofs.refusal.status.Kinds as status_kinds
use Rattle.ground.proofs.refusal.status.Reads as status_reads

module _ (κs : Lfts 0) (a : ArgsD number.signature κs) where
  pub number_agrees : (r r' : ResD number.signature κs) (s s' : AtExit (ended_of 0 number_kinds.ps number_kinds.r) κs) →
      number_reads.Post κs a r s → number_reads.Post κs a r' s' → r ≡ r'
  number_agrees r r' s s' p q = same p q

module _ (T : RattleType) (L : Laws T) (C : IsCopy T) (G : Ghosts T.Denot) (d : Dict) (κs : Lfts 1) (a : ArgsD (status.signature T) κs) where
  pub status_agrees : (r r' : ResD (status.signature T) κs) (s s' : AtExit (ended_of 1 (status_kinds.ps T L C) (status_kinds.r T L C)) κs) →
      status_reads.Post T L C G d κs a r s → status_reads.Post T L C G d κs a r' s' → r ≡ r'
  status_agrees r r' s s' p q = same p q
