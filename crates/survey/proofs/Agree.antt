-- Of every public function of this crate: any two outcomes that its promise allows agree.
-- Assumes nothing.
use mathlib.Core.Path.{◌≡◌}
use contract.Lifetimes.{Lfts}
use borrow.Fn.World.{ArgsD, ResD}
use borrow.Fn.Kinds.{ended_of}
use denote.Triple.Clauses.{AtExit}
use Rattle.ground.proofs.Outcome.{same}
use Rattle.sheets.proofs.Told.{told_one}
use Rattle.survey.specs.contracts.survey as survey
use Rattle.survey.proofs.survey.Kinds as survey_kinds
use Rattle.survey.proofs.survey.Reads as survey_reads

module _ (κs : Lfts 1) (a : ArgsD survey.signature κs) where
  pub survey_agrees : (r r' : ResD survey.signature κs) (s s' : AtExit (ended_of 1 survey_kinds.ps survey_kinds.r) κs) →
      survey_reads.Post κs a r s → survey_reads.Post κs a r' s' → r ≡ r'
  survey_agrees r r' s s' p q = told_one r r' (same p q)
