-- The check of a sheet, over its own promise.
-- Assumes nothing.
use Prim.Native.Nat.{◌<◌}
use mathlib.Core.Path.{◌≡◌, ◌∙◌}
use contract.Lifetimes.{Lfts}
use borrow.Fn.World.{ArgsD, ResD}
use borrow.Fn.Kinds.{ended_of}
use denote.Triple.Clauses.{AtExit}
use lib.ListN.{length}
use Rattle.ground.proofs.Answers.{refused_by}
use Rattle.description.specs.Demand.{Judged}
use Rattle.description.proofs.DemandWrite.{judged, long_refused}
use Rattle.sheets.specs.Answers.{told}
use Rattle.forms.specs.contracts.check as check
use Rattle.forms.proofs.check.Kinds as check_kinds
use Rattle.forms.proofs.check.Reads as check_reads

module _ (κs : Lfts 1) (a : ArgsD check.signature κs) (r : ResD check.signature κs) (s : AtExit (ended_of 1 check_kinds.ps check_kinds.r) κs) (p : check_reads.Post κs a r s) where
  -- a sheet is accepted exactly when it is that of a description that keeps the rules, and the counts told are then those of its lists
  pub judges : Judged a.0.now (told r).number (told r).values
  judges = judged a.0.now (told r) p.1 p.0

  -- a sheet of more than 2,571 bytes is refused with 12
  pub longer : 2571 < length a.0.now → told r ≡ refused_by 12
  longer n = p.0 ∙ long_refused a.0.now p.1 n
