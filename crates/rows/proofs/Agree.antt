-- Of every public function of this crate: any two outcomes that its promise allows agree.
-- Assumes nothing.
use mathlib.Core.Path.{◌≡◌}
use contract.Lifetimes.{Lfts}
use borrow.Fn.World.{ArgsD, ResD}
use borrow.Fn.Kinds.{ended_of}
use denote.Triple.Clauses.{AtExit}
use Rattle.ground.proofs.Outcome.{same}
use Rattle.rows.specs.contracts.rows_of as rows_of_lem
use Rattle.rows.proofs.rows_of.Kinds as rows_of_kinds
use Rattle.rows.proofs.rows_of.Reads as rows_of_reads

module _ (κs : Lfts 1) (a : ArgsD rows_of_lem.signature κs) where
  pub rows_of_agrees : (r r' : ResD rows_of_lem.signature κs) (s s' : AtExit (ended_of 1 rows_of_kinds.ps rows_of_kinds.r) κs) →
      rows_of_reads.Post κs a r s → rows_of_reads.Post κs a r' s' → r ≡ r'
  rows_of_agrees r r' s s' p q = same p q
