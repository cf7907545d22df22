-- What is asked of the writer, over its own promise.
-- Assumes nothing.
use mathlib.Core.Path.{◌≡◌}
use contract.Lifetimes.{Lfts}
use borrow.Fn.World.{ArgsD, ResD}
use borrow.Fn.Kinds.{ended_of}
use denote.Triple.Clauses.{AtExit}
use lib.ListN.{length}
use Rattle.ground.specs.Refusals.{status}
use Rattle.description.specs.Demand.{Wanted}
use Rattle.description.proofs.DemandWrite.{wanted}
use Rattle.to_word.specs.contracts.write as write
use Rattle.to_word.proofs.write.Kinds as write_kinds
use Rattle.to_word.proofs.write.Reads as write_reads

-- Given 96 bytes lent: the writer accepts exactly when the sheet is that of some description that keeps the rules;
-- that description is the only one; the 96 bytes are then its layout; and a refusal leaves them as before.
module _ (κs : Lfts 2) (a : ArgsD write.signature κs) where
  pub wants : (r : ResD write.signature κs) (s : AtExit (ended_of 2 write_kinds.ps write_kinds.r) κs) → write_reads.Post κs a r s → length a.1.0.now ≡ 96
      → Wanted a.0.now a.1.0.now (status r) s.1.0.now
  wants r s p n = wanted a.0.now a.1.0.now (status r) s.1.0.now p.1 n p.0
