-- What is asked of the writer, over the promise of the exported one.
-- Assumes nothing.
use mathlib.Core.Path.{◌≡◌}
use contract.Lifetimes.{Lfts}
use borrow.Fn.World.{ArgsD, ResD}
use borrow.Fn.Kinds.{ended_of}
use denote.Triple.Clauses.{AtExit}
use lib.ListN.{length}
use Rattle.description.specs.Demand.{Wanted}
use Rattle.description.proofs.DemandWrite.{wanted}
use Rattle.opl.specs.contracts.opl_signalling_write as opl_signalling_write
use Rattle.opl.proofs.opl_signalling_write.Kinds as kinds
use Rattle.opl.proofs.opl_signalling_write.Reads as reads

-- Given 96 bytes lent: the number is 0 exactly when the sheet is that of some description that keeps the rules;
-- that description is the only one; the 96 bytes are then its layout; and a refusal leaves them as before.
module _ (κs : Lfts 2) (a : ArgsD opl_signalling_write.signature κs) where
  pub wants : (r : ResD opl_signalling_write.signature κs) (s : AtExit (ended_of 2 kinds.ps kinds.r) κs) → reads.Post κs a r s → length a.1.0.now ≡ 96
      → Wanted a.0.now a.1.0.now r s.1.0.now
  wants r s p n = wanted a.0.now a.1.0.now r s.1.0.now p.1 n p.0
