-- Demand 3, over the promise of the exported reader.
-- Assumes nothing.
use Prim.Native.Nat.{◌≤◌}
use contract.Lifetimes.{Lfts}
use borrow.Fn.World.{ArgsD, ResD}
use borrow.Fn.Kinds.{ended_of}
use denote.Triple.Clauses.{AtExit}
use lib.ListN.{length}
use Rattle.description.specs.Demand.{Demanded}
use Rattle.description.proofs.Demand.{demanded}
use Rattle.opl.specs.contracts.opl_signalling_read as opl_signalling_read
use Rattle.opl.proofs.opl_signalling_read.Kinds as kinds
use Rattle.opl.proofs.opl_signalling_read.Reads as reads

-- Given at least 128 bytes of room: the number is 0 exactly when some description that keeps the rules is laid out as the lent bytes;
-- that description is the only one; and the sheet handed out is its sheet, the bytes past it as before.
module _ (κs : Lfts 2) (a : ArgsD opl_signalling_read.signature κs) where
  pub demand : (r : ResD opl_signalling_read.signature κs) (s : AtExit (ended_of 2 kinds.ps kinds.r) κs) → reads.Post κs a r s → 128 ≤ length a.1.0.now
      → Demanded a.0.now a.1.0.now r s.1.0.now
  demand r s p room = demanded a.0.now a.1.0.now r s.1.0.now p.1 room p.0
