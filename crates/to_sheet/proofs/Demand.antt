-- Demand 3, over the reader's own promise.
-- Assumes nothing.
use Prim.Native.Nat.{◌≤◌}
use mathlib.Core.Path.{refl}
use contract.Lifetimes.{Lfts}
use borrow.Fn.World.{ArgsD, ResD}
use borrow.Fn.Kinds.{ended_of}
use denote.Triple.Clauses.{AtExit}
use lib.ListN.{length}
use Rattle.ground.proofs.Outcome.{number_is}
use Rattle.description.specs.Demand.{Demanded, CountsTold}
use Rattle.description.proofs.Demand.{demanded, counts_told}
use Rattle.sheets.specs.Answers.{told}
use Rattle.to_sheet.specs.contracts.read as read
use Rattle.to_sheet.proofs.read.Kinds as read_kinds
use Rattle.to_sheet.proofs.read.Reads as read_reads

-- Given at least 128 bytes of room: the reader accepts exactly when some description that keeps the rules is laid out as the lent bytes;
-- that description is the only one; the sheet handed out is its sheet, the bytes past it as before; and the counts told are those of its lists.
module _ (κs : Lfts 2) (a : ArgsD read.signature κs) where
  pub demand : (r : ResD read.signature κs) (s : AtExit (ended_of 2 read_kinds.ps read_kinds.r) κs) → read_reads.Post κs a r s → 128 ≤ length a.1.0.now
      → Demanded a.0.now a.1.0.now (told r).number s.1.0.now × CountsTold a.0.now (told r).values
  demand r s p room = (
    demanded a.0.now a.1.0.now (told r).number s.1.0.now p.1 room (number_is p.0 refl),
    counts_told a.0.now a.1.0.now (told r) s.1.0.now p.1 room p.0,
  )
