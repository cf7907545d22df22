-- Round trips over the promises of the reader and writer: the word comes back, the sheet comes back, and two sheets with one word are one sheet.
-- Assumes nothing.
use Prim.Native.Nat.{◌≤◌}
use mathlib.Core.Path.{◌≡◌, refl}
use contract.Lifetimes.{Lfts}
use borrow.Fn.World.{ArgsD, ResD}
use borrow.Fn.Kinds.{ended_of}
use denote.Triple.Clauses.{AtExit}
use lib.ListN.{length}
use Rattle.ground.specs.Refusals.{status}
use Rattle.ground.proofs.Outcome.{number_is}
use Rattle.description.specs.Demand.{WordBack, SheetBack, OneSheet}
use Rattle.description.proofs.RoundTrip.{word_back, sheet_back, same_sheet}
use Rattle.sheets.specs.Answers.{told}
use Rattle.to_sheet.specs.contracts.read as read
use Rattle.to_sheet.proofs.read.Kinds as read_kinds
use Rattle.to_sheet.proofs.read.Reads as read_reads
use Rattle.to_word.specs.contracts.write as write
use Rattle.to_word.proofs.write.Kinds as write_kinds
use Rattle.to_word.proofs.write.Reads as write_reads

-- a call of the reader and a call of the writer
module _ (κs κs' : Lfts 2) (a : ArgsD read.signature κs) (a' : ArgsD write.signature κs')
    (r : ResD read.signature κs) (s : AtExit (ended_of 2 read_kinds.ps read_kinds.r) κs) (p : read_reads.Post κs a r s)
    (r' : ResD write.signature κs') (s' : AtExit (ended_of 2 write_kinds.ps write_kinds.r) κs') (q : write_reads.Post κs' a' r' s') where
  -- where the word is accepted, and the writer is given the sheet at the front of the room, the word is back
  pub write_after_read : length a'.1.0.now ≡ 96 → WordBack a.0.now (told r).number s.1.0.now a'.0.now (status r') s'.1.0.now
  write_after_read =
      word_back a.0.now a.1.0.now s.1.0.now a'.0.now a'.1.0.now s'.1.0.now (told r).number (status r') (number_is p.0 refl) q.0 p.1

  -- where the sheet is accepted, and the reader is given the word written, the sheet is back at the front of the room
  pub read_after_write : 128 ≤ length a.1.0.now → SheetBack a'.0.now (status r') s'.1.0.now a.0.now a.1.0.now (told r).number s.1.0.now
  read_after_write =
      sheet_back a'.0.now a'.1.0.now s'.1.0.now a.0.now a.1.0.now s.1.0.now (status r') (told r).number q.0 (number_is p.0 refl) q.1

-- two calls of the writer
module _ (κs κs' : Lfts 2) (a : ArgsD write.signature κs) (a' : ArgsD write.signature κs')
    (r : ResD write.signature κs) (s : AtExit (ended_of 2 write_kinds.ps write_kinds.r) κs) (p : write_reads.Post κs a r s)
    (r' : ResD write.signature κs') (s' : AtExit (ended_of 2 write_kinds.ps write_kinds.r) κs') (q : write_reads.Post κs' a' r' s') where
  -- where both sheets are accepted and the words are one, the sheets are one
  pub one_sheet : OneSheet a.0.now (status r) s.1.0.now a'.0.now (status r') s'.1.0.now
  one_sheet = same_sheet a.0.now a'.0.now a.1.0.now a'.1.0.now s.1.0.now s'.1.0.now (status r) (status r') p.0 q.0 p.1 q.1
