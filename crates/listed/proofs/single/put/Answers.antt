-- `listed::single::put` meets its contract. Assumes nothing.
use native.Mathlib.Omega.{arith}
use Rattle.pairs.proofs.Spreading.{stored_part}
use Rattle.listed.specs.declared.single.TheConstants.{FOURS}
use Rattle.listed.specs.Inside.{four_bit}
use Rattle.listed.proofs.Singly.{row_holds, four_row}
use Rattle.listed.proofs.single.put.Goals as goal

-- the table is the code's own: of another the test is false
pub returns : goal.returns
unfolding row_holds four_bit
returns c = let e = c.copy_from_slice.ensures in stored_part _ _ _ _ _ _ c.requires.1 (omega arith) e.len (four_row FOURS _ c.args.v tt c.requires.0 e.after)
