-- `pairs::Spread::new` meets its contract. Assumes nothing.
use native.Mathlib.Omega.{arith}
use Rattle.pairs.proofs.Spreading.{filled_none, filled_more}
use Rattle.pairs.proofs.Spread.new.Goals as goal

pub loop-y-init : goal.loop-y-init
loop-y-init c = filled_none

pub loop-y-preserved : goal.loop-y-preserved
loop-y-preserved c = let l = c.loop-y in filled_more l.table l.y l.invariant (omega arith) c.loop-y-test.true
