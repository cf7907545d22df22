-- `tables::weights::weigh` meets its contract. Assumes nothing.
use Rattle.tables.proofs.Weighing.{summed_none, summed_more}
use Rattle.tables.proofs.weights.weigh.Goals as goal

pub loop-t-init : goal.loop-t-init
loop-t-init c = summed_none c.args.w.now c.args.x

pub loop-t-preserved : goal.loop-t-preserved
loop-t-preserved c =
    let l = c.loop-t in
    summed_more c.args.w.now c.args.x l.sum l.t c.requires l.invariant c.loop-t-test.true
