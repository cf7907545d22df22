-- `encapsulation::transport::fill_up` meets its contract: after k packets those from count to k are null packets. Assumes nothing.
use Rattle.encapsulation.proofs.Stores.{fill_none, fill_more, fill_all}
use Rattle.encapsulation.proofs.transport.fill_up.Goals as goal

pub loop-k-init : goal.loop-k-init
loop-k-init c =
    fill_none c.args.word.now c.args.null.now c.args.count c.told-word c.requires.0 c.requires.1

pub loop-k-preserved : goal.loop-k-preserved
loop-k-preserved c =
    fill_more c.args.word.now c.args.null.now c.args.count c.told-word c.requires.0 c.loop-k.k c.loop-k.word _ c.loop-k-test.true c.loop-k.invariant c.copy.ensures

pub returns : goal.returns
returns c =
    fill_all c.args.word.now c.args.null.now c.args.count c.told-word c.requires.0 c.loop-k.k c.loop-k.word c.loop-k-test.false c.loop-k.invariant
