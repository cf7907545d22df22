-- `ip_read::taking::begin` meets its contract. Assumes nothing.
use Rattle.ip_read.proofs.Takes.{begun_laid}
use Rattle.ip_read.proofs.taking.begin.Goals as goal

pub returns : goal.returns
returns c =
    begun_laid c.args.memory.now c.copy.new.out c.settle.new.memory c.args.payload.now c.args.at c.head_of-head.result c.told-memory c.told-payload c.requires c.head_of-head.ensures.0
    c.copy.ensures c.settle.ensures
