-- `ip_read::held::settle` meets its contract. Assumes nothing.
use borrow.Author.Rules.{rules}
use Rattle.ip_read.proofs.Opens.{settled}
use Rattle.ip_read.proofs.held.settle.Goals as goal

pub returns : goal.returns
returns c =
    let o = c.args.o in
    settled c.args.memory.now c.copy.new.out c.fill.new.out _ o.kind o.error o.length o.sofar c.told-memory c.requires.1 (search rules) c.copy.ensures c.fill.ensures
