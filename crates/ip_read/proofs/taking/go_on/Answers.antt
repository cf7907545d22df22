-- `ip_read::taking::go_on` meets its contract. Assumes nothing.
use native.Mathlib.Omega.{arith}
use Rattle.ip_read.proofs.Takes.{further_laid}
use Rattle.ip_read.proofs.taking.go_on.Goals as goal

pub returns : goal.returns
returns c =
    let o = c.args.o in
    further_laid c.args.memory.now c.copy.new.out c.settle.new.memory c.args.payload.now o.kind o.error o.length o.sofar c.told-memory c.told-payload
    (omega (arith, c.requires.0, c.requires.1)) c.copy.ensures c.settle.ensures
