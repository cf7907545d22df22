-- `parts::part` meets its contract: after i bytes v is the part of the i bytes. Assumes nothing.
use native.Mathlib.Omega.{arith}
use Rattle.parity.proofs.Steps.{run_none, run_all}
use Rattle.parts.proofs.part.Goals as goal

pub loop-i-init : goal.loop-i-init
loop-i-init c =
    let a = c.args in
    (omega arith, run_none a.word.now a.from)

pub returns : goal.returns
returns c =
    let a = c.args in
    let l = c.loop-i in
    run_all a.word.now a.from l.i l.v l.invariant.1 (omega arith)
