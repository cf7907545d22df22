-- `ip_head::head_of` meets its contract. Assumes nothing.
use native.Mathlib.Omega.{arith}
use Rattle.ip_head.proofs.Fields.{head_is}
use Rattle.ip_head.proofs.head_of.Goals as goal

pub returns : goal.returns
returns c =
    let e = c.two-v.ensures in
    (head_is c.args.a c.args.b c.two-v.result e.1 e.2 e.0, omega arith)
