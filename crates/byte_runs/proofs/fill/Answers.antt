-- `bytes::fill` meets its contract. Assumes nothing.
use Prim.Native.Nat.{◌-◌}
use mathlib.Core.Path.{sym, ap, ◌∙◌}
use native.Mathlib.Omega.{arith}
use lib.ListN.{length, drop, replicate, length-drop}
use lib.Seq.{take_all}
use Rattle.byte_runs.proofs.Runs.{filled_is, fill_none}
use Rattle.byte_runs.proofs.fill.Goals as goal

pub returns-then-at-out : goal.returns-then-at-out
returns-then-at-out c =
    let m = c.args.out.now in
    let rest = drop c.args.at m in
    let e = ap length (take_all (length m - c.args.at) rest (omega (arith, length-drop c.args.at m))) ∙ length-drop c.args.at m in
    filled_is m c.args.at c.args.byte (c.fill.ensures.after (λ y e. e) ∙ ap (λ n. replicate n c.args.byte) e)

pub returns-else-at-out : goal.returns-else-at-out
returns-else-at-out c = sym (fill_none c.args.out.now c.args.at c.args.byte (omega arith))
