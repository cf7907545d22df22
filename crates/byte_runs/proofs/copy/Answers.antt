-- `bytes::copy` meets its contract: after i bytes the first i of the run stand at the place. Assumes nothing.
use Prim.Native.Nat.{ℕ, ◌+◌}
use mathlib.Core.Path.{sym, ap, ◌∙◌}
use mathlib.Core.List.{List}
use native.Mathlib.Numerals.{add-one}
use native.Mathlib.Omega.{arith}
use lib.ListN.{set, get_or}
use lib.Seq.{paste, paste-zero, paste-suc}
use Rattle.byte_runs.proofs.Runs.{copied_not, copied_all}
use Rattle.byte_runs.proofs.copy.Goals as goal

pub loop-i-init : goal.loop-i-init
loop-i-init c =
    let a = c.args in
    (omega arith, omega arith, paste-zero a.out.now a.at a.run.now)

pub loop-i-preserved : goal.loop-i-preserved
loop-i-preserved c =
    let a = c.args in
    let m : List ℕ = a.out.now in
    let x : List ℕ = a.run.now in (
      omega arith,
      c.loop-i.invariant.1,
      ap (λ (y : List ℕ). set y (a.at + c.loop-i.i) (get_or x c.loop-i.i 0)) c.loop-i.invariant.2
          ∙ paste-suc m a.at x c.loop-i.i 0 (omega arith) (omega arith) ∙ ap (paste m a.at x) (sym (add-one c.loop-i.i)),
    )

pub returns-after-loop-i : goal.returns-after-loop-i
returns-after-loop-i c =
    let a = c.args in
    c.loop-i.invariant.2 ∙ copied_all a.run.now a.out.now a.at c.loop-i.invariant.1 c.loop-i.i (omega arith)

pub returns-else-at-out : goal.returns-else-at-out
returns-else-at-out c =
    let a = c.args in
    sym (copied_not a.run.now a.out.now a.at (omega arith))
