-- `preamble::write` meets its contract. Assumes nothing.
use mathlib.Core.Path.{◌∙◌}
use native.Mathlib.Omega.{arith}
use Rattle.preamble.proofs.Laws.{refused, done}
use Rattle.preamble.proofs.write.Goals as goal

pub returns-then-out-ne-PREAMBLE : goal.returns-then-out-ne-PREAMBLE
returns-then-out-ne-PREAMBLE c =
    let a = c.args in
    refused a.inverted a.out.now (λ e. omega (arith, c.if-out-ne-PREAMBLE.true))

pub returns : goal.returns
returns c =
    let a = c.args in
    done a.inverted a.out.now _ (omega (arith, c.if-out-ne-PREAMBLE.false)) (c.copy_from_slice.ensures.after ∙ c.due.ensures)
