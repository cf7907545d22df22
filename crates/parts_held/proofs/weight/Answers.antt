-- `parts_held::weight` meets its contract. Assumes nothing.
use mathlib.Core.Path.{◌∙◌}
use native.Mathlib.Omega.{arith}
use borrow.Author.Tests.{eq-eqb, ne_eqb}
use Rattle.ground.proofs.Choice.{choose_true, choose_false}
use Rattle.parity.proofs.Received.{holds_by}
use Rattle.parts_held.proofs.weight.Goals as goal

pub returns-then-high-low : goal.returns-then-high-low
returns-then-high-low c =
    let a = c.args in
    let test = holds_by a.word.now a.k a.v c.field-high.ensures c.field-low.ensures c.requires.1 (omega arith) in
    (omega (arith, choose_true a.value 0 (test ∙ eq-eqb _ a.v (omega (arith, c.if-high-low.true)))), omega arith)

pub returns-else-high-low : goal.returns-else-high-low
returns-else-high-low c =
    let a = c.args in
    let test = holds_by a.word.now a.k a.v c.field-high.ensures c.field-low.ensures c.requires.1 (omega arith) in
    (omega (arith, choose_false a.value 0 (test ∙ ne_eqb _ a.v c.if-high-low.false)), omega arith)
