-- `parts_held::held` meets its contract. Assumes nothing.
use native.Mathlib.Omega.{arith}
use lib.Dec.{lit<}
use Rattle.parity.specs.Part.{held_of}
use Rattle.parity.proofs.Laws.{parts_at}
use Rattle.parts_held.proofs.held.Goals as goal

pub weight-requires : goal.weight-requires
weight-requires c =
    (lit< tt, parts_at c.args.word.now c.parts-v.result 0 c.parts-v.ensures (lit< tt))

pub weight-requires-2 : goal.weight-requires-2
weight-requires-2 c =
    (lit< tt, parts_at c.args.word.now c.parts-v.result 1 c.parts-v.ensures (lit< tt))

pub weight-requires-3 : goal.weight-requires-3
weight-requires-3 c =
    (lit< tt, parts_at c.args.word.now c.parts-v.result 2 c.parts-v.ensures (lit< tt))

pub weight-requires-4 : goal.weight-requires-4
weight-requires-4 c =
    (lit< tt, parts_at c.args.word.now c.parts-v.result 3 c.parts-v.ensures (lit< tt))

pub returns : goal.returns
unfolding held_of
returns c =
    omega (arith, c.weight.ensures.0, c.weight-2.ensures.0, c.weight-3.ensures.0, c.weight-4.ensures.0)
