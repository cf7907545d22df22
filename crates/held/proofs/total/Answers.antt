-- `held::total` meets its contract: the sum of some values has at most as many times a byte's size, so that nothing wraps. Assumes nothing.
use native.Mathlib.Omega.{arith}
use mathlib.Core.Path.{refl}
use Rattle.std.proofs.lemmas.Int.{ints, to_z-of_z}
use Rattle.held.specs.Held.{sum}
use Rattle.held.proofs.Sums.{sum_next}
use Rattle.held.proofs.total.Goals as goal

pub loop-value-init : goal.loop-value-init
unfolding sum
loop-value-init c = (refl, omega (arith, ints), omega (arith, ints))

pub loop-value-preserved : goal.loop-value-preserved
loop-value-preserved c = (grind (arith, ints, to_z-of_z, sum_next), omega (arith, ints), omega (arith, ints))
