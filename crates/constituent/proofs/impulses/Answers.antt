-- `constituent::impulses` meets its contract. Assumes nothing.
use mathlib.Core.Path.{refl}
use Rattle.ground.specs.Table.{tab}
use Rattle.bits.specs.Places.{number}
use Rattle.constituent.specs.Constituent.{y0, y1, next}
use Rattle.constituent.specs.Symbols.{data_symbols}
use Rattle.constituent.specs.Six.{impulses, joint, six, after}
use Rattle.constituent.proofs.impulses.Goals as goal

pub returns : goal.returns
unfolding impulses joint six after data_symbols number tab y0 y1 next
returns c = refl
