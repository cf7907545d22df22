-- `tail::tails` meets its contract. Assumes nothing.
use mathlib.Core.Path.{refl}
use Rattle.ground.specs.Table.{tab}
use Rattle.bits.specs.Places.{number}
use Rattle.constituent.specs.Constituent.{y0, y1, next, feed, clocked}
use Rattle.constituent.specs.Symbols.{tail_symbols1, tail_symbols2}
use Rattle.tail.specs.Inside.{tail_of, tails}
use Rattle.tail.proofs.tails.Goals as goal

pub returns : goal.returns
unfolding tails tail_of tail_symbols1 tail_symbols2 number tab y0 y1 next feed clocked
returns c = refl
