-- `puncturing::spaced` meets its contract. Assumes nothing.
use mathlib.Core.Path.{refl}
use Rattle.puncturing.specs.Inside.{spaced}
use Rattle.puncturing.proofs.spaced.Goals as goal

pub returns : goal.returns
unfolding spaced
returns c = refl
