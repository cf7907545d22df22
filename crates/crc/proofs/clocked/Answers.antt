-- `crc::clocked` meets its contract. Assumes nothing.
use mathlib.Core.Path.{refl}
use Rattle.crc.specs.Crc.{clock}
use Rattle.crc.proofs.clocked.Goals as goal

pub returns : goal.returns
unfolding clock
returns c = refl
