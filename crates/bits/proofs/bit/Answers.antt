-- `bits::bit` meets its contract. Assumes nothing.
use Rattle.bits.specs.Places.{bit_at}
use Rattle.bits.proofs.bit.Goals as goal

pub returns : goal.returns
unfolding bit_at
returns c = c.bit_of.ensures
