-- `to_word::lay::waiting` meets its contract. Assumes nothing.
use Rattle.bits.proofs.Below.{below_of}
use Rattle.to_word.proofs.Sinks.{waits}
use Rattle.to_word.proofs.lay.waiting.Goals as goal

pub returns : goal.returns
returns c = waits _ c.args.place (below_of 256 _ c.fits-word) c.field.ensures
