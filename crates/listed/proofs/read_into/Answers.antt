-- `listed::read_into` meets its contract. Assumes nothing.
use mathlib.Core.Path.{◌∙◌}
use Rattle.listed.proofs.Packing.{singles_small, read_is}
use Rattle.listed.proofs.read_into.Goals as goal

pub invariant_of-block-clause-single : goal.invariant_of-block-clause-single
invariant_of-block-clause-single c = singles_small c.args.word.now _ c.unpack.ensures

pub returns : goal.returns
returns c = c.pack.ensures ∙ read_is c.args.word.now _ c.unpack.ensures
