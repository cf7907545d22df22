-- `pairs::block_of` meets its contract. Assumes nothing.
use Rattle.pairs.proofs.Copying.{copied}
use Rattle.pairs.proofs.block_of.Goals as goal

pub returns : goal.returns
returns c = copied c.args.word.now _ c.min-n.result c.min-n.ensures c.copy_from_slice.ensures.after
