-- `records::tail_at` meets its contract. Assumes nothing.
use Rattle.records.proofs.Fields.{tail_read}
use Rattle.records.proofs.tail_at.Goals as goal

pub returns : goal.returns
returns c = let a = c.args in tail_read a.w.now a.at c.field.ensures
