-- `sheets::owned::tail_owned_at` meets its contract. Assumes nothing.
use Rattle.std.proofs.Common.{rules}
use Rattle.description.specs.Description.{tail_owns}
use Rattle.records.specs.Records.{tail_at}
use Rattle.sheets.specs.Owned.{tail_owned_at}
use Rattle.sheets.proofs.owned.tail_owned_at.Goals as goal

pub returns : goal.returns
unfolding tail_at tail_owned_at tail_owns
returns c = search rules
