-- `headers::header_wrong` meets its contract. Assumes nothing.
use Rattle.std.proofs.Common.{rules}
use Rattle.description.specs.Header.{header_fault}
use Rattle.headers.proofs.header_wrong.Goals as goal

pub returns-then-two_at-o-4 : goal.returns-then-two_at-o-4
unfolding header_fault
returns-then-two_at-o-4 c = search rules

pub returns-else-two_at-o-4 : goal.returns-else-two_at-o-4
unfolding header_fault
returns-else-two_at-o-4 c = search rules
