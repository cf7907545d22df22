-- `ip_open::open_in` meets its contract: the numbers are read one by one. Assumes nothing.
use Rattle.ip_open.specs.Opening.{opened_in}
use Rattle.ip_open.proofs.open_in.Goals as goal

pub returns-then-is_open : goal.returns-then-is_open
unfolding opened_in
returns-then-is_open c = cc

pub returns-else-is_open : goal.returns-else-is_open
unfolding opened_in
returns-else-is_open c = cc
