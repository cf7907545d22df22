-- `ip_open::is_open` meets its contract. Assumes nothing.
use native.Mathlib.Omega.{arith}
use Rattle.std.proofs.lemmas.Bool.Decides.{nat_tests}
use Rattle.ip_open.proofs.is_open.Goals as goal

pub returns-else-spare-eq0 : goal.returns-else-spare-eq0
returns-else-spare-eq0 c = grind (arith, nat_tests)
