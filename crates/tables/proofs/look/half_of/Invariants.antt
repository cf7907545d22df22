-- `tables::look::half_of` meets its contract: j of the three tables are there. Assumes nothing.
use Prim.Native.Nat.{◌*◌}
use mathlib.Core.Path.{◌≡◌}
use lib.ListN.{take}
use Rattle.ground.specs.Table.{tab}
use Rattle.tables.specs.Plan.{look_at}
use Rattle.tables.proofs.look.half_of.Given as goal

abbrev pub invariant-loop-j : goal.invariant-loop-j
invariant-loop-j l = take (64 * l.j) l.t ≡ tab (look_at l.rows) (192 * l.h) (64 * l.j)
