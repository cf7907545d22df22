-- `placement::place_data` meets its contract. Assumes nothing.
use Prim.Native.Nat.{◌*◌, ◌%◌}
use mathlib.Core.Path.{◌≡◌}
use Rattle.placement.specs.Inside.{Placed}
use Rattle.placement.proofs.place_data.Given as goal

abbrev pub invariant-loop-i : goal.invariant-loop-i
invariant-loop-i l = (l.j ≡ l.i % 12) × Placed l.pattern l.n l.values l.lane l.at (5 * l.i)
