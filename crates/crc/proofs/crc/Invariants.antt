-- `crc::crc` meets its contract: after i bits the register is that of the i bits, and within its stages. Assumes nothing.
use Prim.Native.Nat.{◌^◌, ◌≤◌, ◌<◌}
use mathlib.Core.Path.{◌≡◌}
use Rattle.ground.specs.Table.{tab}
use Rattle.bits.specs.Places.{bit_at}
use Rattle.crc.specs.Crc.{clocks}
use Rattle.crc.proofs.crc.Given as goal

abbrev pub invariant-loop-i : goal.invariant-loop-i
invariant-loop-i l = (l.i ≤ l.n) × (l.r ≡ clocks l.top l.poly l.ones (tab (bit_at l.word) l.at l.i)) × (l.r < 2 ^ l.width)
