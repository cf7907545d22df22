-- `turbo::stream::send` meets its contract. Assumes nothing.
use Prim.Native.Nat.{◌*◌}
use mathlib.Core.Path.{◌≡◌}
use lib.ListN.{length}
use Rattle.turbo.specs.Stream.{Sent}
use Rattle.turbo.proofs.stream.send.Given as goal

abbrev pub invariant-loop-i : goal.invariant-loop-i
invariant-loop-i l = Sent l.pattern l.n l.word l.out l.c (4 * l.i) × (length l.out ≡ length l.initial.out)
