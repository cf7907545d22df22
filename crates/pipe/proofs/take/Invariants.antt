-- `pipe::take` meets its contract: after w slots the ring has their mixed codewords. Assumes nothing.
use Prim.Native.Nat.{◌*◌}
use mathlib.Core.Path.{◌≡◌}
use lib.Seq.{paste}
use Rattle.pipe.specs.Frame.{mixed_frame}
use Rattle.pipe.proofs.take.Given as goal

abbrev pub invariant-loop-w : goal.invariant-loop-w
invariant-loop-w l = l.ring ≡ paste l.initial.ring l.at (mixed_frame l.pattern l.slots l.codewords) (l.w * l.size)
