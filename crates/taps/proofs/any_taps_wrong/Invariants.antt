-- `taps::any_taps_wrong` meets its contract. Assumes nothing.
use Rattle.taps.proofs.Tapping.{Tapped}
use Rattle.taps.proofs.any_taps_wrong.Given as goal

abbrev pub invariant-loop-i : goal.invariant-loop-i
invariant-loop-i l = Tapped l.w l.v l.p l.i l.from
