-- `sheets::owned::owned_at` meets its contract. Assumes nothing.
use Rattle.sheets.proofs.Owning.{Sum}
use Rattle.sheets.proofs.owned.owned_at.Given as goal

abbrev pub invariant-loop-i : goal.invariant-loop-i
invariant-loop-i l = Sum l.w l.at l.i l.s l.d
