-- `ids::id_twice` meets its contract. Assumes nothing.
use Rattle.bits.specs.Places.{fields_at}
use Rattle.ids.proofs.Seen.{Seen}
use Rattle.ids.proofs.id_twice.Given as goal

abbrev pub invariant-loop-i : goal.invariant-loop-i
invariant-loop-i l = Seen (fields_at l.w l.at 16 8 l.s) l.i l.seen
