-- `placement::place_group` meets its contract. Assumes nothing.
use Rattle.ground.specs.Outcome.{Is}
use Rattle.placement.specs.Inside.{placed_group}
use Rattle.placement.proofs.place_group.Given as goal

abbrev pub invariant-loop-j : goal.invariant-loop-j
invariant-loop-j l = Is (placed_group l.values l.initial.v l.counts l.initial.lane l.k l.j) l.v l.lane
