-- `pairs::couple` meets its contract. Assumes nothing.
use Rattle.pairs.specs.Inside.{Coupled}
use Rattle.pairs.proofs.couple.Given as goal

abbrev pub invariant-loop-y : goal.invariant-loop-y
invariant-loop-y l = Coupled l.word l.from l.half l.initial.d l.d l.y
