-- `words::line` meets its contract: after i turns i signs are put. Assumes nothing.
use Rattle.std.specs.Slice.Iter.{iter_rest}
use Rattle.words.proofs.Filled.{Passed}
use Rattle.words.proofs.line.Given as goal

abbrev pub invariant-loop-c : goal.invariant-loop-c
invariant-loop-c l = Passed l.initial.out l.at l.text l.numbers l.out l.to (iter_rest l.left) l.c-index
