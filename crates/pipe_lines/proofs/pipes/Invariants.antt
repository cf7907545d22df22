-- `pipe_lines::pipes` meets its contract: after i turns the lines of i pipes are put. Assumes nothing.
use Rattle.pipe_lines.proofs.Lined.{Lined}
use Rattle.pipe_lines.proofs.pipes.Given as goal

abbrev pub invariant-loop-i : goal.invariant-loop-i
invariant-loop-i l = Lined l.initial.out l.to l.sheet l.at l.out l.next l.i
